-- The calls of a net, and those that send.
use Rattle.std.proofs.Common.{◌≡◌, ℕ, List, [], ◌∷◌, ◌++◌, refl, ap, ◌∙◌, append_assoc, subst, Option, Some, None}
use Rattle.venue_net.specs.VenueCalls.{VenueCall, Send, AddsVenueCall}
use Rattle.venue_end.specs.declared.setup.VenueSetup.{VenueSetup}
use Rattle.venue_units.specs.Coming.{UnitCame}
use Rattle.live_venue.specs.Running.{Now}
use Rattle.live_venue.specs.Sending.{Sending, to_line}
use Rattle.live_venue.specs.Serving.{AddsRun}
use Rattle.live_venue.specs.Standing.{ArePieces, RunIs, Sends}

-- ---- Calls that are listed
pub adds_none : (calls : Option (List VenueCall)) → AddsRun [] calls calls
adds_none None = tt
adds_none (Some calls) = refl

pub adds_more : (run : List VenueCall) (call : VenueCall) (a b c : Option (List VenueCall)) → AddsRun run a b → AddsVenueCall b c call → AddsRun (call ∷ run) a c
adds_more run call a b None g h = tt
adds_more run call None None (Some r) g h = h
adds_more run call None (Some q) (Some r) g h = g
adds_more run call (Some p) None (Some r) g h = absurd h
adds_more run call (Some p) (Some q) (Some r) g h = h ∙ ap (λ (l : List VenueCall). call ∷ l) g

-- ---- Pieces, some of which are sent first
pub pieces_first : (s : List VenueSetup) (came : List UnitCame) (first others : List Sending) → ArePieces s came (first ++ others) → ArePieces s came first
pieces_first s came [] others all = tt
pieces_first s came (x ∷ first) others all = (all.0, pieces_first s came first others all.1)

pub pieces_after : (s : List VenueSetup) (came : List UnitCame) (first others : List Sending) → ArePieces s came (first ++ others) → ArePieces s came others
pieces_after s came [] others all = all
pieces_after s came (x ∷ first) others all = pieces_after s came first others all.1

pub pieces_both : (s : List VenueSetup) (came : List UnitCame) (first others : List Sending) → ArePieces s came first → ArePieces s came others → ArePieces s came (first ++ others)
pieces_both s came [] others a b = b
pieces_both s came (x ∷ first) others a b = (a.0, pieces_both s came first others a.1 b)

-- ---- Sending
pub sends_none : (calls : Option (List VenueCall)) → Sends calls calls []
sends_none calls = λ s start run now rest is_run pieces unsent.
    let same : now ≡ record now { unsent = rest } = ap (λ (us : List Sending). record now { unsent = us }) unsent in
    record { longer = run; is_run = subst (λ (n : Now). RunIs s start calls run n) same is_run; same_turns = refl }

pub sends_one : (calls calls' : Option (List VenueCall)) (line : ℕ) (datagram : List ℕ) → AddsVenueCall calls calls' (Send line datagram) → Sends calls calls' (to_line line datagram ∷ [])
sends_one calls calls' line datagram adds = λ s start run now rest is_run pieces unsent. record {
  longer = Send line datagram ∷ run;
  is_run = record {
    adds = adds_more run (Send line datagram) start calls calls' is_run.adds adds;
    runs = (now, (is_run.runs, ap (λ (us : List Sending). record now { unsent = us }) unsent));
    sent = (pieces.0, is_run.sent);
    feeds = is_run.feeds;
  };
  same_turns = refl;
}

pub sends_more : (a b c : Option (List VenueCall)) (first others : List Sending) → Sends a b first → Sends b c others → Sends a c (first ++ others)
sends_more a b c first others one two = λ s start run now rest is_run pieces unsent.
    let mid = one s start run now (others ++ rest) is_run (pieces_first s now.came first others pieces) (unsent ∙ append_assoc first others rest) in
    let end = two s start mid.longer (record now { unsent = others ++ rest }) rest mid.is_run (pieces_after s now.came first others pieces) refl in
    record { longer = end.longer; is_run = end.is_run; same_turns = end.same_turns ∙ mid.same_turns }
