-- The messages of an end are those of the commands that it accepted, and what comes later appends.
use Rattle.std.proofs.Common.{◌≡◌, ℕ, Bool, true, false, cond, List, [], ◌∷◌, ◌++◌, map, eqb, Option, Some, None, is_some, refl, sym, ap, ◌∙◌, subst, append_assoc}
use Rattle.std.proofs.lemmas.List.{append-nil, map-append}
use Rattle.pitch_model.specs.History.{Raw}
use Rattle.pitch_text.specs.declared.command.Command.{Command}
use Rattle.heard_items.specs.Datagrams.{IsPiece}
use Rattle.heard_items.proofs.Datagrams.{piece_more}
use Rattle.venue_core.specs.Commands.{raw_of}
use Rattle.venue_core.specs.Refusals.{refusal}
use Rattle.venue_core.specs.declared.error.VenueError.{VenueError}
use Rattle.venue_end.specs.Came.{VenueCame, VenueState, Commanded, Flushed, Beaten, Advertised, ProxyMade, ProxyTook, ProxyPut, ProxyCut, SpinMade, SpinTook, SpinPumped, SpinPut, SpinCut, Second, AllCut, commanded_on, venue_after, venue_step}
use Rattle.venue_end.specs.declared.setup.VenueSetup.{VenueSetup}
use Rattle.venue_units.specs.Coming.{UnitCame, came_to, state_at}
use Rattle.venue_units.specs.layers.Laws.{MessagesAreTheCommands, MessagesGrow, PiecesStayPieces}
use Rattle.venue_units.specs.layers.Laws.{accepted_of, commands_in}

-- ---- Exactly those that were not refused
pub messages_are_the_commands : MessagesAreTheCommands
messages_are_the_commands s [] = refl
messages_are_the_commands s (Commanded command ∷ before) =
    let now : VenueState = venue_after s before in
    let them : List Command = accepted_of (commands_in before) in
    let is : now.messages ≡ map raw_of them = messages_are_the_commands s before in
    by now them is (refusal now.messages command) ∙ ap (λ (r : Option VenueError). map raw_of (cond (is_some r) them (them ++ command ∷ []))) (ap (λ (V : List Raw). refusal V command) is)
  where
    by : (now : VenueState) (them : List Command) → now.messages ≡ map raw_of them → (r : Option VenueError) → (commanded_on r command now).messages ≡ map raw_of (cond (is_some r) them (them ++ command ∷ []))
    by now them is (Some error) = is
    by now them is None = ap (λ (V : List Raw). V ++ raw_of command ∷ []) is ∙ sym (map-append raw_of them (command ∷ []))
messages_are_the_commands s (Flushed ∷ before) = messages_are_the_commands s before
messages_are_the_commands s (Beaten ∷ before) = messages_are_the_commands s before
messages_are_the_commands s (Advertised ∷ before) = messages_are_the_commands s before
messages_are_the_commands s (ProxyMade id ∷ before) = messages_are_the_commands s before
messages_are_the_commands s (ProxyTook id bytes ∷ before) = messages_are_the_commands s before
messages_are_the_commands s (ProxyPut id count ∷ before) = messages_are_the_commands s before
messages_are_the_commands s (ProxyCut id ∷ before) = messages_are_the_commands s before
messages_are_the_commands s (SpinMade id ∷ before) = messages_are_the_commands s before
messages_are_the_commands s (SpinTook id bytes ∷ before) = messages_are_the_commands s before
messages_are_the_commands s (SpinPumped id ∷ before) = messages_are_the_commands s before
messages_are_the_commands s (SpinPut id count ∷ before) = messages_are_the_commands s before
messages_are_the_commands s (SpinCut id ∷ before) = messages_are_the_commands s before
messages_are_the_commands s (Second ∷ before) = messages_are_the_commands s before
messages_are_the_commands s (AllCut ∷ before) = messages_are_the_commands s before

-- ---- What comes later appends
Grows : List Raw → List Raw → Type 0
Grows V W = (more : List Raw) × (W ≡ V ++ more)

module _ (V : List Raw) where
  grows_none : (W : List Raw) → W ≡ V → Grows V W
  unfolding Grows
  grows_none W is = ([], is ∙ sym (append-nil V))

  grows_on : (W more : List Raw) → Grows V W → Grows V (W ++ more)
  unfolding Grows
  grows_on W more (first, is) = (first ++ more, ap (λ (X : List Raw). X ++ more) is ∙ append_assoc V first more)

  grows_step : (s : VenueSetup) (came : VenueCame) (now : VenueState) → Grows V now.messages → Grows V (venue_step s came now).messages
  grows_step s (Commanded command) now grows = by (refusal now.messages command)
    where
      by : (r : Option VenueError) → Grows V (commanded_on r command now).messages
      by (Some error) = grows
      by None = grows_on now.messages (raw_of command ∷ []) grows
  grows_step s Flushed now grows = grows
  grows_step s Beaten now grows = grows
  grows_step s Advertised now grows = grows
  grows_step s (ProxyMade id) now grows = grows
  grows_step s (ProxyTook id bytes) now grows = grows
  grows_step s (ProxyPut id count) now grows = grows
  grows_step s (ProxyCut id) now grows = grows
  grows_step s (SpinMade id) now grows = grows
  grows_step s (SpinTook id bytes) now grows = grows
  grows_step s (SpinPumped id) now grows = grows
  grows_step s (SpinPut id count) now grows = grows
  grows_step s (SpinCut id) now grows = grows
  grows_step s Second now grows = grows
  grows_step s AllCut now grows = grows

grows_after : (s : VenueSetup) (at : ℕ) (later before : List UnitCame) → Grows (state_at s at before).messages (state_at s at (later ++ before)).messages
grows_after s at [] before = grows_none (state_at s at before).messages (state_at s at before).messages refl
grows_after s at (next ∷ later) before = by (eqb next.at at) (grows_after s at later before)
  where
    by : (b : Bool) → Grows (state_at s at before).messages (state_at s at (later ++ before)).messages → Grows (state_at s at before).messages (venue_after s (cond b (next.came ∷ came_to at (later ++ before)) (came_to at (later ++ before)))).messages
    by true grows = grows_step (state_at s at before).messages s next.came (state_at s at (later ++ before)) grows
    by false grows = grows

pub messages_grow : MessagesGrow
unfolding Grows
messages_grow s at later before = grows_after s at later before

pub pieces_stay_pieces : PiecesStayPieces
pieces_stay_pieces s at unit datagram later before piece =
    let grown = messages_grow s at later before in
    subst (λ (V : List Raw). IsPiece V unit datagram) (sym grown.1) (piece_more (state_at s at before).messages grown.0 unit datagram piece)
