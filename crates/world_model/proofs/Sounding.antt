-- Every world is sound.
use Rattle.std.proofs.Common.{◌≡◌, ℕ, zero, suc, Bool, true, false, cond, nat_lt, List, [], ◌∷◌, ◌++◌, length, drop, refl, sym, ap, ◌∙◌, subst, Option, Some, None, take, unwrap_or}
use Rattle.std.specs.Prelude.{Contains}
use Rattle.std.specs.List.{AllByRecursion, flat_map}
use Rattle.std.proofs.lemmas.List.{append-nil}
use Rattle.std.proofs.lemmas.List.Elements.{All-contains_itself, Contains-append_left, Contains-append_right, recursion_from_All}
use Rattle.std.proofs.lemmas.Option.{none-some}
use Rattle.pitch_fields.proofs.Lists.{all_append, all_drop, all_follows, all_get}
use Rattle.pitch_io.specs.declared.line.Line.{Line}
use Rattle.pitch_io.specs.declared.line.Line.TheVariants.{A, B, Gap}
use Rattle.pitch_text.specs.declared.verb.Session.{Session}
use Rattle.pitch_text.specs.declared.verb.Session.TheVariants.{Grp, Spin}
use Rattle.pitch_text.specs.declared.verb.Verb.{Verb}
use Rattle.pitch_text.specs.declared.verb.Verb.TheVariants as verbs
use Rattle.unit_packets.specs.Blocks.{Block}
use Rattle.unit_packets.specs.Cutting.{blocks_of}
use Rattle.client_end.specs.Came as client
use Rattle.client_end.specs.Came.{Came, EndSetup, Heard, end_step}
use Rattle.sending_end.specs.Waiting.{ended, made, took}
use Rattle.venue_end.specs.Came.{VenueCame, VenueState, Advertised, Beaten, Commanded, Flushed, SpinPumped, on_gap_line, on_lines, venue_after, venue_step}
use Rattle.venue_end.specs.Came as venue
use Rattle.venue_end.specs.Sessions.{session_of}
use Rattle.venue_end.specs.declared.setup.VenueSetup.{VenueSetup}
use Rattle.served_laws.specs.Beside.{IsHandedOut, MayReach, handed_out}
use Rattle.served_laws.specs.Coming.{spin_bytes}
use Rattle.served_laws.specs.Putting.{put_of}
use Rattle.served_laws.proofs.Beside.{beside_stays, handed_on}
use Rattle.world_model.specs.Ends.{at_client, client_setup, server_cut, server_made, server_put, server_took, server_waits, stands, the_session, venue_setup}
use Rattle.world_model.specs.Sound.{Sound}
use Rattle.world_model.specs.State.{State, datagrams_on, passed_on, up_taken, up_waits}
use Rattle.world_model.specs.Verbs.{carried, client_has, delivered_on, does, done, ends, hears, hears_block, link_fed, numbered, opened, pumped, pumps, seconds, server_fed, settled, state_of, up_to, venue_has}
use Rattle.world_model.specs.declared.limits.Limits.{Limits}
use Rattle.world_model.specs.declared.outcome.Outcome.TheVariants as outcome

module _ (unit : ℕ) (limits : Limits) where
  abbrev V : VenueSetup
  V = venue_setup unit limits

  abbrev C : EndSetup
  C = client_setup unit limits

  -- ---- What is handed out
  abbrev AreOut : List VenueCame → List (List ℕ) → Type 0
  AreOut came datagrams = AllByRecursion (Contains (handed_out V came)) datagrams

  out_later : (new : VenueCame) (came : List VenueCame) (datagrams : List (List ℕ)) → AreOut came datagrams → AreOut (new ∷ came) datagrams
  out_later new came = all_follows (Contains (handed_out V came)) (Contains (handed_out V (new ∷ came))) (handed_on V (new ∷ []) came)

  itself : {X : Type 0} (xs : List X) → AllByRecursion (Contains xs) xs
  itself xs = recursion_from_All (Contains xs) xs (All-contains_itself xs)

  lines_out : (new : VenueCame) (came : List VenueCame) → AreOut (new ∷ came) (on_lines V new (venue_after V came))
  lines_out new came =
      let lines : List (List ℕ) = on_lines V new (venue_after V came) in
      let gap : List (List ℕ) = on_gap_line V new (venue_after V came) in
      all_follows (Contains lines) (Contains (handed_out V (new ∷ came))) (λ d is. Contains-append_right (handed_out V came) (lines ++ gap) d (Contains-append_left lines gap d is)) lines (itself lines)

  gap_out : (new : VenueCame) (came : List VenueCame) → AreOut (new ∷ came) (on_gap_line V new (venue_after V came))
  gap_out new came =
      let lines : List (List ℕ) = on_lines V new (venue_after V came) in
      let gap : List (List ℕ) = on_gap_line V new (venue_after V came) in
      all_follows (Contains gap) (Contains (handed_out V (new ∷ came))) (λ d is. Contains-append_right (handed_out V came) (lines ++ gap) d (Contains-append_right lines gap d is)) gap (itself gap)

  -- so are the blocks
  blocks_out : (came : List VenueCame) (datagram : List ℕ) → Contains (handed_out V came) datagram → AllByRecursion (IsHandedOut V came) (blocks_of datagram)
  blocks_out came datagram sent =
      all_follows (Contains (blocks_of datagram)) (IsHandedOut V came) (λ block within. record { datagram = datagram; sent = sent; within = within }) (blocks_of datagram) (itself (blocks_of datagram))

  all_blocks_out : (came : List VenueCame) (datagrams : List (List ℕ)) → AreOut came datagrams → AllByRecursion (IsHandedOut V came) (flat_map blocks_of datagrams)
  all_blocks_out came [] are = tt
  all_blocks_out came (d ∷ datagrams) are = all_append (IsHandedOut V came) (blocks_of d) (flat_map blocks_of datagrams) (blocks_out came d are.0) (all_blocks_out came datagrams are.1)

  -- ---- What comes to the ends
  -- the parts of which soundness speaks are the same
  pub still : (s t : State) → t.venue ≡ s.venue → t.client ≡ s.client → t.sent ≡ s.sent → t.replayed ≡ s.replayed → Sound unit limits s → Sound unit limits t
  still s t at_venue at_client sent replayed is = record {
    venue_came = is.venue_came;
    client_came = is.client_came;
    venue_is = at_venue ∙ is.venue_is;
    client_is = at_client ∙ is.client_is;
    beside = is.beside;
    put_came = is.put_came;
    sent = subst (AreOut is.venue_came) (sym sent) is.sent;
    replayed = subst (AreOut is.venue_came) (sym replayed) is.replayed;
  }

  -- this comes to both
  both_sound : (new : VenueCame) (came : Came) (s : State) → (is : Sound unit limits s) → MayReach V (new ∷ is.venue_came) came is.client_came → spin_bytes (came ∷ is.client_came) ≡ put_of V the_session (new ∷ is.venue_came)
      → Sound unit limits (client_has unit limits came (venue_has unit limits new s))
  both_sound new came s is may put = record {
    venue_came = new ∷ is.venue_came;
    client_came = came ∷ is.client_came;
    venue_is = ap (venue_step V new) is.venue_is;
    client_is = ap (end_step C came) is.client_is;
    beside = (may, beside_stays V (new ∷ []) is.venue_came is.client_came is.beside);
    put_came = put;
    sent = out_later new is.venue_came s.sent is.sent;
    replayed = out_later new is.venue_came s.replayed is.replayed;
  }

  -- this comes to the venue's, and what that hands out goes out
  sends_sound : (new : VenueCame) (s : State) (sent replayed : List (List ℕ)) → (is : Sound unit limits s) → spin_bytes is.client_came ≡ put_of V the_session (new ∷ is.venue_came) → AreOut (new ∷ is.venue_came) sent → AreOut (new ∷ is.venue_came) replayed
      → Sound unit limits (record s { venue = venue_step V new s.venue; sent = sent; replayed = replayed })
  sends_sound new s sent replayed is put lines gap = record {
    venue_came = new ∷ is.venue_came;
    client_came = is.client_came;
    venue_is = ap (venue_step V new) is.venue_is;
    client_is = is.client_is;
    beside = beside_stays V (new ∷ []) is.venue_came is.client_came is.beside;
    put_came = put;
    sent = lines;
    replayed = gap;
  }

  pub venue_sound : (new : VenueCame) (s : State) → (is : Sound unit limits s) → spin_bytes is.client_came ≡ put_of V the_session (new ∷ is.venue_came) → Sound unit limits (venue_has unit limits new s)
  venue_sound new s is put =
      sends_sound new s s.sent s.replayed is put (out_later new is.venue_came s.sent is.sent) (out_later new is.venue_came s.replayed is.replayed)

  -- ---- On the lines
  pub on_lines_sound : (new : VenueCame) (s : State) → (is : Sound unit limits s) → spin_bytes is.client_came ≡ put_of V the_session (new ∷ is.venue_came)
      → Sound unit limits (record (venue_has unit limits new s) { sent = s.sent ++ on_lines V new s.venue })
  on_lines_sound new s is put =
      let out : AreOut (new ∷ is.venue_came) (on_lines V new s.venue) = subst (λ (now : VenueState). AreOut (new ∷ is.venue_came) (on_lines V new now)) (sym is.venue_is) (lines_out new is.venue_came) in
      sends_sound new s (s.sent ++ on_lines V new s.venue) s.replayed is put (all_append _ s.sent _ (out_later new is.venue_came s.sent is.sent) out) (out_later new is.venue_came s.replayed is.replayed)

  pub line_out : (s : State) (line : Line) → (is : Sound unit limits s) → AreOut is.venue_came (datagrams_on s line)
  line_out s A is = is.sent
  line_out s B is = is.sent
  line_out s Gap is = is.replayed

  hears_sound : (line : Line) (blocks : List Block) (s : State) → (is : Sound unit limits s) → AllByRecursion (IsHandedOut V is.venue_came) blocks → Sound unit limits (hears unit limits line blocks s)
  hears_sound line [] s is are = is
  hears_sound line (block ∷ blocks) s is are = hears_sound line blocks (hears_block unit limits line block s) (record {
    venue_came = is.venue_came;
    client_came = Heard block ∷ is.client_came;
    venue_is = is.venue_is;
    client_is = ap (end_step C (Heard block)) is.client_is;
    beside = (are.0, is.beside);
    put_came = is.put_came;
    sent = is.sent;
    replayed = is.replayed;
  }) are.1

  passed_sound : (line : Line) (number : ℕ) (s : State) → Sound unit limits s → Sound unit limits (up_to line number s)
  passed_sound line number s is = still s (up_to line number s) refl refl refl refl is

  numbered_out : (came : List VenueCame) (datagrams : List (List ℕ)) (number : ℕ) (datagram : List ℕ) → AreOut came datagrams → numbered datagrams number ≡ Some datagram → Contains (handed_out V came) datagram
  numbered_out came datagrams zero datagram are at = absurd (none-some datagram at)
  numbered_out came datagrams (suc n) datagram are at = all_get (Contains (handed_out V came)) datagrams n datagram are at

  delivered_sound : (line : Line) (number : ℕ) (s : State) (found : Option (List ℕ)) → Sound unit limits s → numbered (datagrams_on s line) number ≡ found → Sound unit limits (delivered_on unit limits line number found s).state
  delivered_sound line number s None is at = is
  delivered_sound line number s (Some datagram) is at =
      passed_sound line number _ (hears_sound line (blocks_of datagram) s is (blocks_out is.venue_came datagram (numbered_out is.venue_came (datagrams_on s line) number datagram (line_out s line is) at)))

  -- ---- Connections
  pub opened_sound : (session : Session) (s : State) → Sound unit limits s → Sound unit limits (opened unit limits session s)
  opened_sound Grp s is = both_sound (server_made Grp) (made (at_client Grp)) s is tt is.put_came
  opened_sound Spin s is = both_sound (server_made Spin) (made (at_client Spin)) s is tt refl

  pub ends_sound : (session : Session) (s : State) → Sound unit limits s → Sound unit limits (ends unit limits session s)
  ends_sound Grp s is = both_sound (server_cut Grp) (ended (at_client Grp)) s is tt is.put_came
  ends_sound Spin s is = both_sound (server_cut Spin) (ended (at_client Spin)) s is tt is.put_came

  pub cut_sound : (session : Session) (s : State) → Sound unit limits s → Sound unit limits (venue_has unit limits (server_cut session) s)
  cut_sound Grp s is = venue_sound (server_cut Grp) s is is.put_came
  cut_sound Spin s is = venue_sound (server_cut Spin) s is is.put_came

  pub settled_sound : (session : Session) (s : State) → Sound unit limits s → Sound unit limits (settled unit limits session s)
  settled_sound session s is = by (stands session s.client)
    where
      by : (b : Bool) → Sound unit limits (cond b s (venue_has unit limits (server_cut session) s))
      by true = is
      by false = cut_sound session s is

  -- ---- Bytes
  carried_sound : (b : Bool) (bytes : Option ℕ) (waiting : List ℕ) (after : ℕ → State) (s : State) → Sound unit limits s → ((n : ℕ) → Sound unit limits (after n)) → Sound unit limits (carried b bytes waiting after s).state
  carried_sound false bytes waiting after s is then = is
  carried_sound true bytes waiting after s is then = by (nat_lt (length waiting) n)
    where
      n : ℕ
      n = unwrap_or bytes (length waiting)

      by : (few : Bool) → Sound unit limits (cond few (done (outcome.TooFew n (length waiting)) s) (done (outcome.Carried n) (after n))).state
      by true = is
      by false = then n

  pumped_sound : (n : ℕ) (s : State) → Sound unit limits s → Sound unit limits (pumped unit limits n s)
  pumped_sound zero s is = is
  pumped_sound (suc n) s is = let so_far : Sound unit limits (pumped unit limits n s) = pumped_sound n s is in venue_sound (SpinPumped the_session) (pumped unit limits n s) so_far so_far.put_came

  pub fed_sound : (session : Session) (piece : List ℕ) (s : State) → Sound unit limits s → Sound unit limits (server_fed unit limits session piece s)
  fed_sound Grp piece s is =
      let new : VenueCame = server_took Grp piece in
      let out : AreOut (new ∷ is.venue_came) (on_gap_line V new s.venue) = subst (λ (now : VenueState). AreOut (new ∷ is.venue_came) (on_gap_line V new now)) (sym is.venue_is) (gap_out new is.venue_came) in
      sends_sound new s s.sent (s.replayed ++ on_gap_line V new s.venue) is is.put_came (out_later new is.venue_came s.sent is.sent) (all_append _ s.replayed _ (out_later new is.venue_came s.replayed is.replayed) out)
  fed_sound Spin piece s is =
      let t : State = venue_has unit limits (server_took Spin piece) s in
      pumped_sound (pumps V (session_of the_session t.venue.spins)) t (venue_sound (server_took Spin piece) s is is.put_came)

  pub taken_sound : (session : Session) (n : ℕ) (s : State) → Sound unit limits s → Sound unit limits (up_taken session n s)
  taken_sound Grp n s is = still s (up_taken Grp n s) refl refl refl refl is
  taken_sound Spin n s is = still s (up_taken Spin n s) refl refl refl refl is

  -- what is put to a session comes to the client's end
  pub put_sound : (session : Session) (n : ℕ) (s : State) → Sound unit limits s → Sound unit limits (client_has unit limits (took (at_client session) (take n (server_waits session s.venue))) (venue_has unit limits (server_put session n) s))
  put_sound Grp n s is = both_sound (server_put Grp n) (took (at_client Grp) (take n (server_waits Grp s.venue))) s is tt is.put_came
  put_sound Spin n s is =
      let before : List ℕ = put_of V the_session is.venue_came in
      let piece : List ℕ = take n (server_waits Spin s.venue) in
      let put : spin_bytes is.client_came ++ piece ≡ put_of V the_session (server_put Spin n ∷ is.venue_came) =
      ap (λ (l : List ℕ). l ++ piece) is.put_came ∙ ap (λ (now : VenueState). before ++ take n (server_waits Spin now)) is.venue_is in
      both_sound (server_put Spin n) (took (at_client Spin) piece) s is
      (record { later = []; first = server_put Spin n ∷ is.venue_came; before_is = refl; id = the_session; begins = ([], append-nil (spin_bytes is.client_came ++ piece) ∙ put) }) put

  -- ---- A second
  pub seconds_sound : (s : State) → Sound unit limits s → Sound unit limits (seconds unit limits s)
  seconds_sound s is = both_sound venue.Second client.Second s is tt is.put_came

  -- ---- All verbs
  pub does_sound : (verb : Verb) (s : State) → Sound unit limits s → Sound unit limits (does unit limits verb s).state
  does_sound (verbs.Command command) s is = venue_sound (Commanded command) s is is.put_came
  does_sound (verbs.Setup hold kept second minute day) s is = is
  does_sound verbs.Flush s is = on_lines_sound Flushed s is is.put_came
  does_sound verbs.Beat s is = on_lines_sound Beaten s is is.put_came
  does_sound (verbs.Deliver line number) s is = delivered_sound line number s (numbered (datagrams_on s line) number) is refl
  does_sound (verbs.Rest line) s is =
      let rest : List (List ℕ) = drop (passed_on s.passed line) (datagrams_on s line) in
      passed_sound line (length (datagrams_on s line)) _
      (hears_sound line (flat_map blocks_of rest) s is (all_blocks_out is.venue_came rest (all_drop _ (passed_on s.passed line) (datagrams_on s line) (line_out s line is))))
  does_sound (verbs.Connect session) s is = by (stands session s.client)
    where
      by : (b : Bool) → Sound unit limits (cond b (done outcome.AlreadyOpen s) (done outcome.Opened (opened unit limits session s))).state
      by true = is
      by false = opened_sound session s is
  does_sound (verbs.Cut session) s is = by (stands session s.client)
    where
      by : (b : Bool) → Sound unit limits (cond b (done outcome.Cut (ends unit limits session s)) (done outcome.NotOpen s)).state
      by true = ends_sound session s is
      by false = is
  does_sound (verbs.Up session bytes) s is =
      let waiting : List ℕ = up_waits session s in
      carried_sound (stands session s.client) bytes waiting (λ n. server_fed unit limits session (take n waiting) (up_taken session n s)) s is
      (λ n. fed_sound session (take n waiting) (up_taken session n s) (taken_sound session n s is))
  does_sound (verbs.Down session bytes) s is =
      let waiting : List ℕ = server_waits session s.venue in
      carried_sound (stands session s.client) bytes waiting (λ n. link_fed unit limits session (take n waiting) (venue_has unit limits (server_put session n) s)) s is
      (λ n. settled_sound session _ (put_sound session n s is))
  does_sound verbs.Advertise s is = venue_sound Advertised s is is.put_came
  does_sound verbs.Tick s is = settled_sound Spin _ (settled_sound Grp _ (seconds_sound s is))
  does_sound verbs.Show s is = is
  does_sound (verbs.Quote symbol) s is = is

pub every_state_is_sound : (unit : ℕ) (limits : Limits) (done : List Verb) → Sound unit limits (state_of unit limits done)
every_state_is_sound unit limits [] = record {
  venue_came = [];
  client_came = [];
  venue_is = refl;
  client_is = refl;
  beside = tt;
  put_came = refl;
  sent = tt;
  replayed = tt;
}
every_state_is_sound unit limits (verb ∷ before) =
    let s : State = state_of unit limits before in
    still unit limits (does unit limits verb s).state (state_of unit limits (verb ∷ before)) refl refl refl refl (does_sound unit limits verb s (every_state_is_sound unit limits before))
