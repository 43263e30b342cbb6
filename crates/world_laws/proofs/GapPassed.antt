-- The client got no datagram of the gap line that is not there.
use Rattle.std.proofs.Common.{◌≡◌, ℕ, zero, suc, ◌≤◌, Bool, true, false, cond, List, ◌∷◌, [], ◌++◌, length, take, drop, refl, sym, subst, arith, max, Option, Some, None, length-append}
use Rattle.std.specs.List.{flat_map}
use Rattle.std.proofs.lemmas.Option.{none-some, slice_get_within}
use Rattle.unit_packets.specs.Blocks.{Block}
use Rattle.unit_packets.specs.Cutting.{blocks_of}
use Rattle.pitch_io.specs.declared.line.Line.{Line}
use Rattle.pitch_io.specs.declared.line.Line.TheVariants.{A, B, Gap}
use Rattle.pitch_text.specs.declared.verb.Session.{Session}
use Rattle.pitch_text.specs.declared.verb.Session.TheVariants.{Grp, Spin}
use Rattle.pitch_text.specs.declared.verb.Verb.{Verb}
use Rattle.pitch_text.specs.declared.verb.Verb.TheVariants as verbs
use Rattle.sending_end.specs.Waiting.{took}
use Rattle.venue_end.specs.Came.{on_gap_line}
use Rattle.venue_end.specs.Sessions.{session_of}
use Rattle.world_model.specs.Ends.{at_client, server_cut, server_put, server_took, server_waits, stands, the_session, venue_setup}
use Rattle.world_model.specs.State.{State, datagrams_on, up_taken}
use Rattle.world_model.specs.Verbs.{Done, done, next_state, state_of, client_has, delivered_on, ends, hears, numbered, opened, pumped, pumps, seconds, sent_whole, server_fed, settled, venue_has}
use Rattle.world_model.specs.declared.limits.Limits.{Limits}
use Rattle.world_model.specs.declared.outcome.Outcome.TheVariants as outcome
use Rattle.world_laws.proofs.Joined.{carries}
use Rattle.world_laws.proofs.ProxyVerbs.{hears_are}

abbrev pub IsWithin : State → Type 0
IsWithin s = s.passed.gap ≤ length s.replayed

numbered_within : (datagrams : List (List ℕ)) (number : ℕ) (d : List ℕ) → numbered datagrams number ≡ Some d → number ≤ length datagrams
numbered_within datagrams zero d e = absurd (none-some d e)
numbered_within datagrams (suc n) d e = let w = slice_get_within datagrams n d e in omega (arith, w)

module _ (unit : ℕ) (limits : Limits) where
  pumped_within : (n : ℕ) (s : State) → IsWithin s → IsWithin (pumped unit limits n s)
  pumped_within zero s w = w
  pumped_within (suc n) s w = pumped_within n s w

  settled_within : (session : Session) (s : State) → IsWithin s → IsWithin (settled unit limits session s)
  settled_within session s w = by (stands session s.client)
    where
      by : (b : Bool) → IsWithin (cond b s (venue_has unit limits (server_cut session) s))
      by true = w
      by false = w

  -- datagrams of a line come, up to one that is there
  heard_within : (line : Line) (blocks : List Block) (s : State) → IsWithin s → IsWithin (hears unit limits line blocks s)
  heard_within line blocks s w = subst IsWithin (sym (hears_are unit limits line blocks s)) w

  gap_heard : (blocks : List Block) (number : ℕ) (s : State) → IsWithin s → number ≤ length s.replayed → max number (hears unit limits Gap blocks s).passed.gap ≤ length (hears unit limits Gap blocks s).replayed
  gap_heard blocks number s w there = subst (λ (y : State). max number y.passed.gap ≤ length y.replayed) (sym (hears_are unit limits Gap blocks s)) (omega (arith, w, there))

  module _ (s : State) (w : IsWithin s) where
    either : (b : Bool) (one other : Done) → IsWithin one.state → IsWithin other.state → IsWithin (cond b one other).state
    either true one other p q = p
    either false one other p q = q

    delivered_within : (line : Line) (number : ℕ) (o : Option (List ℕ)) → numbered (datagrams_on s line) number ≡ o → IsWithin (delivered_on unit limits line number o s).state
    delivered_within line number None e = w
    delivered_within A number (Some d) e = heard_within A (blocks_of d) s w
    delivered_within B number (Some d) e = heard_within B (blocks_of d) s w
    delivered_within Gap number (Some d) e = gap_heard (blocks_of d) number s w (numbered_within s.replayed number d e)

    longer : (lines : List (List ℕ)) → s.passed.gap ≤ length (s.replayed ++ lines)
    longer lines = omega (arith, w, length-append s.replayed lines)

    next_within : (verb : Verb) → IsWithin (next_state unit limits verb s)
    next_within (verbs.Command command) = w
    next_within (verbs.Setup hold kept second minute day) = w
    next_within verbs.Flush = w
    next_within verbs.Beat = w
    next_within (verbs.Deliver line number) = delivered_within line number (numbered (datagrams_on s line) number) refl
    next_within (verbs.Rest A) = heard_within A (flat_map blocks_of (drop s.passed.a s.sent)) s w
    next_within (verbs.Rest B) = heard_within B (flat_map blocks_of (drop s.passed.b s.sent)) s w
    next_within (verbs.Rest Gap) = gap_heard (flat_map blocks_of (drop s.passed.gap s.replayed)) (length s.replayed) s w (omega arith)
    next_within (verbs.Connect session) = either (stands session s.client) (done outcome.AlreadyOpen s) (done outcome.Opened (opened unit limits session s)) w w
    next_within (verbs.Cut session) = either (stands session s.client) (done outcome.Cut (ends unit limits session s)) (done outcome.NotOpen s) w w
    next_within (verbs.Up Grp bytes) =
        carries IsWithin (stands Grp s.client) bytes s.grp_up (λ n. server_fed unit limits Grp (take n s.grp_up) (up_taken Grp n s)) s w
        (λ n. longer (on_gap_line (venue_setup unit limits) (server_took Grp (take n s.grp_up)) s.venue))
    next_within (verbs.Up Spin bytes) =
        let fed : ℕ → State = λ n. venue_has unit limits (server_took Spin (take n s.spin_up)) (up_taken Spin n s) in
        carries IsWithin (stands Spin s.client) bytes s.spin_up (λ n. sent_whole unit limits (fed n)) s w (λ n. pumped_within (pumps (venue_setup unit limits) (session_of the_session (fed n).venue.spins)) (fed n) w)
    next_within (verbs.Down session bytes) =
        let waiting : List ℕ = server_waits session s.venue in
        let fed : ℕ → State = λ n. client_has unit limits (took (at_client session) (take n waiting)) (venue_has unit limits (server_put session n) s) in
        carries IsWithin (stands session s.client) bytes waiting (λ n. settled unit limits session (fed n)) s w (λ n. settled_within session (fed n) w)
    next_within verbs.Advertise = w
    next_within verbs.Tick = settled_within Spin (settled unit limits Grp (seconds unit limits s)) (settled_within Grp (seconds unit limits s) w)
    next_within verbs.Show = w
    next_within (verbs.Quote symbol) = w

pub gap_within : (unit : ℕ) (limits : Limits) (done : List Verb) → IsWithin (state_of unit limits done)
gap_within unit limits [] = omega arith
gap_within unit limits (verb ∷ before) = next_within unit limits (state_of unit limits before) (gap_within unit limits before) verb
