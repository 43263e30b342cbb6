-- What the turns are told of the peer whose turn it is, and what they answer.
use Rattle.std.proofs.Common.{◌≡◌, ℕ, Bool, true, false, List, [], inr, length, slice_get, sym, ap, ◌∙◌, subst, Option, Some, None}
use Rattle.std.specs.Prelude.{IfSome}
use Rattle.std.specs.Option.{option_map_or}
use Rattle.live_net.specs.LiveCalls.{LiveCall}
use Rattle.live_turns.specs.Due.{Ends, Ways}
use Rattle.live_turns.specs.Turning.{Answers, IsSeen, TurnsStand, peer_at}
use Rattle.live_turns.specs.declared.due.Due.{Due}
use Rattle.live_turns.specs.declared.due.Due.TheVariants as to
use Rattle.live_turns.specs.declared.place.Place.{Place}
use Rattle.live_turns.specs.declared.turns.LiveTurns.{LiveTurns}
use Rattle.live_units.specs.Coming.{UnitCame}
use Rattle.live_units.specs.Units.{LiveStands}
use Rattle.live_recovery.specs.Running.{Now, Setup, are_ended, ends_now, has_link, ways}
use Rattle.live_recovery.specs.Standing.{Devices, GoesOn, IsAbout, IsAtEnd, MayBeMade, now_of}
use Rattle.live_recovery.specs.declared.peer.Peer.{Peer}
use Rattle.live_recovery.specs.declared.recovering.Recovering.{Recovering}
use Rattle.live_recovery.proofs.Going.{stands_turns}

module _ (s : Setup) (now : Now) (place : Place) where
  abbrev Told : Bool → ℕ → ℕ → Type 0
  Told has waiting at = (has ≡ (ends_now s now).has at) × (waiting ≡ length ((ends_now s now).waits at))

  pub seen_none : (has : Bool) (waiting : ℕ) → peer_at place ≡ None → IsSeen (ends_now s now) place has waiting
  seen_none has waiting none = subst (λ (o : Option ℕ). IfSome o (λ at. Told has waiting at)) (sym none) tt

  module _ (at : ℕ) (here : peer_at place ≡ Some at) where
    pub seen_absent : slice_get s.peers at ≡ None → IsSeen (ends_now s now) place false 0
    seen_absent none = subst (λ (o : Option ℕ). IfSome o (λ at. Told false 0 at)) (sym here) (
      sym (ap (λ (o : Option Peer). option_map_or (has_link s now.came) o false) none),
      ap (λ (o : Option Peer). length (option_map_or (λ (p : Peer). now.waits p.unit p.session) o [])) (sym none),
    )

    pub seen_peer : (peer : Peer) (has : Bool) (waiting : ℕ) → slice_get s.peers at ≡ Some peer → has ≡ has_link s now.came peer → waiting ≡ length (now.waits peer.unit peer.session) → IsSeen (ends_now s now) place has waiting
    seen_peer peer has waiting is h w = subst (λ (o : Option ℕ). IfSome o (λ at. Told has waiting at)) (sym here) (
      h ∙ sym (ap (λ (o : Option Peer). option_map_or (has_link s now.came) o false) is),
      w ∙ ap (λ (o : Option Peer). length (option_map_or (λ (p : Peer). now.waits p.unit p.session) o [])) (sym is),
    )

-- ---- What is due
module _ (s : Setup) (start now : Devices) (r : Recovering) (t : LiveTurns) (has : Bool) (waiting : ℕ) (goes : GoesOn s start now r)
    (seen : (start written : Option (List ℕ)) (came : List UnitCame) → LiveStands s.listens start written r.units came → IsSeen (ends_now s (now_of came r.units)) r.turns.place has waiting) where
  abbrev Answered : Option Due → Type 0
  Answered answer = (w : Ways) (e : Ends) (run : List LiveCall) → TurnsStand w e r.turns run → IsSeen e r.turns.place has waiting → Answers w e run r.turns.place t answer

  answered : (answer : Option Due) → Answered answer → Answers (ways s) (ends_now s (now_of goes.came r.units)) goes.run r.turns.place t answer
  answered answer answers = answers (ways s) (ends_now s (now_of goes.came r.units)) goes.run goes.turns (seen start.written now.written goes.came goes.stands.units)

  pub is_about : (due what : Due) → due ≡ what → MayBeMade s goes.came what → Answered (Some due) → IsAbout s start now (record r { turns = t }) what
  is_about due what is may answers =
      let a = answered (Some what) (subst (λ (d : Due). Answered (Some d)) is answers) in
      record { run = goes.run; came = goes.came; stands = stands_turns s start now r t goes.run goes.came goes.stands; turns = a.stands; next = a.next; may = may }

  -- in place of a wait the run ends
  pub is_at_end : (due : Due) (more : Bool) → due ≡ to.Wait more → are_ended s goes.came ≡ true → Answered (Some due) → IsAtEnd s start now (record r { turns = t })
  is_at_end due more is are answers =
      let a = answered (Some (to.Wait more)) (subst (λ (d : Due). Answered (Some d)) is answers) in
      record {
        run = goes.run;
        came = goes.came;
        stands = stands_turns s start now r t goes.run goes.came goes.stands;
        over = inr (record { are = are; more = more; is_due = a.next.due_is });
      }

  pub turns_on : Answered None → GoesOn s start now (record r { turns = t })
  turns_on answers =
      let a = answered None answers in
      record { run = goes.run; came = goes.came; stands = stands_turns s start now r t goes.run goes.came goes.stands; turns = a.stands }
