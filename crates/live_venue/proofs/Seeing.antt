-- What the turns are told of the place whose turn it is, and what they answer.
use Rattle.std.proofs.Common.{◌≡◌, ℕ, Bool, List, length, sym, subst, Option, Some, None}
use Rattle.std.specs.Prelude.{IfSome}
use Rattle.venue_end.specs.declared.setup.VenueSetup.{VenueSetup}
use Rattle.venue_net.specs.VenueCalls.{VenueCall}
use Rattle.venue_turns.specs.Due.{Ends, Ways}
use Rattle.venue_turns.specs.Turning.{Answers, IsSeen, TurnsStand, place_at}
use Rattle.venue_turns.specs.declared.due.Due.{Due}
use Rattle.venue_turns.specs.declared.place.Place.{Place}
use Rattle.venue_turns.specs.declared.turns.VenueTurns.{VenueTurns}
use Rattle.venue_units.specs.Coming.{UnitCame}
use Rattle.venue_units.specs.Places.{is_shut_at, waits_at}
use Rattle.venue_units.specs.Units.{UnitsStand}
use Rattle.live_venue.specs.Running.{ends_now, turns_of, ways}
use Rattle.live_venue.specs.Standing.{GoesOn, IsAbout}
use Rattle.live_venue.specs.declared.serving.Serving.{Serving}
use Rattle.live_venue.proofs.Going.{stands_turns}

module _ (s : List VenueSetup) (came : List UnitCame) (place : Place) where
  abbrev Told : Bool → ℕ → ℕ → Type 0
  Told shut waiting at = (shut ≡ is_shut_at s at came) × (waiting ≡ length (waits_at s at came))

  pub seen_none : (shut : Bool) (waiting : ℕ) → place_at place ≡ None → IsSeen (ends_now s came) place shut waiting
  seen_none shut waiting none = subst (λ (o : Option ℕ). IfSome o (λ at. Told shut waiting at)) (sym none) tt

  pub seen_there : (at : ℕ) (shut : Bool) (waiting : ℕ) → place_at place ≡ Some at → shut ≡ is_shut_at s at came → waiting ≡ length (waits_at s at came) → IsSeen (ends_now s came) place shut waiting
  seen_there at shut waiting here a b = subst (λ (o : Option ℕ). IfSome o (λ at. Told shut waiting at)) (sym here) (a, b)

-- ---- What is due
module _ (s : List VenueSetup) (start calls : Option (List VenueCall)) (v : Serving) (t : VenueTurns) (shut : Bool) (waiting : ℕ) (goes : GoesOn s start calls v)
    (seen : (came : List UnitCame) → UnitsStand s v.units came → IsSeen (ends_now s came) v.turns.place shut waiting) where
  abbrev Answered : Option Due → Type 0
  Answered answer = (w : Ways) (e : Ends) (run : List VenueCall) → TurnsStand w e v.turns run → IsSeen e v.turns.place shut waiting → Answers w e run v.turns.place t answer

  answered : (answer : Option Due) → Answered answer → Answers (ways s) (ends_now s goes.now.came) (turns_of goes.run) v.turns.place t answer
  answered answer answers = answers (ways s) (ends_now s goes.now.came) (turns_of goes.run) goes.turns (seen goes.now.came goes.stands.serve.stand)

  pub is_about : (due what : Due) → due ≡ what → Answered (Some due) → IsAbout s start calls (record v { turns = t }) what
  is_about due what is answers =
      let a = answered (Some what) (subst (λ (d : Due). Answered (Some d)) is answers) in
      record { run = goes.run; now = goes.now; stands = stands_turns s start calls v t goes.run goes.now goes.stands; turns = a.stands; next = a.next }

  pub turns_on : Answered None → GoesOn s start calls (record v { turns = t })
  turns_on answers =
      let a = answered None answers in
      record { run = goes.run; now = goes.now; stands = stands_turns s start calls v t goes.run goes.now goes.stands; turns = a.stands }
