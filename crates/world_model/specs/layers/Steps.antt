-- What a verb, and a part of one, does to a world.
use Rattle.std.specs.Prelude.{◌≡◌, ◌+◌, ◌-◌, ◌||◌, ℕ, Bool, false, List, length}
use Rattle.pitch_text.specs.WellFormed.{IsVerb}
use Rattle.pitch_text.specs.declared.verb.Verb.TheVariants as verbs
use Rattle.pitch_model.specs.History.{Entry}
use Rattle.world_model.specs.Printed.{overflowed}
use Rattle.world_model.specs.State.{State}
use Rattle.world_model.specs.Verbs.{Done}
use Rattle.world_model.specs.declared.limits.Limits.{Limits}
use Rattle.world_model.specs.declared.world.Acted.{Acted}
use Rattle.world_model.specs.declared.world.World.{World}
use Rattle.world_model.specs.Sound.{Sound}
use Rattle.world_model.specs.Stands.{WorldIs}

-- limits that an `open` line can set
abbrev pub AreLimits : Limits → Type 0
AreLimits l = IsVerb (verbs.Setup l.hold l.kept l.second l.minute l.day)

-- a step had no memory, and no step has been done since
abbrev pub has_failed : World → Bool
has_failed w = w.failed

-- ---- Steps
-- the parts of a world are those of a state, of which holds what holds of every state of verbs
pub record WorldHas (w : World) (s : State) : Type 0 where
  pub is : WorldIs w s
  pub sound : Sound w.unit w.limits s

-- a verb was done from a state: its outcome, whether the hold overflowed, and the parts it left
pub record Acts (old new : World) (acted : Acted) (s : State) (d : Done) : Type 0 where
  pub unit_is : new.unit ≡ old.unit
  pub limits_are : new.limits ≡ old.limits
  pub outcome_is : acted.outcome ≡ d.outcome
  pub overflow_is : acted.overflow ≡ overflowed old.limits.hold
      (length d.state.client.heard - length s.client.heard) d.state.client.heard
  pub has : WorldHas new d.state

-- the history E grew to F, and the hold overflowed with one of the new entries or with one of m
-- before them exactly where `over` says so or it did with those m
pub record Marks (H : ℕ) (E F : List Entry) (over : Bool) : Type 0 where
  pub added : ℕ
  pub longer : length F ≡ added + length E
  pub marks : (m : ℕ) → overflowed H (added + m) F ≡ (over || overflowed H m E)

-- a part of a verb was done, with which the hold did not overflow
pub record Passes (old new : World) (s s' : State) : Type 0 where
  pub unit_is : new.unit ≡ old.unit
  pub limits_are : new.limits ≡ old.limits
  pub quiet : Marks old.limits.hold s.client.heard s'.client.heard false
  pub has : WorldHas new s'
