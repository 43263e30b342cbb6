-- What the proxy of a world spends, over any verbs.
use Rattle.std.specs.Prelude.{◌≡◌, ◌≤◌, ℕ, ◌+◌, List, [], ◌∷◌, length}
use Rattle.pitch_text.specs.declared.verb.Verb.{Verb}
use Rattle.pitch_text.specs.declared.verb.Verb.TheVariants as verbs
use Rattle.grp_session.specs.Budget.{Spent, IsPast, this_second, this_minute}
use Rattle.world_model.specs.declared.limits.Limits.{Limits}

-- how many of some verbs are ticks
abbrev pub ticks_in : List Verb → ℕ
ticks_in [] = 0
ticks_in (verbs.Tick ∷ before) = ticks_in before + 1
ticks_in (verb ∷ before) = ticks_in before

-- so many ticks passed, and no more requests were accepted than the limits allow: at this tick, in
-- this minute of 60 ticks, and in all
pub record SpendsWithin (limits : Limits) (ticks : ℕ) (s : Spent) : Type 0 where
  pub now_is : s.now ≡ ticks
  pub second : this_second s ≤ limits.second
  pub minute : this_minute s ≤ limits.minute
  pub day : length s.accepted ≤ limits.day
  pub past : IsPast s
