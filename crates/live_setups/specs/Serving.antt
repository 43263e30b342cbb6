-- With what a run of `serve` is made.
use Rattle.std.specs.Prelude.{◌≤◌, ◌<◌, ◌*◌, ℕ, List, [], ◌∷◌, length, map}
use Rattle.std.specs.Prelude.{Option, Some, None, option_map}
use Rattle.std.specs.List.{flat_map}
use Rattle.std.specs.declared.net.socket_addr.SocketAddr.{SocketAddr}
use Rattle.pitch_fields.specs.Limits.{most_held}
use Rattle.harmed_venue.specs.declared.harm.Harm.{Harm}
use Rattle.harmed_venue.specs.declared.harm.Shares.{Shares}
use Rattle.venue_end.specs.declared.setup.VenueSetup.{VenueSetup}
use Rattle.venue_plan.specs.Text.{PlanState, most_made, plan_begun}
use Rattle.venue_sockets.specs.declared.waiter.RunTime.{RunTime}
use Rattle.live_words.specs.declared.serve_words.ServeWords.{ServeWords}
use Rattle.live_words.specs.declared.serve_words.UnitWords.{UnitWords}
use Rattle.live_words.specs.declared.trial_words.HarmWords.{HarmWords}
use Rattle.live_words.specs.declared.trial_words.PlanWords.{PlanWords}
use Rattle.live_words.specs.declared.trial_words.ShareWords.{ShareWords}
use Rattle.live_setups.specs.Accounts.{account_or_nobodys}

-- ---- the units
-- with what a unit is served: the account and the limits are those of all units
abbrev pub setup_of : ServeWords → UnitWords → VenueSetup
setup_of asked words = record {
  unit = words.unit;
  account = account_or_nobodys asked.account;
  kept = asked.kept;
  second = asked.second;
  minute = asked.minute;
  day = asked.day;
}

-- with what each is served, and their numbers, by their indexes
abbrev pub setups_of : ServeWords → List VenueSetup
setups_of asked = map (setup_of asked) asked.units.items

abbrev pub numbers_of : List UnitWords → List ℕ
numbers_of units = map (λ words. words.unit) units

-- ---- where they are
-- where the lines of a unit lead: line A, line B, and the gap line
abbrev pub unit_lines : UnitWords → List (Option SocketAddr)
unit_lines words = Some words.a ∷ words.b ∷ words.gap ∷ []

-- where the doors of a unit are: that of its proxy, and that of its Spin Server
abbrev pub unit_doors : UnitWords → List (Option SocketAddr)
unit_doors words = words.grp ∷ words.spin ∷ []

-- the lines and the doors of all units, by their numbers
abbrev pub lines_of : List UnitWords → List (Option SocketAddr)
lines_of units = flat_map unit_lines units

abbrev pub doors_of : List UnitWords → List (Option SocketAddr)
doors_of units = flat_map unit_doors units

-- ---- a trial
-- the text of the commands that the venue makes itself: of this plan, for units of these numbers
abbrev pub plan_text : List ℕ → PlanWords → PlanState
plan_text units plan = plan_begun plan.number units plan.count plan.rate

abbrev pub plan_of : ServeWords → Option PlanState
plan_of asked = option_map (plan_text (numbers_of asked.units.items)) asked.trial.plan

abbrev pub shares_of : ShareWords → Shares
shares_of words = record { a = words.a; b = words.b; gap = words.gap }

-- the harm to so many units, each of which has 3 lines and 128 places
abbrev pub harm_of : HarmWords → ℕ → Harm
harm_of words units = record {
  number = words.number;
  lose = shares_of words.lose;
  repeat = shares_of words.repeat;
  swap = shares_of words.swap;
  cut = words.cut;
  lines = 3 * units;
  places = 128 * units;
}

-- ---- the run
abbrev pub time_of : ServeWords → RunTime
time_of asked = record { seconds = asked.seconds; after = asked.after }

-- a venue of so many units makes a plan's commands: it has a unit, and there are not too many
abbrev pub CanPlan : ℕ → Option PlanWords → Type 0
CanPlan units None = Unit {0}
CanPlan units (Some plan) = (0 < units) × (plan.count ≤ most_made)

-- there is such a run
pub record CanBeServed (asked : ServeWords) : Type 0 where
  pub few : length asked.units.items ≤ 64
  pub keeps : (1 ≤ asked.kept) × (asked.kept ≤ most_held)
  pub plan : CanPlan (length asked.units.items) asked.trial.plan
