-- The text of a venue's own commands, and what is left of it.
use Rattle.std.specs.Prelude.{◌≡◌, ◌≢◌, ℕ, zero, suc, ◌+◌, ◌*◌, ◌-◌, ◌/◌, ◌%◌, ◌<◌, ◌≤◌, List, []}
use Rattle.std.specs.Prelude.{◌∷◌, ◌++◌, length, min, slice_index}
use Rattle.pitch_text.specs.declared.verb.Verb.TheVariants.{Command}
use Rattle.pitch_text.specs.Printing.{entry_text}
use Rattle.venue_net.specs.declared.net.InputRead.{InputRead}
use Rattle.venue_net.specs.declared.net.InputRead.TheVariants as input
use Rattle.venue_plan.specs.Made.{made_command}

-- the most commands that a unit makes, and the most units
abbrev pub most_made : ℕ
most_made = 1000000000

abbrev pub most_units : ℕ
most_units = 255

-- a page of lines that has more bytes takes no more of them
abbrev pub page_limit : ℕ
page_limit = 65336

-- ---- the text
-- line m, which counts from 0: command by command, and of each the units in turn
unfoldable pub made_line : ℕ → List ℕ → ℕ → ℕ → List ℕ
made_line number units count m =
    let unit = slice_index units (m % length units) in
    let command = made_command number unit count (m / length units + 1) in
    entry_text unit (Command command) ++ 10 ∷ []

-- so many lines, from line m on
abbrev pub made_lines : ℕ → List ℕ → ℕ → ℕ → ℕ → List ℕ
made_lines number units count m zero = []
made_lines number units count m (suc more) =
    made_line number units count m ++ made_lines number units count (suc m) more

-- all lines of so many commands for each of these units
abbrev pub plan_text : ℕ → List ℕ → ℕ → List ℕ
plan_text number units count = made_lines number units count 0 (count * length units)

-- ---- what is left of it
-- a text that is given second by second: its number, its units, and how many commands each of these
-- has, in all and a second; how many of them are due; how many lines were made; and what is left of
-- those that were
pub record PlanState : Type 0 where
  pub number : ℕ
  pub units : List ℕ
  pub count : ℕ
  pub rate : ℕ
  pub due : ℕ
  pub made : ℕ
  pub left : List ℕ

-- what is left of the lines of the first so many commands
abbrev pub left_until : ℕ → PlanState → List ℕ
left_until commands plan = plan.left
    ++ made_lines plan.number plan.units plan.count plan.made
    (commands * length plan.units - plan.made)

-- what is left of all of it, and of what is due
abbrev pub left_of : PlanState → List ℕ
left_of plan = left_until plan.count plan

abbrev pub due_of : PlanState → List ℕ
due_of plan = left_until plan.due plan

-- nothing was given, and the commands of the first second are due
abbrev pub plan_begun : ℕ → List ℕ → ℕ → ℕ → PlanState
plan_begun number units count rate = record {
  number = number;
  units = units;
  count = count;
  rate = rate;
  due = min rate count;
  made = 0;
  left = [];
}

-- one second more has passed
abbrev pub second_passed : PlanState → PlanState
second_passed plan = record plan { due = min (plan.due + plan.rate) plan.count }

-- there is a unit, no more is due than there is, nor made than is due, nor given than was made
pub record IsPlanKept (units : List ℕ) (count due made given : ℕ) (page : List ℕ) : Type 0 where
  pub some : 0 < length units
  pub few : length units ≤ most_units
  pub most : count ≤ most_made
  pub due_within : due ≤ count
  pub made_within : made ≤ due * length units
  pub given_within : given ≤ length page

-- the same text at the same time
pub record IsSamePlan (old new : PlanState) : Type 0 where
  pub number : new.number ≡ old.number
  pub units : new.units ≡ old.units
  pub count : new.count ≡ old.count
  pub rate : new.rate ≡ old.rate
  pub due : new.due ≡ old.due

-- why a read answers this: bytes are due; none is due, but more will be; there are no more
abbrev pub HasAnswer : PlanState → InputRead → Type 0
HasAnswer plan (input.Got n) = due_of plan ≢ []
HasAnswer plan input.Quiet = (due_of plan ≡ []) × (left_of plan ≢ [])
HasAnswer plan input.Ended = left_of plan ≡ []
HasAnswer plan input.Failed = ⊥
