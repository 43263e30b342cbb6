-- What a drill writes. It is this project's own.
use Rattle.std.specs.Prelude.{ℕ, zero, suc, List, [], ◌++◌}
use Rattle.std.specs.FinMap.{len}
use Rattle.pitch_model.specs.Book.{book_after}
use Rattle.pitch_model.specs.Levels.{shares}
use Rattle.pitch_model.specs.declared.status.Status.TheVariants.{Current}
use Rattle.feed_lines.specs.UnitLine.{unit_line}
use Rattle.venue_core.specs.Plan.{plan}

-- the line of a unit: it has all messages of the plan, and the orders and shares that they leave
unfoldable pub drill_line : ℕ → ℕ → ℕ → List ℕ
drill_line number unit count =
    unit_line unit (Current count) (len (book_after (plan number unit count)).orders)
    (shares (book_after (plan number unit count)))

-- the lines of the units from 1 on
unfoldable pub drill_text : ℕ → ℕ → ℕ → List ℕ
drill_text number zero count = []
drill_text number (suc unit) count =
    drill_text number unit count ++ drill_line number (suc unit) count
