use Rattle.std.proofs.Common.{true}
use Rattle.venue_core.specs.Plan.{plan}
use Rattle.unit_threads.proofs.unit.unit_text.Given as goal

-- the run of these numbers
abbrev pub ghosts-open_unit-R-DrillRun : goal.ghosts-open_unit-R-DrillRun
ghosts-open_unit-R-DrillRun g a = record { number = a.number; unit = a.unit; count = a.count }

-- its messages are fixed
abbrev pub ghosts-open_unit-R-FixedRun : goal.ghosts-open_unit-R-FixedRun
ghosts-open_unit-R-FixedRun g a = record { fixed = true; plan = plan a.number a.unit a.count }
