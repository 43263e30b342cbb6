use Rattle.std.proofs.Common.{List, vec_len}
use Rattle.std.specs.List.{AllByRecursion}
use Rattle.schedule_replay.specs.layers.Runs.{Ran, AreRunsAt}
use Rattle.schedule_replay.specs.layers.Stretches.{StretchPart}
use Rattle.schedule_replay.proofs.merging.put_piece.Given as goal

abbrev pub invariant-turns : goal.invariant-turns
invariant-turns l = (parts : List StretchPart) → AreRunsAt parts l.fn.places.items l.fn.lefts.items → AllByRecursion (Ran parts) l.fn.runs.items
    → AreRunsAt parts l.places.items l.lefts.items × AllByRecursion (Ran parts) l.runs.items

abbrev pub decreases-turns : goal.decreases-turns
decreases-turns l = vec_len l.runs
