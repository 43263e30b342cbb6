use Rattle.std.proofs.Common.{ℕ, List, Result, Vec, Global, slice_get}
use Rattle.std.proofs.lemmas.Option.{IfSome_then}
use Rattle.std.proofs.lemmas.Result.{IfOk-weaker}
use Rattle.std.specs.List.{AllByRecursion}
use Rattle.schedule_replay.specs.layers.Runs.{AreRun, Ran}
use Rattle.schedule_replay.specs.layers.Stretches.{parts_of}
use Rattle.schedule_replay.specs.declared.units.UnitRun.{UnitRun}
use Rattle.schedule_replay.specs.declared.unrun.CantRunApart.{CantRunApart}
use Rattle.schedule_replay.proofs.apart.run_lists.Goals as goal

pub returns-then-are_filled-clause-runs : goal.returns-then-are_filled-clause-runs
returns-then-are_filled-clause-runs g c = λ all listed were.
    let text : List ℕ = c.args.text.now in
    c.in_ok-put_pieces.ensures (parts_of text all) were
    (λ n. IfSome_then (slice_get c.in_ok-pieces.pieces.items n) (c.in_ok-pieces.ensures n) (λ (piece : Result (Vec UnitRun Global) CantRunApart) done.
    IfOk-weaker piece (λ runs. AreRun text c.args.lists.now runs.items) (λ runs. AllByRecursion (Ran (parts_of text all)) runs.items) (λ runs are. are all listed) done))
