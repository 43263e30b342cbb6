use Rattle.std.proofs.Common.{sym, subst}
use Rattle.std.specs.List.{AllByRecursion}
use Rattle.pitch_fields.proofs.Lists.{all_push}
use Rattle.schedule_replay.specs.layers.Runs.{Ran}
use Rattle.schedule_replay.specs.layers.Stretches.{parts_of}
use Rattle.schedule_replay.proofs.units.run_piece.Goals as goal

pub units-init : goal.units-init
units-init g c = λ all listed. subst (AllByRecursion (Ran (parts_of c.args.text.now all))) (sym c.make-runs.ensures) tt

pub units-preserved : goal.units-preserved
units-preserved g c = λ all listed.
    subst (AllByRecursion (Ran (parts_of c.args.text.now all))) (sym c.in_ok-push.ensures.ok)
    (all_push (Ran (parts_of c.args.text.now all)) c.units.runs.items _ (c.units.invariant all listed) (c.in_ok-run.ensures all listed))

pub returns : goal.returns
returns g c = λ all listed. subst (AllByRecursion (Ran (parts_of c.args.text.now all))) (sym c.into_vec.ensures) (c.units.invariant all listed)
