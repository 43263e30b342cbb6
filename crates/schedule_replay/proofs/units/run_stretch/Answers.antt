use Rattle.std.proofs.Common.{arith, ◌+◌, refl}
use Rattle.schedule_replay.specs.layers.Stretches.{items_at}
use Rattle.schedule_replay.proofs.Parting.{ran_more}
use Rattle.schedule_replay.proofs.units.run_stretch.Goals as goal

pub returns-in_ok-push-in-Ok-clause-ran : goal.returns-in_ok-push-in-Ok-clause-ran
returns-in_ok-push-in-Ok-clause-ran c = λ parts ran.
    ran_more parts c.args.run.now.unit (items_at (c.args.before + 1) c.args.bytes.now) c.args.run.now
    (record { unit = c.args.run.now.unit; world = c.run_lines.new.place; text = c.run_lines.new.out; lengths = c.push.new.self })
    c.in-Ok.length refl refl c.in_ok-run_lines.ensures (omega (arith, c.saturating_sub.ensures, c.len.ensures, c.len-start.ensures, c.in-Ok.ensures)) c.in_ok-push-in-Ok.ensures.items ran
