use Rattle.std.proofs.Common.{arith, refl}
use Rattle.schedule_replay.proofs.Cutting.{grows_more, rest_is}
use Rattle.schedule_replay.proofs.stretches.first_stretch.Goals as goal

pub lines-preserved : goal.lines-preserved
lines-preserved c =
    let size = c.line_size-size-in-lines in
    grows_more c.lines.lines c.lines.size size.result c.args.text.now _ (rest_is c.lines.size _ c.args.text.now refl) c.lines.invariant size.ensures.some size.ensures.within size.ensures.whole (omega (arith, c.lines-test.true))
