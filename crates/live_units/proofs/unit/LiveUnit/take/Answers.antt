use Rattle.std.proofs.Common.{refl, sym, true≢false}
use Rattle.sending_end.specs.Waiting.{lost, took}
use Rattle.live_units.proofs.unit.LiveUnit.take.Goals as goal

pub returns-in-Ok-clause-takes : goal.returns-in-Ok-clause-takes
returns-in-Ok-clause-takes c = (took c.args.session c.args.piece.now, (refl, c.in-Ok.ensures.passes))

pub returns-in-Err-clause-takes : goal.returns-in-Err-clause-takes
returns-in-Err-clause-takes c =
    let part = c.in-Err.ensures.err in
    (lost c.args.session c.args.piece.now part.0, ((part.0, refl), part.1))

pub returns-in-Err-clause-none : goal.returns-in-Err-clause-none
returns-in-Err-clause-none c = λ s before is none. absurd (true≢false (sym (c.in-Err.ensures.none s before is.end_is none)))
