use Rattle.std.proofs.Common.{◌-◌, ◌*◌, List, sym, ap, subst}
use Rattle.pitch_model.specs.Advertising.{Operation}
use Rattle.venue_core.specs.Commands.{raw_of}
use Rattle.unit_threads.specs.layers.Publishing.{HasAccepted}
use Rattle.unit_threads.proofs.Publishing.{accepted_next, legal_next}
use Rattle.unit_threads.proofs.publisher.accept.Goals as goal

pub accept-requires-clause-run : goal.accept-requires-clause-run
accept-requires-clause-run g c =
    let course = c.args.course.now in
    legal_next g.R.FixedRun.fixed g.R.FixedRun.plan course.number course.unit course.count c.args.index (2 * c.args.index - 1) _ course.planned c.requires.index.1
    (accepted_next c.args.writer.now.history course.number course.unit c.args.index (raw_of c.plan_command.result) c.requires.index.0 (ap raw_of c.plan_command.ensures) c.requires.before)

pub returns-in-Ok : goal.returns-in-Ok
returns-in-Ok g c =
    let course = c.args.course.now in
    subst (λ (h : List Operation). HasAccepted h course.number course.unit c.args.index (2 * c.args.index - 1)) (sym c.in-Ok.ensures.history)
    (accepted_next c.args.writer.now.history course.number course.unit c.args.index (raw_of c.plan_command.result) c.requires.index.0 (ap raw_of c.plan_command.ensures) c.requires.before)
