use Rattle.live_venue.proofs.Commanding.{hears_accepted, hears_no_unit, refuses}
use Rattle.live_venue.proofs.hearing.hear_command.Goals as goal

pub returns-in_default : goal.returns-in_default
returns-in_default c = λ s came st. hears_no_unit s came c.args.units.now st c.args.entry.now.unit c.args.line c.args.entry.now.command (c.in_default.ensures s came st)

pub returns-in-Ok : goal.returns-in-Ok
returns-in-Ok c = λ s came st.
    hears_accepted s came c.args.units.now st c.args.entry.now.unit c.args.line c.args.entry.now.command c.accept.new.self c.in-Some.at (c.in-Some.ensures s came st) c.accept.result c.in-Ok.field-0 c.in-Ok.is
    c.accept.ensures.answer c.in-Ok.ensures.stands

pub returns-in-Err : goal.returns-in-Err
returns-in-Err c =
    refuses c.args.units.now c.accept.new.self c.args.entry.now.unit c.args.line c.in-Some.at c.args.entry.now.command c.accept.result c.in-Err.error c.refused.result (λ s came st. c.in-Some.ensures s came st) c.in-Err.is
    c.accept.ensures.answer c.accept.ensures.no_unit c.in-Err.ensures.err c.refused.ensures
