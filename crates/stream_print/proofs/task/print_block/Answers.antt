use Rattle.std.proofs.Common.{refl, ap, sym, subst}
use Rattle.pitch_model.proofs.Results.{at_exit}
use Rattle.feed_lines.specs.Follow.{line_after}
use Rattle.stream_print.specs.Printing.{PrintsBlock, FailsBlock}
use Rattle.stream_print.specs.declared.failure.TaskError.{TaskError}
use Rattle.stream_print.specs.declared.stream_form.StreamForm.TheVariants as form
use Rattle.stream_print.specs.declared.task.Task.{Task}
use Rattle.stream_print.specs.declared.task.Task.TheVariants.{Follow}
use Rattle.stream_print.proofs.Streaming.{prints_text}
use Rattle.stream_print.proofs.Unprinted.{page_fails}
use Rattle.stream_print.proofs.task.print_block.Goals as goal

pub returns-in_ok-print_heard-in-Follow-clause-prints : goal.returns-in_ok-print_heard-in-Follow-clause-prints
returns-in_ok-print_heard-in-Follow-clause-prints g c =
    let w = g.O.Sink.written c.args.out.now in
    let v = g.O.Sink.written c.print_heard.new.out in
    let block = c.args.block.now in
    let heard = c.in_ok-print_heard-in-Follow.ensures in
    subst (λ (t : Task). PrintsBlock t (Follow c.print_heard.new.units) c.args.number w c.args.page.now.text v c.print_heard.new.page.text block) (sym c.in-Follow.is) (record {
      form_is = ap form.Follow heard.limit;
      known = heard.heard;
      printed = λ before knows is. prints_text (form.Follow c.in-Follow.units.limit) before block w v c.args.page.now.text c.print_heard.new.page.text (line_after c.in-Follow.units.limit before block) (heard.printed before knows is) refl;
    })

pub returns-in_err-print_heard-in-Follow-clause-err : goal.returns-in_err-print_heard-in-Follow-clause-err
returns-in_err-print_heard-in-Follow-clause-err g c =
    let w = g.O.Sink.written c.args.out.now in
    let v = g.O.Sink.written c.print_heard.new.out in
    at_exit (λ (e : TaskError). FailsBlock e c.args.task.now c.args.number w c.args.page.now.text v c.args.block.now) c.from_residual.result _ c.from_residual.ensures
    (page_fails c.args.task.now c.args.number w c.args.page.now.text v c.args.block.now _ c.in_err-print_heard-in-Follow.ensures.err)
