use Rattle.std.proofs.Common.{sym, ◌∙◌, arith}
use Rattle.std.specs.Prelude.{reverse}
use Rattle.stream_print.specs.Carriers.{carried_blocks}
use Rattle.stream_print.specs.Knowing.{task_form}
use Rattle.stream_print.specs.Inputs.{stream_limit}
use Rattle.stream_print.proofs.Feeding.{refuses_end, consumes_kept}
use Rattle.stream_print.proofs.Finishing.{ends_whole, ends_uncounted, ends_unflushed, ends_unprinted, ends_same}
use Rattle.stream_print.proofs.Unprinted.{ends_unwritten}
use Rattle.stream_print.proofs.stream.finish.Goals as goal

pub returns-in-Some-clause-finishes : goal.returns-in-Some-clause-finishes
returns-in-Some-clause-finishes g c = λ carrier first before now start bytes small fed none read end.
    refuses_end carrier (task_form c.args.printer.now.task) stream_limit first before now start (g.O.Sink.written c.args.out.now) bytes c.in-Some.trouble small read end none
    (sym (c.end_trouble.ensures carrier bytes small fed.read) ∙ c.in-Some.is) fed.wrote

pub returns-in_err-print_end-clause-finishes : goal.returns-in_err-print_end-clause-finishes
returns-in_err-print_end-clause-finishes g c = λ carrier first before now start bytes small fed none read end.
    ends_same carrier (task_form c.args.printer.now.task) stream_limit c.from_residual.result _ first now start (g.O.Sink.written c.print_end.new.out) c.from_residual.ensures
    (ends_unwritten carrier (task_form c.args.printer.now.task) stream_limit first now start (g.O.Sink.written c.print_end.new.out) c.in_err-print_end.field-0.0
    (ends_unprinted carrier (task_form c.args.printer.now.task) first before now start (g.O.Sink.written c.args.out.now) (g.O.Sink.written c.print_end.new.out) c.args.printer.now c.args.reader.now bytes fed
    (consumes_kept first before now bytes read end.1) read end (c.in_err-print_end.ensures.err (reverse (carried_blocks carrier bytes)) fed.known)))

pub returns-in_err-print_counts-clause-finishes : goal.returns-in_err-print_counts-clause-finishes
returns-in_err-print_counts-clause-finishes g c = λ carrier first before now start bytes small fed none read end.
    ends_same carrier (task_form c.args.printer.now.task) stream_limit c.from_residual-in_err-print_counts.result _ first now start (g.O.Sink.written c.print_counts.new.out) c.from_residual-in_err-print_counts.ensures
    (ends_uncounted carrier (task_form c.args.printer.now.task) first before now start (g.O.Sink.written c.args.out.now) (g.O.Sink.written c.print_end.new.out) (g.O.Sink.written c.print_counts.new.out) c.args.printer.now
    c.print_end.new.self.page.text c.args.reader.now bytes small fed (consumes_kept first before now bytes read end.1) read end
    (c.in_ok-print_end.ensures.printed (reverse (carried_blocks carrier bytes)) fed.known) c.in_err-print_counts.ensures.err)

pub returns-in_err-flush-clause-finishes : goal.returns-in_err-flush-clause-finishes
returns-in_err-flush-clause-finishes g c = λ carrier first before now start bytes small fed none read end.
    ends_same carrier (task_form c.args.printer.now.task) stream_limit c.from_residual-in_err-flush.result _ first now start (g.O.Sink.written c.flush.new.out) c.from_residual-in_err-flush.ensures
    (ends_unflushed carrier (task_form c.args.printer.now.task) first before now start (g.O.Sink.written c.args.out.now) (g.O.Sink.written c.print_end.new.out) (g.O.Sink.written c.print_counts.new.out) (g.O.Sink.written c.flush.new.out) c.args.printer.now
    c.print_end.new.self.page.text c.print_counts.new.page.text c.args.reader.now bytes small fed (consumes_kept first before now bytes read end.1) read end
    (c.in_ok-print_end.ensures.printed (reverse (carried_blocks carrier bytes)) fed.known) c.in_ok-print_counts.ensures.ok c.in_err-flush.ensures.err)

pub returns-clause-finishes : goal.returns-clause-finishes
returns-clause-finishes g c = λ carrier first before now start bytes small fed none read end.
    ends_whole carrier (task_form c.args.printer.now.task) stream_limit first before now start (g.O.Sink.written c.args.out.now) (g.O.Sink.written c.print_end.new.out) (g.O.Sink.written c.print_counts.new.out) (g.O.Sink.written c.flush.new.out) c.args.printer.now
    c.print_end.new.self.page.text c.print_counts.new.page.text c.args.reader.now bytes small (omega arith) fed none (sym (c.end_trouble.ensures carrier bytes small fed.read) ∙ c.in-None.is) read end
    (c.in_ok-print_end.ensures.printed (reverse (carried_blocks carrier bytes)) fed.known) c.in_ok-print_counts.ensures.ok c.in_ok-flush.ensures.ok
