use Rattle.std.proofs.Common.{◌++◌, List, Option, sym, subst}
use Rattle.unit_packets.specs.Blocks.{Block}
use Rattle.client_core.specs.declared.client.UnitClient.{UnitClient}
use Rattle.unit_clients.specs.Clients.{HaveHeard}
use Rattle.stream_print.specs.Knowing.{HasPrinted, Knows, task_form}
use Rattle.stream_print.specs.Page.{Prints, PrintsSuch}
use Rattle.stream_print.specs.Putting.{PutsSome}
use Rattle.stream_print.specs.Sinks.{PutsSuch}
use Rattle.stream_print.specs.TextLaws.{IsEnd}
use Rattle.stream_print.specs.declared.task.Task.{Task}
use Rattle.stream_print.specs.layers.Books.{texts_below}
use Rattle.pitch_model.proofs.Results.{on_ok_map, on_err_map}
use Rattle.stream_print.proofs.Uniting.{end_of_books, prefix_of_books}
use Rattle.stream_print.proofs.printer.Printer.print_end.Goals as goal

pub returns-in-Follow-clause-printed : goal.returns-in-Follow-clause-printed
returns-in-Follow-clause-printed g c =
    let w = g.O.Sink.written c.args.out.now in
    let v = g.O.Sink.written c.print_books.new.out in
    let t = c.args.self.now.page.text in
    let u = c.print_books.new.page.text in
    let units = c.in-Follow.units in
    on_ok_map _ ((before : List Block) → HasPrinted c.args.self.now before → PrintsSuch (IsEnd (task_form c.args.self.now.task) before) w t v u) c.print_books.result c.print_books.ensures.printed
    (λ printed before known.
    let heard : HaveHeard units before = subst (λ (task : Task). Knows task before) c.in-Follow.is known.knows in
    subst (λ (task : Task). PrintsSuch (IsEnd (task_form task) before) w t v u) (sym c.in-Follow.is)
    (end_of_books units before w t v heard u
    (subst (λ (clients : List (Option UnitClient)). Prints w t v u (texts_below clients 256)) c.clients.ensures.clients printed)))

pub returns-in-Follow-clause-err : goal.returns-in-Follow-clause-err
returns-in-Follow-clause-err g c =
    let w = g.O.Sink.written c.args.out.now in
    let v = g.O.Sink.written c.print_books.new.out in
    let t = c.args.self.now.page.text in
    let units = c.in-Follow.units in
    on_err_map _ ((before : List Block) → HasPrinted c.args.self.now before → PutsSuch (IsEnd (task_form c.args.self.now.task) before) w t v) c.print_books.result c.print_books.ensures.err
    (λ puts before known.
    let heard : HaveHeard units before = subst (λ (task : Task). Knows task before) c.in-Follow.is known.knows in
    subst (λ (task : Task). PutsSuch (IsEnd (task_form task) before) w t v) (sym c.in-Follow.is)
    (prefix_of_books units before w t v heard
    (subst (λ (clients : List (Option UnitClient)). PutsSome w v (t ++ texts_below clients 256)) c.clients.ensures.clients puts)))
