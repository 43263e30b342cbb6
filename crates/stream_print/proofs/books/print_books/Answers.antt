use Rattle.std.proofs.Common.{rules, ◌<◌, ◌++◌, List, Option, length, refl, arith}
use Rattle.std.proofs.lemmas.Option.{slice_get_read}
use Rattle.client_core.specs.declared.client.UnitClient.{UnitClient}
use Rattle.stream_print.specs.Putting.{PutsSome}
use Rattle.stream_print.specs.layers.Books.{texts_below}
use Rattle.pitch_model.proofs.Results.{on_err}
use Rattle.stream_print.proofs.Uniting.{books_start, books_more, books_fail}
use Rattle.stream_print.proofs.books.print_books.Goals as goal

pub units-init : goal.units-init
units-init g c = record {
  printed = books_start c.args.clients.now (g.O.Sink.written c.args.out.now) c.args.page.now.text;
  later = omega arith;
}

pub returns-in_err-print_unit-clause-err : goal.returns-in_err-print_unit-clause-err
returns-in_err-print_unit-clause-err g c =
    let clients : List (Option UnitClient) = c.args.clients.now in
    let many = c.requires.many in
    let lt : c.units.unit < length clients = search rules in
    let at = slice_get_read clients (length clients) c.units.unit c.index-clients-unit.result refl lt c.index-clients-unit.is in
    on_err (PutsSome (g.O.Sink.written c.args.out.now) (g.O.Sink.written c.print_unit.new.out) (c.args.page.now.text ++ texts_below clients 256)) _
    (books_fail clients c.units.unit c.index-clients-unit.result at (g.O.Sink.written c.args.out.now) (g.O.Sink.written c.units.out) (g.O.Sink.written c.print_unit.new.out) c.args.page.now.text c.units.page.text
    c.units.invariant.printed (omega arith) c.in_err-print_unit.ensures.err)

pub units-preserved : goal.units-preserved
units-preserved g c =
    let clients : List (Option UnitClient) = c.args.clients.now in
    let later = c.units.invariant.later in
    let cause = c.print_unit.ensures.cause.later in
    let lt : c.units.unit < length clients = search rules in
    let at = slice_get_read clients (length clients) c.units.unit c.index-clients-unit.result refl lt c.index-clients-unit.is in
    record {
      printed = books_more clients c.units.unit c.index-clients-unit.result at (g.O.Sink.written c.args.out.now) (g.O.Sink.written c.units.out) (g.O.Sink.written c.print_unit.new.out) c.args.page.now.text c.units.page.text
          c.units.invariant.printed c.print_unit.new.page.text c.in_ok-print_unit.ensures.printed;
      later = omega arith;
    }
