use Rattle.std.proofs.Common.{rules, ◌<◌, List, Option, length, refl, arith}
use Rattle.std.proofs.lemmas.Option.{slice_get_read}
use Rattle.pitch_model.proofs.Results.{on_err}
use Rattle.stream_print.specs.Sinks.{PutsSuch}
use Rattle.unit_clients.specs.Tables.{AtEach}
use Rattle.live_units.specs.Coming.{LiveSetup, UnitCame}
use Rattle.live_units.specs.Places.{IsUnitAt}
use Rattle.live_units.specs.Units.{AreFirstBooks}
use Rattle.live_units.specs.declared.unit.LiveUnit.{LiveUnit}
use Rattle.live_units.proofs.Books.{books_start, books_more, books_fail}
use Rattle.live_units.proofs.units.print_books.Goals as goal

pub units-init : goal.units-init
units-init g c = record {
  printed = λ s came stands. books_start s came (g.O.Sink.written c.args.out.now) c.args.page.now.text;
  later = omega arith;
}

pub returns-in_err-print_at-clause-err : goal.returns-in_err-print_at-clause-err
returns-in_err-print_at-clause-err g c =
    let places : List (Option LiveUnit) = c.args.places.now in
    let many = c.requires.many in
    let lt : c.units.unit < length places = search rules in
    let at = slice_get_read places (length places) c.units.unit c.index-places-unit.result refl lt c.index-places-unit.is in
    on_err ((s : LiveSetup) (came : List UnitCame) → AtEach (IsUnitAt s came) places → PutsSuch (AreFirstBooks s came) (g.O.Sink.written c.args.out.now) c.args.page.now.text (g.O.Sink.written c.print_at.new.out)) _
    (λ s came stands. books_fail s came c.units.unit (g.O.Sink.written c.args.out.now) (g.O.Sink.written c.units.out) (g.O.Sink.written c.print_at.new.out) c.args.page.now.text c.units.page.text
    (c.units.invariant.printed s came stands) (omega arith) (c.in_err-print_at.ensures.err s came c.units.unit (stands.each c.units.unit c.index-places-unit.result at)))

pub units-preserved : goal.units-preserved
units-preserved g c =
    let places : List (Option LiveUnit) = c.args.places.now in
    let later = c.units.invariant.later in
    let cause = c.print_at.ensures.cause.later in
    let lt : c.units.unit < length places = search rules in
    let at = slice_get_read places (length places) c.units.unit c.index-places-unit.result refl lt c.index-places-unit.is in
    record {
      printed = λ s came stands. books_more s came c.units.unit (g.O.Sink.written c.args.out.now) (g.O.Sink.written c.units.out) (g.O.Sink.written c.print_at.new.out) c.args.page.now.text c.units.page.text
          (c.units.invariant.printed s came stands) c.print_at.new.page.text (c.in_ok-print_at.ensures.printed s came c.units.unit (stands.each c.units.unit c.index-places-unit.result at));
      later = omega arith;
    }
