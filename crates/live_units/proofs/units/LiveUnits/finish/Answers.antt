use Rattle.std.proofs.Common.{◌++◌, sym, subst}
use Rattle.unit_clients.specs.Tables.{AtEach}
use Rattle.live_units.specs.Places.{IsUnitAt}
use Rattle.live_units.proofs.Ending.{ends_done, ends_unbooked, ends_unwritten}
use Rattle.live_units.proofs.Growing.{grown_more, grown_prints, grown_puts}
use Rattle.live_units.proofs.units.LiveUnits.finish.Goals as goal

pub returns-in_err-print_books-clause-ends : goal.returns-in_err-print_books-clause-ends
returns-in_err-print_books-clause-ends g c = λ s start came st.
    ends_unbooked s came c.args.self.now start (g.O.Sink.written c.args.out.now) st (g.O.Sink.written c.print_books.new.out) c.from_residual.result c.from_residual.ensures.0
    (c.in_err-print_books.ensures.err s came (subst (AtEach (IsUnitAt s came)) (sym c.places.ensures.places) st.units_are))

pub returns-in_err-flush-clause-ends : goal.returns-in_err-flush-clause-ends
returns-in_err-flush-clause-ends g c = λ s start came st.
    ends_unwritten s came c.args.self.now start (g.O.Sink.written c.args.out.now) st (g.O.Sink.written c.print_books.new.out) (g.O.Sink.written c.flush.new.out) c.print_books.new.page.text
    (c.in_ok-print_books.ensures.printed s came (subst (AtEach (IsUnitAt s came)) (sym c.places.ensures.places) st.units_are))
    c.from_residual-in_err-flush.result c.from_residual-in_err-flush.ensures.0 c.in_err-flush.ensures.err

pub returns-clause-ends : goal.returns-clause-ends
returns-clause-ends g c = λ s start came st.
    ends_done s came c.args.self.now start (g.O.Sink.written c.args.out.now) st (g.O.Sink.written c.print_books.new.out) (g.O.Sink.written c.flush.new.out) c.print_books.new.page.text
    (c.in_ok-print_books.ensures.printed s came (subst (AtEach (IsUnitAt s came)) (sym c.places.ensures.places) st.units_are))
    c.in_ok-flush.ensures.ok

pub returns-in_err-print_books-clause-grows : goal.returns-in_err-print_books-clause-grows
returns-in_err-print_books-clause-grows g c = λ s start came st.
    let puts = c.in_err-print_books.ensures.err s came (subst (AtEach (IsUnitAt s came)) (sym c.places.ensures.places) st.units_are) in
    grown_puts (g.O.Sink.written c.args.out.now) (g.O.Sink.written c.print_books.new.out) (c.args.self.now.page.text ++ puts.text) puts.puts

pub returns-in_err-flush-clause-grows : goal.returns-in_err-flush-clause-grows
returns-in_err-flush-clause-grows g c = λ s start came st.
    let w = g.O.Sink.written c.args.out.now in
    let v = g.O.Sink.written c.print_books.new.out in
    let z = g.O.Sink.written c.flush.new.out in
    let books = c.in_ok-print_books.ensures.printed s came (subst (AtEach (IsUnitAt s came)) (sym c.places.ensures.places) st.units_are) in
    grown_more w v z (grown_prints w v c.args.self.now.page.text c.print_books.new.page.text books.text books.printed) (grown_puts v z c.print_books.new.page.text c.in_err-flush.ensures.err)

pub returns-clause-grows : goal.returns-clause-grows
returns-clause-grows g c = λ s start came st.
    let w = g.O.Sink.written c.args.out.now in
    let v = g.O.Sink.written c.print_books.new.out in
    let z = g.O.Sink.written c.flush.new.out in
    let books = c.in_ok-print_books.ensures.printed s came (subst (AtEach (IsUnitAt s came)) (sym c.places.ensures.places) st.units_are) in
    grown_more w v z (grown_prints w v c.args.self.now.page.text c.print_books.new.page.text books.text books.printed) (c.print_books.new.page.text, c.in_ok-flush.ensures.ok)
