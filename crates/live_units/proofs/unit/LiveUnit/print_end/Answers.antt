use Rattle.std.proofs.Common.{rules, ◌≡◌, true, false, sym, ◌∙◌}
use Rattle.pitch_model.proofs.Results.{on_ok_map, on_err_map}
use Rattle.stream_print.specs.Page.{PrintsSuch}
use Rattle.stream_print.specs.Sinks.{PutsSuch}
use Rattle.live_units.specs.Standing.{IsBookText, OfUnit}
use Rattle.live_units.proofs.Booking.{no_book, has_book, book_begun}
use Rattle.live_units.proofs.unit.LiveUnit.print_end.Goals as goal

pub returns-then-not-is_told_of-clause-printed : goal.returns-then-not-is_told_of-clause-printed
returns-then-not-is_told_of-clause-printed g c = λ s before is.
    let untold : c.is_told_of.result ≡ false = search rules in
    no_book s before (sym (c.is_told_of.ensures s before is) ∙ untold) (g.O.Sink.written c.args.out.now) c.args.page.now.text

pub returns-clause-printed : goal.returns-clause-printed
returns-clause-printed g c =
    let w = g.O.Sink.written c.args.out.now in
    let v = g.O.Sink.written c.print_book.new.out in
    on_ok_map _ (OfUnit c.args.self.now (λ s before. PrintsSuch (IsBookText s before) w c.args.page.now.text v c.print_book.new.page.text)) c.print_book.result c.print_book.ensures.printed
    (λ printed s before is.
    let told : c.is_told_of.result ≡ true = search rules in
    has_book s before (sym (c.is_told_of.ensures s before is) ∙ told) c.args.self.now.unit c.reach.result c.book.result.now.book is.unit_is (c.reach.ensures s before is.end_is) (c.book.ensures s before is.end_is)
    w c.args.page.now.text v c.print_book.new.page.text printed)

pub returns-clause-err : goal.returns-clause-err
returns-clause-err g c =
    let w = g.O.Sink.written c.args.out.now in
    let v = g.O.Sink.written c.print_book.new.out in
    on_err_map _ (OfUnit c.args.self.now (λ s before. PutsSuch (IsBookText s before) w c.args.page.now.text v)) c.print_book.result c.print_book.ensures.err
    (λ puts s before is.
    let told : c.is_told_of.result ≡ true = search rules in
    book_begun s before (sym (c.is_told_of.ensures s before is) ∙ told) c.args.self.now.unit c.reach.result c.book.result.now.book is.unit_is (c.reach.ensures s before is.end_is) (c.book.ensures s before is.end_is)
    w c.args.page.now.text v puts)
