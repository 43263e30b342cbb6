use Rattle.std.proofs.Common.{◌≡◌, ◌++◌, [], List, ℕ, ap, subst}
use Rattle.pitch_model.proofs.Results.{on_err}
use Rattle.stream_print.specs.Page.{Page, Prints}
use Rattle.stream_print.specs.Putting.{PutsSome}
use Rattle.venue_units.specs.Units.{OfUnits}
use Rattle.live_venue.specs.Report.{report_text}
use Rattle.live_venue.proofs.Reporting.{puts_none, puts_page, written_out}
use Rattle.live_venue.proofs.report.write_all.Goals as goal

pub returns-in_err-page-clause-err : goal.returns-in_err-page-clause-err
returns-in_err-page-clause-err g c =
    let w = g.O.Sink.written c.args.out.now in
    on_err (OfUnits c.args.units.now (λ s came. PutsSome w w (report_text s came))) _ (λ s came st. puts_none w (report_text s came))

pub returns-in_err-print_all-clause-err : goal.returns-in_err-print_all-clause-err
returns-in_err-print_all-clause-err g c =
    let w = g.O.Sink.written c.args.out.now in
    let v = g.O.Sink.written c.print_all.new.out in
    let empty : c.in_ok-page.page.text ≡ [] = ap (λ (p : Page). p.text) c.in_ok-page.ensures in
    on_err (OfUnits c.args.units.now (λ s came. PutsSome w v (report_text s came))) _
    (λ s came st. subst (λ (t : List ℕ). PutsSome w v (t ++ report_text s came)) empty (c.in_err-print_all.ensures.err s came st))

pub returns-in_err-flush-clause-err : goal.returns-in_err-flush-clause-err
returns-in_err-flush-clause-err g c =
    let w = g.O.Sink.written c.args.out.now in
    let v = g.O.Sink.written c.print_all.new.out in
    let z = g.O.Sink.written c.flush.new.out in
    let empty : c.in_ok-page.page.text ≡ [] = ap (λ (p : Page). p.text) c.in_ok-page.ensures in
    on_err (OfUnits c.args.units.now (λ s came. PutsSome w z (report_text s came))) _
    (λ s came st. puts_page w v z c.print_all.new.page.text (report_text s came)
    (subst (λ (t : List ℕ). Prints w t v c.print_all.new.page.text (report_text s came)) empty (c.in_ok-print_all.ensures.printed s came st)) c.in_err-flush.ensures.err)

pub returns-clause-ok : goal.returns-clause-ok
returns-clause-ok g c = λ s came st.
    let w = g.O.Sink.written c.args.out.now in
    let v = g.O.Sink.written c.print_all.new.out in
    let z = g.O.Sink.written c.flush.new.out in
    let empty : c.in_ok-page.page.text ≡ [] = ap (λ (p : Page). p.text) c.in_ok-page.ensures in
    written_out w v z c.print_all.new.page.text (report_text s came)
    (subst (λ (t : List ℕ). Prints w t v c.print_all.new.page.text (report_text s came)) empty (c.in_ok-print_all.ensures.printed s came st)) c.in_ok-flush.ensures.ok
