use Rattle.std.proofs.Common.{◌++◌, List, ℕ, None, Some, subst}
use Rattle.std.proofs.lemmas.Result.{on_err_weaker, on_ok_weaker}
use Rattle.stream_print.specs.Page.{Prints}
use Rattle.stream_print.specs.Putting.{PutsSome}
use Rattle.stream_print.proofs.Printing.{prints_none}
use Rattle.live_venue.proofs.Reporting.{numbered_is}
use Rattle.live_venue.proofs.report.print_numbered.Goals as goal

pub returns-in-None-clause-printed : goal.returns-in-None-clause-printed
returns-in-None-clause-printed g c = λ s came st.
    let w = g.O.Sink.written c.args.out.now in
    let t = c.args.page.now.text in
    subst (Prints w t w t) (numbered_is s came c.args.unit None (c.in-None.ensures s came st)) (prints_none w t)

pub returns-in-Some-clause-printed : goal.returns-in-Some-clause-printed
returns-in-Some-clause-printed g c =
    on_ok_weaker c.print_served.result (λ p s came st. subst (Prints (g.O.Sink.written c.args.out.now) c.args.page.now.text (g.O.Sink.written c.print_served.new.out) c.print_served.new.page.text)
    (numbered_is s came c.args.unit (Some c.in-Some.at) (c.in-Some.ensures s came st)) (p s came st)) c.print_served.ensures.printed

pub returns-in-Some-clause-err : goal.returns-in-Some-clause-err
returns-in-Some-clause-err g c =
    on_err_weaker c.print_served.result (λ p s came st. subst (λ (t : List ℕ). PutsSome (g.O.Sink.written c.args.out.now) (g.O.Sink.written c.print_served.new.out) (c.args.page.now.text ++ t))
    (numbered_is s came c.args.unit (Some c.in-Some.at) (c.in-Some.ensures s came st)) (p s came st)) c.print_served.ensures.err
