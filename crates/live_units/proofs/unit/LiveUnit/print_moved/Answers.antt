use Rattle.std.proofs.Common.{rules, ◌++◌, ℕ, List, subst}
use Rattle.std.proofs.lemmas.Result.{on_ok_weaker, on_err_weaker}
use Rattle.client_end.specs.Came.{end_history}
use Rattle.stream_print.specs.Page.{Prints}
use Rattle.stream_print.specs.Putting.{PutsSome}
use Rattle.live_units.proofs.Moving.{has_moved}
use Rattle.live_units.proofs.unit.LiveUnit.print_moved.Goals as goal

pub returns-clause-printed : goal.returns-clause-printed
returns-clause-printed g c =
    let w = g.O.Sink.written c.args.out.now in
    let v = g.O.Sink.written c.print_image.new.out in
    on_ok_weaker c.print_image.result (λ p s now is E was.
    subst (Prints w c.args.page.now.text v c.print_image.new.page.text)
    (has_moved s E (end_history s now) c.args.before c.reach-reach.result was (c.reach-reach.ensures s now is.end_is) (search rules) c.args.self.now.unit c.status.result is.unit_is (c.status.ensures s now is.end_is)) p) c.print_image.ensures.printed

pub returns-clause-err : goal.returns-clause-err
returns-clause-err g c =
    let w = g.O.Sink.written c.args.out.now in
    let v = g.O.Sink.written c.print_image.new.out in
    on_err_weaker c.print_image.result (λ p s now is E was.
    subst (λ (t : List ℕ). PutsSome w v (c.args.page.now.text ++ t))
    (has_moved s E (end_history s now) c.args.before c.reach-reach.result was (c.reach-reach.ensures s now is.end_is) (search rules) c.args.self.now.unit c.status.result is.unit_is (c.status.ensures s now is.end_is)) p) c.print_image.ensures.err
