use Rattle.std.proofs.Common.{ℕ, List, ◌++◌, ap, ◌∙◌}
use Rattle.venue_core.specs.Plan.{plan}
use Rattle.drill_client.proofs.Playing.{line_is}
use Rattle.drill_client.proofs.turns.end_with.Goals as goal

pub returns-clause-ok : goal.returns-clause-ok
returns-clause-ok c =
    c.in_ok-append_end.ensures.ok 4096 (plan c.args.course.number c.args.course.unit c.args.course.count) c.in_ok-end.ensures
    ∙ ap (λ (line : List ℕ). c.args.out.now.items ++ line) (line_is c.args.course.number c.args.course.unit c.args.course.count)
