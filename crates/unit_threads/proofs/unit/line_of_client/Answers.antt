use Rattle.std.proofs.Common.{List, ℕ, ◌++◌, sym, ap, ◌∙◌}
use Rattle.pitch_model.specs.History.{Raw}
use Rattle.venue_core.specs.Plan.{plan}
use Rattle.drill_client.specs.layers.Ending.{whole_line}
use Rattle.drill_client.proofs.Playing.{line_is}
use Rattle.unit_threads.proofs.Serving.{course_plan}
use Rattle.unit_threads.proofs.unit.line_of_client.Goals as goal

pub returns : goal.returns
returns g c =
    let course = c.args.course.now in
    let V : List Raw = plan g.R.DrillRun.number g.R.DrillRun.unit g.R.DrillRun.count in
    let same = course_plan course.number g.R.DrillRun.number course.unit g.R.DrillRun.unit course.count g.R.DrillRun.count course.number_is course.unit_is course.count_is in
    c.in_ok-append_end.ensures.ok 4096 V c.requires
    ∙ ap (λ (text : List ℕ). text ++ whole_line course.unit V) c.new-out.ensures.items
    ∙ ap (λ (W : List Raw). whole_line course.unit W) (sym same)
    ∙ line_is course.number course.unit course.count
