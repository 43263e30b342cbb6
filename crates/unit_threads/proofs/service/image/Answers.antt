use Rattle.std.proofs.Common.{List, subst}
use mathlib.Core.List.{IsPrefix}
use Rattle.pitch_model.specs.Advertising.{accepted_by}
use Rattle.pitch_model.specs.History.{Raw}
use Rattle.venue_core.specs.Plan.{plan}
use Rattle.unit_threads.proofs.Serving.{course_plan, planned_prefix, served_image}
use Rattle.unit_threads.proofs.service.image.Goals as goal

pub make-requires : goal.make-requires
make-requires g c =
    let course = c.args.course.now in
    let V : List Raw = plan g.R.DrillRun.number g.R.DrillRun.unit g.R.DrillRun.count in
    let same = course_plan course.number g.R.DrillRun.number course.unit g.R.DrillRun.unit course.count g.R.DrillRun.count course.number_is course.unit_is course.count_is in
    let prefix : IsPrefix (accepted_by c.image.new.self.history) V = subst (IsPrefix (accepted_by c.image.new.self.history)) same
    (planned_prefix g.R.FixedRun.fixed g.R.FixedRun.plan course.number course.unit course.count c.image.new.self.history course.planned c.in_ok-orders.ensures.run) in
    served_image c.image.new.self.history c.args.sequence c.in_ok-orders.field-0 c.make-raws.result.items c.image.new.out.items c.in_ok-orders.ensures.answer V c.in-Image.orders prefix c.make-raws.ensures c.in-Image.is
