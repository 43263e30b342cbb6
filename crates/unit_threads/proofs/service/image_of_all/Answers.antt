use Rattle.std.proofs.Common.{◌≡◌, Bool, true, false, sym, ◌∙◌, subst}
use Rattle.std.specs.Prelude.{IfNone}
use Rattle.spin_server.specs.Served.{is_served}
use Rattle.shared_unit.specs.layers.Histories.{served_at}
use Rattle.unit_threads.proofs.Serving.{planned_prefix, serves_all}
use Rattle.unit_threads.proofs.service.image_of_all.Goals as goal

pub unreachable-requires : goal.unreachable-requires
unreachable-requires g c =
    let course = c.args.course.now in
    let served : Bool = is_served (served_at c.image.new.server.history) course.count in
    let none : served ≡ false = subst (λ o. IfNone o (served ≡ false)) c.in-None.is c.in_ok-image.ensures.none in
    let prefix = planned_prefix g.R.FixedRun.fixed g.R.FixedRun.plan course.number course.unit course.count c.image.new.server.history course.planned c.in_ok-image.ensures.run in
    let yes : served ≡ true = serves_all c.args.server.now.history c.image.new.server.history course.number course.unit course.count c.requires c.in_ok-image.ensures.later prefix in
    apart (sym yes ∙ none)
  where
    apart : true ≡ false → ⊥
    apart e = cc
