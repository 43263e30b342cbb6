use Rattle.std.proofs.Common.{ap, refl, sym, ◌∙◌, arith}
use Rattle.pitch_model.proofs.Results.{at_exit}
use Rattle.net_edge.specs.Scene.{is_got}
use Rattle.net_edge.proofs.Grouping.{nothing}
use Rattle.net_edge.proofs.Groups.{asks_full, asks_last, asks_over, may_ask, some_more, some_none}
use Rattle.net_edge.proofs.stage.Stage.ask.Goals as goal

pub calls-init : goal.calls-init
calls-init g c = record {
  still = refl;
  asked = λ s base now at none. some_none g.V.Venue.is s base _ c.args.self.now c.args.place now at none;
}

pub calls-preserved : goal.calls-preserved
calls-preserved g c = record {
  still = c.in_ok-ask_once.ensures.faults.still ∙ c.calls.invariant.still;
  asked = λ s base now at none.
      let so = c.calls.invariant.asked s base now at none in
      let may = may_ask g.V.Venue.is s base _ c.calls.self c.args.place c.calls.index now so (omega arith) (sym (c.is_place_done.ensures s base _ so.after so.at.at) ∙ c.if-is_place_done.false) in
      some_more g.V.Venue.is s base _ _ c.calls.self c.ask_once.new.self c.args.place c.in_ok-ask_once.field-0 c.calls.index now so (c.in_ok-ask_once.ensures.asked s base so.after so.at may) (ap is_got c.in-Got.is);
}

pub returns-then-is_place_done-clause-asked : goal.returns-then-is_place_done-clause-asked
returns-then-is_place_done-clause-asked g c = λ s base now at none.
    let so = c.calls.invariant.asked s base now at none in
    asks_over g.V.Venue.is s base _ c.calls.self c.args.place c.calls.index now so (λ opened. sym (c.is_place_done.ensures s base _ so.after so.at.at) ∙ c.if-is_place_done.true)

pub returns-in-Quiet-clause-asked : goal.returns-in-Quiet-clause-asked
returns-in-Quiet-clause-asked g c = λ s base now at none.
    let so = c.calls.invariant.asked s base now at none in
    let may = may_ask g.V.Venue.is s base _ c.calls.self c.args.place c.calls.index now so (omega arith) (sym (c.is_place_done.ensures s base _ so.after so.at.at) ∙ c.if-is_place_done.false) in
    asks_last g.V.Venue.is s base _ _ c.calls.self c.ask_once.new.self c.args.place c.in_ok-ask_once.field-0 c.calls.index now so (c.in_ok-ask_once.ensures.asked s base so.after so.at may) (nothing c.in_ok-ask_once.field-0 c.in-Quiet.is)

pub returns-clause-asked : goal.returns-clause-asked
returns-clause-asked g c = λ s base now at none. asks_full g.V.Venue.is s base _ c.calls.self c.args.place c.calls.index now (c.calls.invariant.asked s base now at none) (omega arith)

pub returns-in_err-ask_once-clause-broke : goal.returns-in_err-ask_once-clause-broke
returns-in_err-ask_once-clause-broke g c = at_exit _ c.from_residual.result _ c.from_residual.ensures
    (λ s base now at none.
    let so = c.calls.invariant.asked s base now at none in
    c.in_err-ask_once.ensures.broke s base so.after so.at (may_ask g.V.Venue.is s base _ c.calls.self c.args.place c.calls.index now so (omega arith) (sym (c.is_place_done.ensures s base _ so.after so.at.at) ∙ c.if-is_place_done.false)))
