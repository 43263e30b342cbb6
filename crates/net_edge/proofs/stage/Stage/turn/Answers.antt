use Rattle.std.proofs.Common.{◌<◌, ◌∙◌, arith}
use Rattle.pitch_model.proofs.Results.{at_exit}
use Rattle.net_edge.specs.Due.{Setting, setting}
use Rattle.net_edge.proofs.Turning.{asks_next, in_turn, next_uncalled, turn_ends}
use Rattle.net_edge.proofs.stage.Stage.turn.Goals as goal

pub places-init : goal.places-init
places-init g c = record {
  still = c.in_ok-open_turn.ensures.faults.still;
  asked = λ base now b. in_turn g.V.Venue.is (setting c.args.number c.args.count) base _ c.open_turn.new.self c.args.turn (c.in_ok-open_turn.ensures.opened base now b);
}

pub places-preserved : goal.places-preserved
places-preserved g c = record {
  still = c.in_ok-ask.ensures.faults.still ∙ c.places.invariant.still;
  asked = λ base now b.
      let s : Setting = setting c.args.number c.args.count in
      let g0 = c.places.invariant.asked base now b in
      let few : c.places.place-index < 7 = omega arith in
      asks_next g.V.Venue.is s base c.args.turn c.places.place-index _ few _ c.places.self g0 _ c.ask.new.self
      (c.in_ok-ask.ensures.asked s base g0.now g0.at (next_uncalled g.V.Venue.is s base c.args.turn c.places.place-index _ few _ c.places.self g0));
}

pub returns-clause-over : goal.returns-clause-over
returns-clause-over g c = λ base now b. turn_ends g.V.Venue.is (setting c.args.number c.args.count) base _ c.places.self c.args.turn c.places.place-index (omega arith) (c.places.invariant.asked base now b)

pub returns-in_err-open_turn-clause-broke : goal.returns-in_err-open_turn-clause-broke
returns-in_err-open_turn-clause-broke g c = at_exit _ c.from_residual.result _ c.from_residual.ensures c.in_err-open_turn.ensures.broke

pub returns-in_err-ask-clause-broke : goal.returns-in_err-ask-clause-broke
returns-in_err-ask-clause-broke g c = at_exit _ c.from_residual-in_err-ask.result _ c.from_residual-in_err-ask.ensures
    (λ base now b.
    let s : Setting = setting c.args.number c.args.count in
    let g0 = c.places.invariant.asked base now b in
    c.in_err-ask.ensures.broke s base g0.now g0.at (next_uncalled g.V.Venue.is s base c.args.turn c.places.place-index _ (omega arith) _ c.places.self g0))
