use Rattle.std.proofs.Common.{◌≡◌, ◌≢◌, ◌+◌, ℕ, refl, ◌∙◌, arith}
use Rattle.pitch_model.proofs.Results.{at_exit}
use Rattle.net_edge.specs.Acting.{next_turn}
use Rattle.net_edge.specs.Due.{Setting, setting}
use Rattle.net_edge.specs.Turns.{MayGoOn, client_status}
use Rattle.net_edge.proofs.Starting.{goes_on, last_is, turn_again}
use Rattle.net_edge.proofs.running.run.Goals as goal

pub turns-init : goal.turns-init
turns-init g c = record {
  least = omega arith;
  most = omega arith;
  still = c.in_ok-turn.ensures.faults.still;
  ran = λ base now begins. c.in_ok-turn.ensures.over base now begins;
}

pub turns-preserved : goal.turns-preserved
turns-preserved g c =
    let s : Setting = setting c.args.number c.args.count in
    let turn : ℕ = c.turns.turn in
    let on = c.turns-test.ensures in
    let ne : turn ≢ c.args.count + 200 = on.1 in
    record {
      least = omega arith;
      most = omega (arith, c.turns.invariant.most, ne);
      still = c.in_ok-turn-2.ensures.faults.still ∙ c.turns.invariant.still;
      ran = λ base now begins.
          let e = c.turns.invariant.ran base now begins in
          let status : c.status.result ≡ client_status e.now = c.status.ensures e.now.world e.at.at.holds in
          let goes : MayGoOn s e.now = goes_on s e.now turn c.status.result e.turn_is status on.0 in
          c.in_ok-turn-2.ensures.over base (next_turn s e.now) (turn_again g.V.Venue.is s c.requires.many.1 base (g.N.Net.calls c.turns.net) c.turns.stage turn (turn + 1) refl e goes);
    }

pub returns-clause-ran : goal.returns-clause-ran
returns-clause-ran g c = λ base now begins.
    let s : Setting = setting c.args.number c.args.count in
    let e = c.turns.invariant.ran base now begins in
    let end = c.turns-test.ensures in
    record {
      now = e.now;
      at = e.at;
      over = e.over;
      last = last_is s e.now c.turns.turn c.status.result e.turn_is c.turns.invariant.most (c.status.ensures e.now.world e.at.at.holds) end.0 end.1;
    }

pub returns-in_err-turn-clause-broke : goal.returns-in_err-turn-clause-broke
returns-in_err-turn-clause-broke g c = at_exit _ c.from_residual.result _ c.from_residual.ensures (λ base now begins. c.in_err-turn.ensures.broke base now begins)

pub returns-in_err-turn-2-clause-broke : goal.returns-in_err-turn-2-clause-broke
returns-in_err-turn-2-clause-broke g c = at_exit _ c.from_residual-in_err-turn-2.result _ c.from_residual-in_err-turn-2.ensures
    (λ base now begins.
    let s : Setting = setting c.args.number c.args.count in
    let e = c.turns.invariant.ran base now begins in
    let goes : MayGoOn s e.now = goes_on s e.now c.turns.turn c.status.result e.turn_is (c.status.ensures e.now.world e.at.at.holds) c.turns-test.ensures.0 in
    c.in_err-turn-2.ensures.broke base (next_turn s e.now) (turn_again g.V.Venue.is s c.requires.many.1 base (g.N.Net.calls c.turns.net) c.turns.stage c.turns.turn (c.turns.turn + 1) refl e goes))
