use Rattle.std.proofs.Common.{◌≡◌, ℕ, ◌+◌, subst, arith}
use Rattle.live_turns.specs.Turning.{IsFrom}
use Rattle.live_turns.proofs.turns.LiveTurns.after_peer.Goals as goal

pub returns-in-Some-clause-place : goal.returns-in-Some-clause-place
returns-in-Some-clause-place c = λ w run ways none.
    c.from_peer.ensures.place w run ways (none c.in-Some.next (omega (arith, c.in-Some.ensures))) (λ other behind. none other (omega (arith, behind, c.in-Some.ensures)))

pub returns-in-Some-clause-from : goal.returns-in-Some-clause-from
returns-in-Some-clause-from c =
    let is : c.in-Some.next ≡ c.args.peer + 1 = omega (arith, c.in-Some.ensures) in
    subst (λ (n : ℕ). IsFrom n c.from_peer.result) is c.from_peer.ensures.from
