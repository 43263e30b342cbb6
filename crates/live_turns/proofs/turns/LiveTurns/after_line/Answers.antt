use Rattle.std.proofs.Common.{◌≡◌, ◌≤◌, ℕ, ◌+◌, sym, ◌∙◌, subst, arith}
use Rattle.live_turns.specs.Due.{datagrams_from}
use Rattle.live_turns.proofs.Placing.{line_past}
use Rattle.live_turns.proofs.turns.LiveTurns.after_line.Goals as goal

pub returns-in-Some-clause-place : goal.returns-in-Some-clause-place
returns-in-Some-clause-place c = λ w run ways none gave.
    let is : c.in-Some.next ≡ c.args.line + 1 = omega (arith, c.in-Some.ensures) in
    c.from_line.ensures.place w run ways (subst (λ (n : ℕ). datagrams_from n run ≡ 0) (sym is) none) gave

pub returns-in-None-clause-due : goal.returns-in-None-clause-due
returns-in-None-clause-due c = λ w e run ways.
    let few = ways.few in
    let past : w.lines ≤ c.args.line + 1 = omega (arith, few, c.in-None.ensures) in
    c.from_peer.ensures.due w e run ways ∙ sym (line_past w e run (c.args.line + 1) past)

pub returns-in-None-clause-place : goal.returns-in-None-clause-place
returns-in-None-clause-place c = λ w run ways none gave. c.from_peer.ensures.place w run ways (gave 0) (λ other behind. gave other)
