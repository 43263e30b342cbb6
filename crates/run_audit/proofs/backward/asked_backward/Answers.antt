use Rattle.std.proofs.Common.{◌≡◌, ◌≤◌, ◌+◌, ◌-◌, ap, arith, Bor, drop, length, List, ℕ, ◌∙◌}
use Rattle.run_audit.specs.Report.{lines_of}
use Rattle.run_audit.proofs.Agreeing.{next_of}
use Rattle.run_audit.proofs.Cutting.{few_lines}
use Rattle.run_audit.proofs.Deciding.{passed_line}
use Rattle.run_audit.proofs.backward.asked_backward.Goals as goal

pub overflow_add-number : goal.overflow_add-number
overflow_add-number c =
    let few = few_lines c.args.text.now in
    let left = c.lines.invariant.few in
    let some = ap length c.in-Some.ensures.1 in
    omega (arith, few, left, some)

turn : (n : ℕ) → 1 ≤ n → n - 1 + 1 ≡ n + 1 - 1
turn n some = omega arith

pub lines-preserved : goal.lines-preserved
lines-preserved c =
    let all : List (List ℕ) = lines_of c.args.text.now in
    let left = c.lines.invariant.few in
    let one = passed_line (λ (x : Bor (List ℕ)). x.now) c.next_line.result c.lines.lines c.next_line.new.self c.in-Some.ensures.0 c.in-Some.line.now c.next_line.ensures c.in-Some.ensures.1 in
    let fewer = ap length one in
    record {
      from = next_of (λ (x : Bor (List ℕ)). x.now) c.next_line.result all c.lines.lines c.next_line.new.self (c.lines.number - 1) c.next_line.ensures c.lines.invariant.from ∙ ap (λ (k : ℕ). drop k all) (turn c.lines.number c.lines.invariant.some);
      some = omega arith;
      few = omega (arith, left, fewer);
      asked = c.in_ok-note.ensures all c.lines.invariant.from c.lines.invariant.asked;
    }
