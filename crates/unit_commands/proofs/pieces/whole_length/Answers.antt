use Rattle.std.proofs.Common.{ℕ, ◌+◌, length, ap, ◌∙◌, arith}
use Rattle.unit_commands.proofs.CutLemmas.{behind_none, behind_some, sum_behind}
use Rattle.unit_commands.proofs.pieces.whole_length.Goals as goal

pub returns-then-end-gt0-clause-value : goal.returns-then-end-gt0-clause-value
returns-then-end-gt0-clause-value c =
    ap (λ (n : ℕ). length c.args.rest.now + n) c.length_through-end.ensures.value
    ∙ behind_some c.args.rest.now c.args.piece.now (omega (arith, c.length_through-end.ensures.value, c.if-end-gt0.true))

pub returns-then-end-gt0-clause-sum : goal.returns-then-end-gt0-clause-sum
returns-then-end-gt0-clause-sum c = sum_behind c.args.rest.now c.args.piece.now (length c.args.rest.now + c.length_through-end.result) (returns-then-end-gt0-clause-value c)

pub returns-else-end-gt0-clause-value : goal.returns-else-end-gt0-clause-value
returns-else-end-gt0-clause-value c =
    behind_none c.args.rest.now c.args.piece.now c.requires.unfinished (omega (arith, c.length_through-end.ensures.value, c.if-end-gt0.false))

pub returns-else-end-gt0-clause-sum : goal.returns-else-end-gt0-clause-sum
returns-else-end-gt0-clause-sum c = sum_behind c.args.rest.now c.args.piece.now 0 (returns-else-end-gt0-clause-value c)
