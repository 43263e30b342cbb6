use Rattle.std.proofs.Common.{◌∙◌, arith}
use Rattle.text_lines.proofs.FieldLemmas.{scanned}
use Rattle.text_lines.proofs.fields.scan.Goals as goal

pub returns-then-first-ne32-clause-fields : goal.returns-then-first-ne32-clause-fields
returns-then-first-ne32-clause-fields c =
    scanned c.loop-rest.column c.loop-rest.rest.now c.length_before.result c.split_at.result.0.now c.split_at.result.1.now (omega arith) c.if-first-ne32.true c.length_before.ensures.value c.split_at.ensures.front c.split_at.ensures.back c.split_at.ensures.front_len ∙ c.loop-rest.invariant.0
