use Rattle.std.proofs.Common.{arith}
use Rattle.pitch_fields.proofs.Names.{no_byte_left, spaces_less, spaces_none}
use Rattle.pitch_fields.proofs.symbol.without_spaces.Goals as goal
use Rattle.pitch_fields.proofs.symbol.without_spaces.Goals.{then-spaces-test+else-name-end-eq32, else-spaces-test}

pub spaces-preserved : goal.spaces-preserved
spaces-preserved c = (omega arith, spaces_less c.args.name.now c.spaces.end c.spaces.invariant.0 (omega arith) c.if-name-end-eq32.true c.spaces.invariant.1)

pub returns-clause-value : goal.returns-clause-value
returns-clause-value c = elim c.spaces-test.branch [
  | then-spaces-test+else-name-end-eq32 w ↦
      spaces_none c.args.name.now c.spaces.end c.spaces.invariant.0 (omega arith) w.if-name-end-eq32.false c.spaces.invariant.1
  | else-spaces-test w ↦ no_byte_left c.args.name.now c.spaces.end (omega arith) c.spaces.invariant.1
]
