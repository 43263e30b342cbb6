use Rattle.pitch_c.proofs.Answering.{wants_memory}
use Rattle.pitch_c.proofs.quoting.hear_quoted_first.Goals as goal

pub returns-in-Ok-clause-still : goal.returns-in-Ok-clause-still
returns-in-Ok-clause-still c low told = c.hear_block.ensures.still (wants_memory c.hear_block.result c.hear_block.ensures.answer low told)
