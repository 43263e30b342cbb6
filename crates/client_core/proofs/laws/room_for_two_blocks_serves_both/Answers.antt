use Rattle.std.proofs.Common.{arith}
use Rattle.client_core.proofs.laws.room_for_two_blocks_serves_both.Goals as goal

pub returns : goal.returns
returns c = λ client later one two room keeps. let kept = keeps two (omega arith) in omega arith
