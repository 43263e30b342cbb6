use Rattle.client_end.proofs.Lines.{blocks_are_followed}
use Rattle.client_end.proofs.laws.blocks_alone_are_followed.Goals as goal

pub returns : goal.returns
returns c = blocks_are_followed
