use Rattle.relay_unit.proofs.Bytes.{heard_within}
use Rattle.relay_unit.proofs.laws.blocks_have_no_more_messages_than_bytes.Goals as goal

pub returns : goal.returns
returns c = heard_within
