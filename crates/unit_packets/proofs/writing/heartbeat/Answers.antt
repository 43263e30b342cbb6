use Rattle.unit_packets.specs.BlockBytes.{block_bytes}
use Rattle.unit_packets.proofs.writing.heartbeat.Goals as goal

pub returns-clause-bytes : goal.returns-clause-bytes
unfolding block_bytes
returns-clause-bytes c = c.header_bytes.ensures
