use Rattle.heard_items.proofs.Datagrams.{packing_pieces, heartbeat_piece}
use Rattle.heard_items.proofs.laws.packed_messages_are_pieces.Goals as goal

pub returns-clause-packed : goal.returns-clause-packed
returns-clause-packed c = packing_pieces

pub returns-clause-heartbeat : goal.returns-clause-heartbeat
returns-clause-heartbeat c = heartbeat_piece
