use Rattle.heard_items.proofs.Datagrams.{honest_piece, piece_more}
use Rattle.heard_items.proofs.laws.pieces_are_honest.Goals as goal

pub returns-clause-honest : goal.returns-clause-honest
returns-clause-honest c = honest_piece

pub returns-clause-more : goal.returns-clause-more
returns-clause-more c = piece_more
