use Rattle.std.proofs.Common.{List, ℕ, sym, subst}
use Rattle.unit_packets.specs.Cutting.{blocks_of}
use Rattle.pitch_model.specs.History.{Raw}
use Rattle.heard_items.specs.Datagrams.{IsPiece, heard_blocks}
use Rattle.venue_core.specs.Plan.{plan}
use Rattle.drill_client.specs.layers.Following.{Follows}
use Rattle.drill_client.proofs.hearing.hear_piece.Goals as goal

pub returns : goal.returns
returns g c H E f =
    let V : List Raw = plan g.R.DrillRun.number g.R.DrillRun.unit g.R.DrillRun.count in
    let same = c.bytes.ensures.bytes in
    subst (λ (d : List ℕ). Follows c.hear_datagram.new.client H V (heard_blocks (blocks_of d) E)) same
    (c.in_ok-hear_datagram.ensures V g.R.DrillRun.unit (subst (IsPiece V g.R.DrillRun.unit) (sym same) c.bytes.ensures.piece) H E f)
