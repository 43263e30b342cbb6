use Rattle.std.proofs.Common.{Option, None, sym, subst}
use Rattle.pcap_feed.specs.Feeding.{CutsCapture}
use Rattle.pcap_feed.specs.declared.fault.ByteOrder.{ByteOrder}
use Rattle.pcap_feed.proofs.Feeding.{piece_unread}
use Rattle.pcap_feed.proofs.reader.cut_piece.Goals as goal

pub returns-in-Err-clause-ok : goal.returns-in-Err-clause-ok
returns-in-Err-clause-ok c =
    subst (λ (t : Option ByteOrder). CutsCapture t c.args.bytes.now None 0 c.in-Err.error c.args.out.now.items c.args.out.now.items) (sym c.in-None.is)
    (piece_unread c.args.bytes.now c.in-Err.error c.args.out.now.items (sym c.in-Err.ensures.exact))
