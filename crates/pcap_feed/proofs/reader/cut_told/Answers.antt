use Rattle.std.proofs.Common.{Some, refl}
use Rattle.pcap_feed.proofs.Feeding.{piece_read}
use Rattle.pcap_feed.proofs.reader.cut_told.Goals as goal

pub returns-in-Ok-clause-ok : goal.returns-in-Ok-clause-ok
returns-in-Ok-clause-ok c = piece_read (Some c.args.order) _ _ _ _ _ _ refl c.in-Ok.ensures.ok
