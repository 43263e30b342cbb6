use Rattle.std.proofs.Common.{None}
use Rattle.pcap_feed.proofs.Feeding.{piece_read}
use Rattle.pcap_feed.proofs.reader.cut_begun.Goals as goal

pub returns-in-Ok-clause-ok : goal.returns-in-Ok-clause-ok
returns-in-Ok-clause-ok c = piece_read None _ _ _ _ _ _ c.requires.header c.in-Ok.ensures.ok
