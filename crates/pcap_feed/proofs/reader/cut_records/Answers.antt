use Rattle.std.proofs.lemmas.List.{take_rest}
use Rattle.pcap_feed.proofs.Feeding.{records_more, records_end}
use Rattle.pcap_feed.proofs.reader.cut_records.Goals as goal

pub next-preserved : goal.next-preserved
next-preserved c = records_more _ _ _ _ _ _ _ _ _ c.in-Ok.view c.next.invariant (take_rest c.args.bytes.now c.next.at) c.in-Ok.ensures.found c.size-at.ensures c.in-Ok-push_copy.ensures.ok

pub returns-in-Err-clause-ok : goal.returns-in-Err-clause-ok
returns-in-Err-clause-ok c = records_end _ _ _ _ _ _ _ _ c.next.invariant (take_rest c.args.bytes.now c.next.at) c.in-Err.ensures.fault
