use Rattle.std.proofs.Common.{◌≡◌, ◌++◌, map, take}
use Rattle.unit_packets.specs.Packing.{bytes_in}
use Rattle.drill_client.specs.declared.words.Reply.TheVariants.{Again}
use Rattle.unit_threads.proofs.service.send_again.Given as goal

abbrev pub invariant-copied : goal.invariant-copied
invariant-copied g l = l.replies ≡ l.fn.replies ++ map Again (bytes_in (take l.datagram-index l.datagrams))
