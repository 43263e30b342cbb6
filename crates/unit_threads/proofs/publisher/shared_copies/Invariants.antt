use Rattle.std.proofs.Common.{◌≡◌, take}
use Rattle.unit_packets.specs.Packing.{bytes_in}
use Rattle.unit_threads.proofs.publisher.shared_copies.Given as goal

abbrev pub invariant-copied : goal.invariant-copied
invariant-copied g l = l.shared.items ≡ bytes_in (take l.datagram-index l.datagrams)
