use Rattle.std.proofs.Common.{◌≡◌, ◌++◌, length, take}
use Rattle.std.specs.List.{concat}
use Rattle.unit_packets.specs.Packing.{bytes_in}
use Rattle.unit_packets.proofs.joined.append_datagrams.Given as goal

abbrev pub invariant-datagrams : goal.invariant-datagrams
invariant-datagrams l = record {
  so_far : l.out.items ≡ l.fn.out.items ++ concat (bytes_in (take l.datagram-index l.datagrams));
  before : l.before ≡ length l.fn.out.items;
}
