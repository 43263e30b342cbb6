-- What carries the blocks of a stream, and what is counted of a capture's packets.
use Rattle.std.specs.Prelude.{ℕ, Bool, ◌||◌, ◌==◌, nat_lt, List, [], ◌∷◌, ◌++◌, length, Option}
use Rattle.std.specs.Prelude.{codes, decimal}
use Rattle.std.specs.List.{flat_map, count_by}
use Rattle.unit_packets.specs.Blocks.{Block}
use Rattle.unit_packets.specs.Cutting.{blocks_of, rest_of}
use Rattle.pcap_feed.specs.Capture.{Packet, packets_of}
use Rattle.pcap_feed.specs.Datagrams.{payloads_of}
use Rattle.stream_print.specs.declared.carrier.Carrier.{Carrier}
use Rattle.stream_print.specs.declared.carrier.Carrier.TheVariants.{Bare, Capture}
use Rattle.stream_print.specs.declared.counts.PacketCounts.{PacketCounts}

-- the whole blocks of each datagram, in the order of the packets
abbrev pub blocks_in : Option ℕ → List Packet → List Block
blocks_in port packets = flat_map blocks_of (payloads_of port packets)

-- the blocks that a stream carries
abbrev pub carried_blocks : Carrier → List ℕ → List Block
carried_blocks Bare bytes = blocks_of bytes
carried_blocks (Capture port) bytes = blocks_in port (packets_of bytes)

-- a datagram that is empty, or has a rest after its blocks
abbrev pub is_faulty : List ℕ → Bool
is_faulty datagram = length datagram == 0 || nat_lt 0 (length (rest_of datagram))

-- how many packets there are, how many of them carry a datagram, and of how many that is faulty
abbrev pub counts_of : Option ℕ → List Packet → PacketCounts
counts_of port packets =
    let datagrams = payloads_of port packets in
    record {
      packets = length packets;
      used = length datagrams;
      faulty = count_by is_faulty datagrams;
    }

-- the line of what was counted
unfoldable pub counts_line : PacketCounts → List ℕ
counts_line counts =
    codes "packets " ++ decimal counts.packets ++ codes " used " ++ decimal counts.used
    ++ codes " faulty " ++ decimal counts.faulty ++ 10 ∷ []

-- the text of a stream's blocks, and for a capture the line of its packets behind it
abbrev pub with_counts : Carrier → List ℕ → List ℕ → List ℕ
with_counts Bare bytes text = text
with_counts (Capture port) bytes text = text ++ counts_line (counts_of port (packets_of bytes))
