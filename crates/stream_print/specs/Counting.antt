-- Packets that are counted one after another.
use Rattle.std.specs.Prelude.{◌≡◌, ℕ, ◌+◌, List, [], ◌∷◌, ◌++◌, length, Option, if◌then◌else◌}
use Rattle.std.specs.List.{count_by}
use Rattle.unit_packets.specs.Causes.{counted}
use Rattle.pcap_feed.specs.Capture.{Packet}
use Rattle.pcap_feed.specs.Datagrams.{payloads_of}
use Rattle.stream_print.specs.Carriers.{is_faulty}
use Rattle.stream_print.specs.declared.counts.PacketCounts.{PacketCounts}
use Rattle.stream_print.specs.declared.counts.PacketUse.{PacketUse}
use Rattle.stream_print.specs.declared.counts.PacketUse.TheVariants.{PassedOver, Used, Faulty}

-- the use of a packet with these datagrams, which are one or none
abbrev pub use_of : List (List ℕ) → PacketUse
use_of [] = PassedOver
use_of (datagram ∷ others) = if is_faulty datagram then Faulty else Used

-- one packet more was counted; a count stays at the end of its type
abbrev pub counts_with : PacketUse → PacketCounts → PacketCounts
counts_with PassedOver counts = record {
  packets = counted (counts.packets + 1);
  used = counts.used;
  faulty = counts.faulty;
}
counts_with Used counts = record {
  packets = counted (counts.packets + 1);
  used = counted (counts.used + 1);
  faulty = counts.faulty;
}
counts_with Faulty counts = record {
  packets = counted (counts.packets + 1);
  used = counted (counts.used + 1);
  faulty = counted (counts.faulty + 1);
}

-- these packets were counted
pub record IsCount (port : Option ℕ) (packets : List Packet) (counts : PacketCounts) : Type 0 where
  pub packets_are : counts.packets ≡ counted (length packets)
  pub used_are : counts.used ≡ counted (length (payloads_of port packets))
  pub faulty_are : counts.faulty ≡ counted (count_by is_faulty (payloads_of port packets))

-- further packets were counted
abbrev pub CountsMore : Option ℕ → List Packet → PacketCounts → PacketCounts → Type 0
CountsMore port more counts counts' =
    (packets : List Packet) → IsCount port packets counts → IsCount port (packets ++ more) counts'
