-- The datagrams that the packets of a capture carry.
use Rattle.std.specs.Prelude.{ℕ, List, [], ◌∷◌, take, drop, Option, None, Some}
use Rattle.std.specs.List.{flat_map}
use Rattle.pcap_feed.specs.Capture.{Packet}
use Rattle.pcap_feed.specs.Payload.{payload}

-- the bytes of a packet's datagram by its place and length, as a list of one or none
abbrev pub span_bytes : List ℕ → Option (ℕ × ℕ) → List (List ℕ)
span_bytes bytes None = []
span_bytes bytes (Some span) = take span.1 (drop span.0 bytes) ∷ []

abbrev pub payloads_in : Option ℕ → Packet → List (List ℕ)
payloads_in port packet = span_bytes packet.bytes (payload packet port)

-- the datagrams of the wanted port, or of all, in file order
abbrev pub payloads_of : Option ℕ → List Packet → List (List ℕ)
payloads_of port packets = flat_map (payloads_in port) packets
