-- The records of a capture file, by what their bytes are.
use Rattle.std.specs.Prelude.{◌≡◌, ℕ, ◌≤◌, List, length, drop}
use Rattle.pcap_feed.specs.Stream.{items_within, left_over}
use Rattle.pcap_feed.specs.layers.Items.{CutsItems}
use Rattle.pcap_feed.specs.Capture.{Packet, number_in, front_of}
use Rattle.pcap_feed.specs.declared.fault.ByteOrder.{ByteOrder}

-- a header of sixteen bytes, and the bytes that were captured
pub record IsRecord (order : ByteOrder) (bytes : List ℕ) (packet : Packet) : Type 0 where
  pub header : 16 ≤ length bytes
  pub seconds : number_in order 4 0 bytes ≡ packet.seconds
  pub fraction : number_in order 4 4 bytes ≡ packet.fraction
  pub captured : number_in order 4 8 bytes ≡ length packet.bytes
  pub original : number_in order 4 12 bytes ≡ packet.original
  pub body : drop 16 bytes ≡ packet.bytes
  pub within : length packet.bytes ≤ 262144

-- the computed cutting is the longest list of records with its rest
abbrev pub RecordsAreComputed : Type 0
RecordsAreComputed = (order : ByteOrder) (bytes : List ℕ) → CutsItems
    (IsRecord order) bytes (items_within (front_of order) bytes) (left_over (front_of order) bytes)

-- two cuttings of the same bytes are one
abbrev pub RecordsAreOne : Type 0
RecordsAreOne =
    (order : ByteOrder) (bytes : List ℕ) (packets others : List Packet) (rest left : List ℕ)
    → CutsItems (IsRecord order) bytes packets rest
    → CutsItems (IsRecord order) bytes others left → (packets ≡ others) × (rest ≡ left)
