-- The block that a packer has begun.
use Rattle.std.specs.Prelude.{ℕ, ◌≤◌, ◌<◌, List, length, drop}
use Rattle.pitch_messages.specs.layers.Chains.{IsChain}
use Rattle.unit_packets.specs.Blocks.{StaysWithin}
use Rattle.unit_packets.specs.Packing.{datagram_size}

-- after eight bytes for the header, so many messages; they fit a datagram, and have sequences that
-- messages can have
pub record IsBegun (sequence count : ℕ) (bytes : List ℕ) : Type 0 where
  pub chain : IsChain count (drop 8 bytes)
  pub header : 0 < count → 8 ≤ length bytes
  pub size : length bytes ≤ datagram_size
  pub within : StaysWithin sequence count
