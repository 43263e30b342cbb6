-- What a packer knows.
use Rattle.std.specs.Prelude.{◌≡◌, ℕ, List, ◌++◌, length}
use Rattle.unit_packets.specs.Packing.{sequence_after, packed_on, packed}

-- its unit, and the block that was begun: the sequence of its first message, and its messages
pub record Packing : Type 0 where
  pub unit : ℕ
  pub sequence : ℕ
  pub begun : List (List ℕ)

-- the sequence of the next message
abbrev pub next_sequence : Packing → ℕ
next_sequence packing = sequence_after packing.sequence (length packing.begun)

-- the messages from a sequence on were pushed, and the datagrams given out: whatever messages
-- follow, the packing of all is these datagrams and those that the packer will give
pub record HasPacked (packing : Packing) (unit first : ℕ) (raws datagrams : List (List ℕ)) :
    Type 0 where
  pub unit_is : packing.unit ≡ unit
  pub next_is : next_sequence packing ≡ sequence_after first (length raws)
  pub goes_on : (more : List (List ℕ)) → packed unit first (raws ++ more)
      ≡ datagrams ++ packed_on packing.unit packing.sequence packing.begun more
