-- The bytes of a block that is written.
use Rattle.std.specs.Prelude.{ℕ, List, [], ◌∷◌, ◌++◌}
use Rattle.std.specs.List.{concat}
use Rattle.byteorder.specs.Endian.{little_bytes}
use Rattle.unit_packets.specs.Blocks.{Block}
use Rattle.unit_packets.specs.Lending.{header_for}
use Rattle.unit_packets.specs.declared.header.Header.{Header}

-- the eight bytes of a header, each number in little-endian bytes
-- Standard: "Sequenced Unit Header".
abbrev pub header_bytes : Header → List ℕ
header_bytes h = little_bytes 2 h.length ++ h.count ∷ h.unit ∷ little_bytes 4 h.sequence

-- the header of a block, and its raws
unfoldable pub block_bytes : Block → List ℕ
block_bytes block = header_bytes (header_for block) ++ concat block.raws

-- a heartbeat of a unit: no message, and the sequence of the next one
abbrev pub heartbeat_block : ℕ → ℕ → Block
heartbeat_block unit next = record { unit = unit; sequence = next; raws = [] }

-- the unsequenced block of one session message
abbrev pub session_block : ℕ → List ℕ → Block
session_block unit raw = record { unit = unit; sequence = 0; raws = raw ∷ [] }
