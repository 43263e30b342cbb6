-- How a stream is cut into blocks, computed.
use Rattle.std.specs.Prelude.{ℕ, zero, suc, ◌-◌, Bool, true, false, List, [], ◌∷◌, length, drop}
use Rattle.std.specs.Prelude.{Option, None, Some, Result, Ok, Err, if◌then◌else◌}
use Rattle.unit_packets.specs.Blocks.{Block}
use Rattle.unit_packets.specs.Judging.{judge, block_at}
use Rattle.unit_packets.specs.declared.header.Header.{Header}
use Rattle.unit_packets.specs.declared.header.BlockError.{BlockError}
use Rattle.unit_packets.specs.declared.header.BlockError.TheVariants.{Truncated, LengthBelowHeader}
use Rattle.unit_packets.specs.declared.header.BlockError.TheVariants.{SequencePast, TinyMessage}
use Rattle.unit_packets.specs.declared.header.BlockError.TheVariants.{MessageOverrun, Spare}
use Rattle.unit_packets.specs.declared.header.BlockFault.{BlockFault}

abbrev pub blocks_on : (List ℕ → List Block) → List ℕ → Result Header BlockError → List Block
blocks_on more bytes (Ok h) = block_at h bytes ∷ more (drop h.length bytes)
blocks_on more bytes (Err e) = []

abbrev pub rest_on : (List ℕ → List ℕ) → List ℕ → Result Header BlockError → List ℕ
rest_on more bytes (Ok h) = more (drop h.length bytes)
rest_on more bytes (Err e) = bytes

-- at most n blocks that stand back to back at the start
unfoldable pub blocks_by : ℕ → List ℕ → List Block
blocks_by zero bytes = []
blocks_by (suc n) bytes = blocks_on (blocks_by n) bytes (judge bytes)

-- what follows them
unfoldable pub rest_by : ℕ → List ℕ → List ℕ
rest_by zero bytes = bytes
rest_by (suc n) bytes = rest_on (rest_by n) bytes (judge bytes)

-- the longest list of blocks at the start: a block has a byte, so there are no more blocks than
-- bytes
unfoldable pub blocks_of : List ℕ → List Block
blocks_of bytes = blocks_by (length bytes) bytes

-- what follows it
unfoldable pub rest_of : List ℕ → List ℕ
rest_of bytes = rest_by (length bytes) bytes

-- more bytes may mend it
abbrev pub is_truncated : BlockError → Bool
is_truncated (Truncated has needs) = true
is_truncated (LengthBelowHeader length) = false
is_truncated (SequencePast sequence count) = false
is_truncated (TinyMessage place length) = false
is_truncated (MessageOverrun place) = false
is_truncated (Spare place) = false

-- the fault of a rest at a place of the stream: bytes that are cut off are a fault only where the
-- stream has ended
abbrev pub fault_from : Bool → ℕ → Result Header BlockError → Option BlockFault
fault_from ended place (Ok h) = None
fault_from ended place (Err e) =
    if is_truncated e then (if ended then Some (record { place = place; error = e }) else None)
    else Some (record { place = place; error = e })

abbrev pub fault_in : Bool → ℕ → List ℕ → Option BlockFault
fault_in ended place [] = None
fault_in ended place (byte ∷ rest) = fault_from ended place (judge (byte ∷ rest))

-- the place after the whole blocks
abbrev pub place_of : List ℕ → ℕ
place_of bytes = length bytes - length (rest_of bytes)

-- the fault of a stream so far, which more bytes do not mend
abbrev pub fault_of : List ℕ → Option BlockFault
fault_of bytes = fault_in false (place_of bytes) (rest_of bytes)

-- the fault of a stream that has ended here
abbrev pub fault_at_end : List ℕ → Option BlockFault
fault_at_end bytes = fault_in true (place_of bytes) (rest_of bytes)
