-- The words for what is wrong with a block.
use Rattle.std.specs.Prelude.{ℕ, ◌+◌, ◌-◌, ◌^◌, min, List, ◌++◌, codes, decimal}
use Rattle.unit_packets.specs.declared.header.BlockError.{BlockError}
use Rattle.unit_packets.specs.declared.header.BlockError.TheVariants.{Truncated, LengthBelowHeader}
use Rattle.unit_packets.specs.declared.header.BlockError.TheVariants.{SequencePast, TinyMessage}
use Rattle.unit_packets.specs.declared.header.BlockError.TheVariants.{MessageOverrun, Spare}
use Rattle.unit_packets.specs.declared.header.BlockFault.{BlockFault}
use Rattle.unit_packets.specs.declared.block.FeedError.{FeedError}
use Rattle.unit_packets.specs.declared.block.FeedError.TheVariants.{Fault, OutOfMemory}

-- the cause of a fault
abbrev pub block_cause_text : BlockError → List ℕ
block_cause_text (Truncated has needs) =
    codes "truncated, has " ++ (decimal has ++ (codes " of " ++ decimal needs))
block_cause_text (LengthBelowHeader length) =
    codes "length " ++ (decimal length ++ codes " below header")
block_cause_text (SequencePast sequence count) = codes "sequence "
    ++ (decimal sequence ++ (codes " count " ++ (decimal count ++ codes " past the last")))
block_cause_text (TinyMessage place length) = codes "tiny message of length " ++ decimal length
block_cause_text (MessageOverrun place) = codes "message overrun"
block_cause_text (Spare place) = codes "spare bytes"

-- the place inside the block, where the fault has one
abbrev pub inner_place : BlockError → ℕ
inner_place (Truncated has needs) = 0
inner_place (LengthBelowHeader length) = 0
inner_place (SequencePast sequence count) = 0
inner_place (TinyMessage place length) = place
inner_place (MessageOverrun place) = place
inner_place (Spare place) = place

-- a count of bytes goes up to the end of its type, and stays there
abbrev pub counted : ℕ → ℕ
counted n = min n (2 ^ 64 - 1)

-- the place of a fault in the stream, and its cause
abbrev pub fault_text : BlockFault → List ℕ
fault_text fault = codes "byte " ++ (decimal (counted (fault.place + inner_place fault.error))
    ++ (codes ": " ++ block_cause_text fault.error))

-- why feeding did not go on
abbrev pub feed_text : FeedError → List ℕ
feed_text (Fault fault) = fault_text fault
feed_text OutOfMemory = codes "out of memory"
