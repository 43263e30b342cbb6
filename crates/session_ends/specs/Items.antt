-- What a stream says to an end.
use Rattle.std.specs.Prelude.{ℕ, ◌+◌, ◌==◌, List, [], ◌∷◌, ◌++◌, length, Option, None, Some}
use Rattle.std.specs.Prelude.{if◌then◌else◌}
use Rattle.std.specs.List.{concat}
use Rattle.unit_packets.specs.Blocks.{Block}
use Rattle.unit_packets.specs.Causes.{counted}
use Rattle.unit_packets.specs.Cutting.{blocks_of}
use Rattle.unit_packets.specs.Feeding.{fed_fault}
use Rattle.unit_packets.specs.declared.header.BlockFault.{BlockFault}
use Rattle.session_ends.specs.declared.closed.Closed.{Closed}
use Rattle.session_ends.specs.declared.closed.CloseCause.{CloseCause}
use Rattle.session_ends.specs.declared.closed.CloseCause.TheVariants.{Block as FaultyBlock}
use Rattle.session_ends.specs.declared.closed.CloseCause.TheVariants.{Sequenced}
use Rattle.session_ends.specs.declared.inbox.Heard.{Heard}
use Rattle.session_ends.specs.declared.inbox.Heard.TheVariants.{Message, BlockEnd, Broken}

abbrev pub closed_at : CloseCause → ℕ → Closed
closed_at cause place = record { cause = cause; place = place }

-- the place so many bytes further on; places are counted up to the end of their type
abbrev pub onward : ℕ → ℕ → ℕ
onward place size = counted (place + size)

-- the messages of a block from a place on, and the block's end
abbrev pub messages_from : ℕ → List (List ℕ) → List Heard
messages_from place [] = BlockEnd ∷ []
messages_from place (raw ∷ raws) =
    Message place raw ∷ messages_from (onward place (length raw)) raws

-- how many bytes a block has ("Sequenced Unit Header")
abbrev pub block_size : Block → ℕ
block_size block = 8 + length (concat block.raws)

-- all traffic of a session is unsequenced: a block with a sequence breaks the stream
abbrev pub block_items : ℕ → Block → List Heard
block_items place block =
    if block.sequence == 0 then messages_from (onward place 8) block.raws
    else Broken (closed_at Sequenced place) ∷ []

abbrev pub stream_items_from : ℕ → List Block → List Heard
stream_items_from place [] = []
stream_items_from place (block ∷ blocks) =
    block_items place block ++ stream_items_from (onward place (block_size block)) blocks

-- a fault that more bytes do not mend breaks it too
abbrev pub trouble : Option BlockFault → List Heard
trouble None = []
trouble (Some fault) = Broken (closed_at (FaultyBlock fault.error) fault.place) ∷ []

-- the messages of a stream with their places and the ends of their blocks, and what breaks it
unfoldable pub stream_items : List ℕ → List Heard
stream_items bytes = stream_items_from 0 (blocks_of bytes) ++ trouble (fed_fault bytes)
