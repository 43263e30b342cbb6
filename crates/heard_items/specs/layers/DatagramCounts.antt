-- How many messages of datagrams are fresh, and how many overflow the hold.
use Rattle.std.specs.Prelude.{ℕ, ◌+◌, List, [], ◌∷◌}
use Rattle.unit_packets.specs.Blocks.{Block}
use Rattle.pitch_model.specs.History.{Entry}
use Rattle.heard_items.specs.Heard.{heard_block, block_fresh, block_overflows}
use Rattle.heard_items.specs.Changes.{block_change}
use Rattle.heard_items.specs.declared.change.Change.{Change}
use Rattle.heard_items.specs.Datagrams.{block_messages}

-- how many messages of the blocks are heard
abbrev pub messages_in : List Block → ℕ
messages_in [] = 0
messages_in (block ∷ blocks) = block_messages block + messages_in blocks

-- how many of them are fresh, each after those before it
abbrev pub fresh_in : ℕ → List Entry → List Block → ℕ
fresh_in H E [] = 0
fresh_in H E (block ∷ blocks) = block_fresh H E block + fresh_in H (heard_block block E) blocks

-- with how many of them the hold overflows
abbrev pub overflows_in : ℕ → List Entry → List Block → ℕ
overflows_in H E [] = 0
overflows_in H E (block ∷ blocks) =
    block_overflows H E block + overflows_in H (heard_block block E) blocks

-- what each block changes
abbrev pub changes_in : ℕ → List Entry → List Block → List Change
changes_in H E [] = []
changes_in H E (block ∷ blocks) = block_change H E block ∷ changes_in H (heard_block block E) blocks
