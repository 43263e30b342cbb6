-- What a block adds to a history, and whether the hold overflows at it.
use Rattle.std.specs.Prelude.{ℕ, ◌+◌, List, [], ◌∷◌, ◌==◌, if◌then◌else◌}
use Rattle.unit_packets.specs.Blocks.{Block}
use Rattle.pitch_model.specs.History.{Entry, Raw}
use Rattle.pitch_model.specs.History as entry
use Rattle.pitch_model.specs.Reach.{is_overflow}

-- one entry for each raw, with rising sequence
abbrev pub heard_messages : ℕ → List Raw → List Entry → List Entry
heard_messages first [] E = E
heard_messages first (raw ∷ raws) E = heard_messages (first + 1) raws (entry.Message first raw ∷ E)

-- a heartbeat is heard where there are no messages
abbrev pub heard_sequenced : ℕ → List Raw → List Entry → List Entry
heard_sequenced sequence [] E = entry.Next sequence ∷ E
heard_sequenced sequence (raw ∷ raws) E = heard_messages sequence (raw ∷ raws) E

-- a history with a block that is heard after it; of an unsequenced one nothing is heard
abbrev pub heard_block : Block → List Entry → List Entry
heard_block block E = if block.sequence == 0 then E else heard_sequenced block.sequence block.raws E

-- with how many of messages with rising sequence a hold of H places overflows, each after those
-- before it
abbrev pub overflowed_messages : ℕ → ℕ → List Raw → List Entry → ℕ
overflowed_messages H first [] E = 0
overflowed_messages H first (raw ∷ raws) E =
    (if is_overflow H E (entry.Message first raw) then 1 else 0)
    + overflowed_messages H (first + 1) raws (entry.Message first raw ∷ E)

-- with how many messages of a block it overflows; an unsequenced one has none
abbrev pub block_overflows : ℕ → List Entry → Block → ℕ
block_overflows H E block =
    if block.sequence == 0 then 0 else overflowed_messages H block.sequence block.raws E
