-- What is kept of the messages that a unit's client heard, and which copies differ. A history has
-- the newest entry first.
use Rattle.std.specs.Prelude.{◌≡◌, ◌≢◌, ℕ, ◌+◌, ◌%◌, ◌<◌, Bool, ◌&&◌, not, ◌==◌, List, [], ◌∷◌}
use Rattle.std.specs.Prelude.{length, slice_get, nat_lt, Contains, Option, Some, None}
use Rattle.std.specs.Prelude.{if◌then◌else◌}
use Rattle.std.specs.Option.{option_or}
use Rattle.unit_packets.specs.Blocks.{Block}
use Rattle.pitch_model.specs.History.{Entry, Raw, Message}
use Rattle.line_copies.specs.Sums.{sum_of}
use Rattle.line_copies.specs.declared.kept.Kept.{Kept}

-- ---- What is kept
-- the slot of a sequence, of which there are 65,536
abbrev pub slot_of : ℕ → ℕ
slot_of sequence = sequence % 65536

-- of a message its sequence and its sum; where none came, sequence 0, which no message has
abbrev pub kept_of : ℕ → Raw → Kept
kept_of sequence raw = record { sequence = sequence; sum = sum_of raw }

abbrev pub nothing_kept : Kept
nothing_kept = record { sequence = 0; sum = 0 }

-- of two the one of the greater sequence; of the same sequence the second
abbrev pub later_of : Kept → Kept → Kept
later_of kept copy = if nat_lt copy.sequence kept.sequence then kept else copy

-- what is kept at a slot: of the greatest sequence that has it, the last message to come
abbrev pub kept_after : Entry → ℕ → Kept → Kept
kept_after (Message sequence raw) slot kept =
    if slot_of sequence == slot then later_of kept (kept_of sequence raw) else kept
kept_after entry slot kept = kept

abbrev pub kept_at : List Entry → ℕ → Kept
kept_at [] slot = nothing_kept
kept_at (entry ∷ E) slot = kept_after entry slot (kept_at E slot)

-- the slots have what is kept of a history
pub record Keeps (slots : List Kept) (E : List Entry) : Type 0 where
  pub many : length slots ≡ 65536
  pub each : (slot : ℕ) → slot < 65536 → slice_get slots slot ≡ Some (kept_at E slot)

-- ---- Which copies differ
-- what is kept is of this sequence, and has another sum
abbrev pub is_other : Kept → ℕ → Raw → Bool
is_other kept sequence raw = kept.sequence == sequence && not (kept.sum == sum_of raw)

-- then the sequence is told
abbrev pub told_by : Kept → ℕ → Raw → Option ℕ
told_by kept sequence raw = if is_other kept sequence raw then Some sequence else None

-- the first of messages with rising sequence that is told, each heard after those before it
abbrev pub first_differing : ℕ → List Raw → List Entry → Option ℕ
first_differing first [] E = None
first_differing first (raw ∷ raws) E =
    option_or (told_by (kept_at E (slot_of first)) first raw)
    (first_differing (first + 1) raws (Message first raw ∷ E))

-- and of a block; of an unsequenced one nothing is heard
abbrev pub block_differing : Block → List Entry → Option ℕ
block_differing block E =
    if block.sequence == 0 then None else first_differing block.sequence block.raws E

-- what that shows: two messages of the sequence came, with different bytes
pub record CopiesDiffer (E : List Entry) (sequence : ℕ) : Type 0 where
  pub one : Raw
  pub other : Raw
  pub one_came : Contains E (Message sequence one)
  pub other_came : Contains E (Message sequence other)
  pub apart : one ≢ other
