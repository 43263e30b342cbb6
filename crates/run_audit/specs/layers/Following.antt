-- Why a block does not follow in a log.
use Rattle.std.specs.Prelude.{◌≡◌, ◌⊎◌, ℕ, ◌+◌, ◌≤◌, ◌==◌, List, [], ◌++◌, length, if◌then◌else◌}
use Rattle.std.specs.List.{AllByRecursion}
use Rattle.pitch_messages.specs.Room.{Roomy}
use Rattle.unit_packets.specs.Blocks.{Block}
use Rattle.pitch_model.specs.History.{Raw}
use Rattle.run_audit.specs.layers.Finding.{messages_of}
use Rattle.run_audit.specs.declared.error.AuditError.{AuditError}
use Rattle.run_audit.specs.declared.error.AuditError.TheVariants.{Gap, OutOfMemory}

-- a gap is answered where messages do not follow the one before the next, with their sequence and
-- the next one
abbrev pub IsGapAt : List Raw → ℕ → ℕ → AuditError → Type 0
IsGapAt raws first next (Gap sequence wanted) =
    ((raws ≡ []) ⊎ (first ≡ next) → ⊥) × (sequence ≡ first) × (wanted ≡ next)
IsGapAt raws first next OutOfMemory = Unit {0}

-- so is a block's: it may not follow
abbrev pub IsGap : (ℕ → List Raw) → Block → AuditError → Type 0
IsGap Vs block = IsGapAt block.raws block.sequence (length (Vs block.unit) + 1)

-- no list has more messages than there are sequences
abbrev pub AreShort : List (Roomy Raw) → Type 0
AreShort = AllByRecursion (λ l. length l.items ≤ 4294967294)

-- a unit has some messages besides, and no other unit has more
abbrev pub HasMore : (old new : List (Roomy Raw)) → ℕ → List Raw → Type 0
HasMore old new unit raws =
    (of : ℕ) → messages_of new of
    ≡ (if unit == of then messages_of old of ++ raws else messages_of old of)

-- each unit has the messages that it had
abbrev pub HasSame : (old new : List (Roomy Raw)) → Type 0
HasSame old new = (of : ℕ) → messages_of new of ≡ messages_of old of
