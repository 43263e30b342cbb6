-- What is kept of a history, and what copies that differ show of it, and of all that came to a live
-- end.
use Rattle.std.specs.Prelude.{◌≡◌, ℕ, ◌+◌, ◌<◌, List, [], ◌∷◌, Contains}
use Rattle.pitch_model.specs.History.{Entry, Raw, Message}
use Rattle.pitch_model.specs.Honest.{Honest}
use Rattle.heard_items.specs.Heard.{heard_block}
use Rattle.client_end.specs.Came.{Came, EndSetup, Heard, end_history}
use Rattle.line_copies.specs.Copies.{CopiesDiffer, kept_at, slot_of}

-- of a message that came, where none came whose sequence is greater by 65,536 or more, its slot
-- keeps a copy
abbrev pub LastAreKept : Type 0
LastAreKept = (E : List Entry) (sequence : ℕ) (raw : Raw) → Contains E (Message sequence raw)
    → ((later : ℕ) (other : Raw) → Contains E (Message later other) → later < sequence + 65536)
    → (kept_at E (slot_of sequence)).sequence ≡ sequence

-- where two copies of a sequence differ, the history is honest for no venue
abbrev pub AreOfNoVenue : Type 0
AreOfNoVenue = (Image : List Raw → ℕ → List Raw) (V : List Raw) (E : List Entry) (sequence : ℕ)
    → CopiesDiffer E sequence → Honest Image V E → ⊥

-- what an end heard on lines, of all that came to it, the newest first
abbrev pub lines_history : List Came → List Entry
lines_history [] = []
lines_history (Heard block ∷ before) = heard_block block (lines_history before)
lines_history (came ∷ before) = lines_history before

-- where all that it heard is honest for a venue, that is
abbrev pub LinesAreAsHonest : Type 0
LinesAreAsHonest = (Image : List Raw → ℕ → List Raw) (V : List Raw) (s : EndSetup)
    (before : List Came) → Honest Image V (end_history s before)
    → Honest Image V (lines_history before)
