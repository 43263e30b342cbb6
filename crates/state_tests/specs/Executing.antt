-- What the notes of `own_notes.rt` count.
use Rattle.std.specs.Prelude.{ℕ, List, ◌==◌, ◌||◌, if◌then◌else◌}
use Rattle.pitch_messages.specs.Raw.{kind_of}

-- one for a message that executes an order
abbrev pub executed : List ℕ → ℕ
executed raw = if kind_of raw == 0x23 || kind_of raw == 0x24 then 1 else 0
