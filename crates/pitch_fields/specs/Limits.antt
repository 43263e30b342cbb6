-- The limits of the feed's numbers, of what a client may hold, and of a text.
use Rattle.std.specs.Prelude.{ℕ, ◌≤◌}

-- the last sequence that a message can have: 2^32 - 2, so that the next sequence still has four
-- bytes
abbrev pub last_sequence : ℕ
last_sequence = 4294967294

-- the most bytes that a text of commands, or a schedule, can have: 2^26
abbrev pub text_limit : ℕ
text_limit = 67108864

-- the most messages that a client may hold of those that came too early, and that a proxy keeps
abbrev pub most_held : ℕ
most_held = 65536

-- a number of messages that a client may hold
abbrev pub IsHoldLimit : ℕ → Type 0
IsHoldLimit n = (1 ≤ n) × (n ≤ most_held)
