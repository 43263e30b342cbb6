-- What can be looked up of the messages of a unit (the numbers are this project's own).
use Rattle.std.specs.Prelude.{ℕ, ◌+◌, ◌-◌, nat_lt, List, length, take, drop, if◌then◌else◌}
use Rattle.circular_buffer.specs.Buffer.{keep_last}
use Rattle.gap_store.specs.declared.found.Found.{Found}
use Rattle.gap_store.specs.declared.found.Found.TheVariants.{Kept, Ahead, NotKept}

-- all messages so far, and how many of the last are kept
pub record View : Type 0 where
  pub messages : List (List ℕ)
  pub kept : ℕ

-- the least kept sequence
abbrev pub oldest : View → ℕ
oldest v = length v.messages - v.kept + 1

-- what looking up so many messages from a sequence on answers: that the last is to come; that the
-- first is gone; or that all are kept
abbrev pub look : View → ℕ → ℕ → Found
look v first count =
    if nat_lt (length v.messages) (first + count - 1) then Ahead (length v.messages)
    else if nat_lt first (oldest v) then NotKept (oldest v)
    else Kept

-- the messages of a range
abbrev pub slice_of : View → ℕ → ℕ → List (List ℕ)
slice_of v first count = take count (drop (first - 1) v.messages)

-- what a store keeps of a view: the last messages, how many it has room for, and how many were
-- pushed
pub record Store : Type 0 where
  pub items : List (List ℕ)
  pub room : ℕ
  pub pushed : ℕ

abbrev pub store_of : View → Store
store_of v =
    record { items = keep_last v.kept v.messages; room = v.kept; pushed = length v.messages }
