-- A log: blocks with all messages of each unit in their order.
use Rattle.std.specs.Prelude.{◌≡◌, ◌⊎◌, ℕ, zero, suc, ◌+◌, ◌==◌, List, [], ◌∷◌, ◌++◌, length}
use Rattle.std.specs.Prelude.{if◌then◌else◌}
use Rattle.unit_packets.specs.Blocks.{Block}
use Rattle.pitch_model.specs.History.{Raw}

-- a unit has the messages of a block besides, where the block is its own
abbrev pub with_block : Block → (ℕ → List Raw) → ℕ → List Raw
with_block block Vs unit = if block.unit == unit then Vs unit ++ block.raws else Vs unit

-- the messages of each unit in a log: its blocks' messages joined
abbrev pub logged : List Block → ℕ → List Raw
logged [] unit = []
logged (block ∷ before) unit = with_block block (logged before) unit

-- a block may follow in a log: it has no messages, or its first comes next in its unit
abbrev pub MayFollow : (ℕ → List Raw) → Block → Type 0
MayFollow Vs block = (block.raws ≡ []) ⊎ (block.sequence ≡ length (Vs block.unit) + 1)

-- the messages of a unit, of lists by unit: where there is no list, it has none
abbrev pub messages_at : List (List Raw) → ℕ → List Raw
messages_at [] unit = []
messages_at (raws ∷ lists) zero = raws
messages_at (raws ∷ lists) (suc unit) = messages_at lists unit

-- an audit stands for these messages of each unit
abbrev pub HasLogged : List (List Raw) → (ℕ → List Raw) → Type 0
HasLogged audit Vs = (unit : ℕ) → messages_at audit unit ≡ Vs unit
