-- The units that the blocks of a stream name, and what each unit's client heard. Blocks that came
-- before stand newest first, as the entries of a history do.
use Rattle.std.specs.Prelude.{ℕ, List, [], ◌∷◌, ◌==◌, nat_lt, if◌then◌else◌}
use Rattle.unit_packets.specs.Blocks.{Block}
use Rattle.pitch_model.specs.History.{Entry, Raw}
use Rattle.pitch_model.specs.Honest.{Honest}
use Rattle.heard_items.specs.HeardBlocks.{heard_block}

-- what a unit's client heard of the blocks
abbrev pub unit_history : ℕ → List Block → List Entry
unit_history unit [] = []
unit_history unit (block ∷ before) =
    if block.unit == unit then heard_block block (unit_history unit before)
    else unit_history unit before

-- a number put into its place among rising ones, where it does not stand there
abbrev pub with_number : ℕ → List ℕ → List ℕ
with_number n [] = n ∷ []
with_number n (m ∷ ms) =
    if n == m then m ∷ ms else if nat_lt n m then n ∷ m ∷ ms else m ∷ with_number n ms

-- the units that the blocks name, by rising number
abbrev pub units_of : List Block → List ℕ
units_of [] = []
units_of (block ∷ before) = with_number block.unit (units_of before)

-- `Vs` gives the messages of each unit's venue, and the blocks speak of no others
abbrev pub AllHonest : (List Raw → ℕ → List Raw) → (ℕ → List Raw) → List Block → Type 0
AllHonest Image Vs before = (unit : ℕ) → Honest Image (Vs unit) (unit_history unit before)
