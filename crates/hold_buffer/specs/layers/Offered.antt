-- What an offer answers and leaves.
use Rattle.std.specs.Prelude.{◌≡◌, ℕ, ◌+◌, ◌≤◌, ◌<◌, List, true, false}
use Rattle.std.specs.FinMap.{contains_key, insert, empty, len}
use Rattle.hold_buffer.specs.HoldView.{HoldView}
use Rattle.hold_buffer.specs.declared.hold.Offer.{Offer}
use Rattle.hold_buffer.specs.declared.hold.Offer.TheVariants.{Old, Repeat, Next, Overflowed, Kept}

-- The answer to an offer of a sequence and its raw to the hold h, which leaves the hold h'.
abbrev pub Answers : Offer → HoldView → ℕ → List ℕ → HoldView → Type 0
-- at or below the floor
Answers Old h sequence raw h' = (sequence ≤ h.floor) × (h' ≡ h)
-- it is held already
Answers Repeat h sequence raw h' =
    (h.floor < sequence) × (contains_key h.held sequence ≡ true) × (h' ≡ h)
-- it follows the floor, which rises to it, and nothing is stored, also where the limit is reached
Answers Next h sequence raw h' =
    (sequence ≡ h.floor + 1) × (contains_key h.held sequence ≡ false)
    × (h' ≡ record h { floor = sequence })
-- the limit is reached: all that was held goes, and this one is held alone
Answers Overflowed h sequence raw h' =
    (h.floor + 1 < sequence) × (contains_key h.held sequence ≡ false) × (len h.held ≡ h.limit)
    × (h' ≡ record h { held = insert empty sequence raw })
-- it is held besides
Answers Kept h sequence raw h' =
    (h.floor + 1 < sequence) × (contains_key h.held sequence ≡ false) × (len h.held < h.limit)
    × (h' ≡ record h { held = insert h.held sequence raw })
