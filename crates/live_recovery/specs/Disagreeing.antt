-- Copies that differ, of what came to the units of a live client. What came stands newest first.
use Rattle.std.specs.Prelude.{ℕ, List, [], ◌∷◌, Option, None}
use Rattle.std.specs.Option.{option_map, option_or}
use Rattle.client_end.specs.Came.{Came, Heard}
use Rattle.line_copies.specs.Copies.{block_differing}
use Rattle.line_copies.specs.Laws.{lines_history}
use Rattle.live_units.specs.Coming.{UnitCame, came_to}
use Rattle.live_recovery.specs.declared.copies.Disagreement.{Disagreement}

abbrev pub at_unit : ℕ → ℕ → Disagreement
at_unit unit sequence = record { unit = unit; sequence = sequence }

-- what came tells of the first message of a block of which a copy with another sum is kept, among
-- those that came to the unit on lines before
abbrev pub told_by : ℕ → Came → List UnitCame → Option Disagreement
told_by unit (Heard block) before =
    option_map (at_unit unit) (block_differing block (lines_history (came_to unit before)))
told_by unit came before = None

-- the first that was told by all that came
abbrev pub first_disagreement : List UnitCame → Option Disagreement
first_disagreement [] = None
first_disagreement (next ∷ before) =
    option_or (first_disagreement before) (told_by next.unit next.came before)
