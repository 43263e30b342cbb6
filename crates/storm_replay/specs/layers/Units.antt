-- The units of a storm, each done by itself in a world of its own.
use Rattle.std.specs.Prelude.{◌≡◌, ℕ, zero, suc, ◌+◌, List, [], ◌∷◌, ◌++◌, reverse, Result, Ok, Err}
use Rattle.pitch_messages.specs.Room.{Roomy}
use Rattle.pitch_text.specs.declared.verb.Verb.{Verb}
use Rattle.world_model.specs.Ends.{default_limits}
use Rattle.storm_replay.specs.Storm.{start_verbs, step_verbs, end_verbs}
use Rattle.world_model.specs.Stands.{WorldStands}
use Rattle.world_model.specs.declared.world.World.{World}

-- what a unit does in the first steps
unfoldable pub unit_steps : ℕ → ℕ → ℕ → List Verb
unit_steps number unit zero = []
unit_steps number unit (suc index) =
    unit_steps number unit index ++ step_verbs number unit (suc index)

-- what it does in the whole storm
abbrev pub unit_course : ℕ → ℕ → ℕ → List Verb
unit_course number unit steps = start_verbs ++ (unit_steps number unit steps ++ end_verbs steps)

-- so many numbers that rise from n on
unfoldable pub counting : ℕ → ℕ → List ℕ
counting n zero = []
counting n (suc k) = n ∷ counting (n + 1) k

-- all that a unit does in a storm was done in its world
abbrev pub IsUnitDone : ℕ → ℕ → ℕ → World → Type 0
IsUnitDone number steps unit world =
    WorldStands world unit default_limits (reverse (unit_course number unit steps))

-- so it is of each of some units, in their order
abbrev pub AreUnitsDone : ℕ → ℕ → List ℕ → List World → Type 0
AreUnitsDone number steps [] [] = Unit {0}
AreUnitsDone number steps (unit ∷ units) (world ∷ worlds) =
    IsUnitDone number steps unit world × AreUnitsDone number steps units worlds
AreUnitsDone number steps _ _ = ⊥

-- ---- Pieces of work
-- the worlds of pieces of which none failed, one piece after another
abbrev pub gathered : {E : Type 0} → List (Result (Roomy World) E) → List World
gathered [] = []
gathered (Ok piece ∷ pieces) = piece.items ++ gathered pieces
gathered (Err error ∷ pieces) = gathered pieces

-- no piece failed
abbrev pub AreWhole : {E : Type 0} → List (Result (Roomy World) E) → Type 0
AreWhole [] = Unit {0}
AreWhole (Ok piece ∷ pieces) = AreWhole pieces
AreWhole (Err error ∷ pieces) = ⊥

-- no piece failed, and these are the worlds of all
pub record AreGathered {E : Type 0} (pieces : List (Result (Roomy World) E)) (worlds : List World) :
    Type 0 where
  pub whole : AreWhole pieces
  pub are : worlds ≡ gathered pieces
