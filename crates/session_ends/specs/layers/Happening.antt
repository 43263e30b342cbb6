-- What an end stands for, in the words of its contracts: whatever happened to it before.
use Rattle.std.specs.Prelude.{List, ◌∷◌}
use Rattle.session_ends.specs.Events.{Event}

-- P holds of all events for which the end stands
abbrev pub OfEvents : {End X : Type 0} → (End → List (Event X) → Type 0) → End
    → (List (Event X) → Type 0) → Type 0
OfEvents {End} {X} Stands end P = (es : List (Event X)) → Stands end es → P es

-- one event more happened to it
abbrev pub Happens : {End X : Type 0} → (End → List (Event X) → Type 0) → End → End
    → Event X → Type 0
Happens {End} {X} Stands old new event =
    (es : List (Event X)) → Stands old es → Stands new (event ∷ es)
