-- What holds of all that comes to an end.
use Rattle.std.specs.Prelude.{◌≡◌, ◌==◌, List, [], map, filter}
use Rattle.std.specs.List.{AllByRecursion}
use Rattle.unit_packets.specs.Blocks.{Block}
use Rattle.heard_items.specs.Units.{unit_history}
use Rattle.client_end.specs.Came.{Came, EndSetup, Heard, Second, end_after, end_history, to_proxy}
use Rattle.client_end.specs.Came.{to_spin_server}

-- an end to which blocks alone came heard what `follow` hears of its unit
abbrev pub BlocksAreFollowed : Type 0
BlocksAreFollowed = (s : EndSetup) (blocks : List Block)
    → end_history s (map (λ block. Heard block) (filter (λ block. block.unit == s.unit) blocks))
    ≡ unit_history s.unit blocks

-- it came on a line, or is a second
abbrev pub IsOfLines : Came → Type 0
IsOfLines (Heard block) = Unit {0}
IsOfLines Second = Unit {0}
IsOfLines came = ⊥

-- an end without connections says nothing, whatever it lacks
abbrev pub NoneIsAsked : Type 0
NoneIsAsked = (s : EndSetup) (before : List Came) → AllByRecursion IsOfLines before
    → (to_proxy s Second (end_after s before) ≡ [])
    × (to_spin_server s Second (end_after s before) ≡ [])
