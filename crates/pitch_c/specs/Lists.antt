-- How the lists of a book are told: the array before and after, and how many items there are.
use Rattle.std.specs.Prelude.{ℕ, List, map as mapped, Some}
use Rattle.pitch_fields.specs.declared.side.Side.{Side}
use Rattle.pitch_model.specs.Book.{Book}
use Rattle.pitch_model.specs.Levels.{orders_of}
use Rattle.pitch_model.specs.Statuses.{statuses_of}
use Rattle.leveled_units.specs.BestFirst.{levels_of}
use Rattle.pitch_c.specs.Arrays.{Fills}
use Rattle.pitch_c.specs.Reports.{order_shown, state_shown, level_shown}
use Rattle.pitch_c.specs.declared.reports.OrderOut.{OrderOut}
use Rattle.pitch_c.specs.declared.reports.StateOut.{StateOut}
use Rattle.pitch_c.specs.declared.reports.LevelOut.{LevelOut}

-- all open orders, by rising id
abbrev pub ListsOrders : Book → List OrderOut → List OrderOut → ℕ → Type 0
ListsOrders book old new number =
    Fills (mapped (λ order. order_shown (Some order)) (orders_of book)) old new number

-- all trading statuses, by rising bytes of their symbols
abbrev pub ListsStates : Book → List StateOut → List StateOut → ℕ → Type 0
ListsStates book old new number = Fills (mapped state_shown (statuses_of book)) old new number

-- all levels of a symbol on a side, the best first
abbrev pub ListsLevels : Book → List ℕ → Side → List LevelOut → List LevelOut → ℕ → Type 0
ListsLevels book symbol side old new number =
    Fills (mapped level_shown (levels_of book symbol side)) old new number
