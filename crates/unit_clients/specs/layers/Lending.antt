-- What a table is once the place of a unit that it lent is no more in use.
use Rattle.std.specs.Prelude.{ℕ, Option}
use Rattle.std.specs.Borrow.{Lends, Fml, RattleType, MutBor}
use Rattle.std.specs.contracts.option.Option.{the_row as option_row}
use Rattle.unit_clients.specs.Tables.{UnitTable, with_place}
use Rattle.unit_clients.specs.contracts.table.UnitTable.{the_row}

-- the unit has what was left in its place
abbrev pub LendsPlace : (T : RattleType) → MutBor (UnitTable T.Denot) → ℕ
    → MutBor (Option T.Denot) → Fml
LendsPlace T table unit place =
    Lends (the_row T) (option_row T) table place (with_place table.now unit)
