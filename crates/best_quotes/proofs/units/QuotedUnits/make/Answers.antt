use Rattle.std.proofs.Common.{[], refl}
use Rattle.unit_clients.proofs.Placing.{each_empty}
use Rattle.best_quotes.specs.Units.{IsQuoted}
use Rattle.best_quotes.proofs.units.QuotedUnits.make.Goals as goal

pub returns-clause-heard : goal.returns-clause-heard
returns-clause-heard c =
    let table = c.in_ok-units.units in
    each_empty (IsQuoted table.limit []) table.places c.in_ok-units.ensures.none (λ unit. refl)
