use Rattle.std.proofs.Common.{[], refl, sym, true≢false}
use Rattle.unit_clients.specs.Clients.{IsClient, KeepsToVenues}
use Rattle.unit_clients.proofs.Placing.{each_empty}
use Rattle.leveled_units.proofs.units.LeveledUnits.make.Goals as goal

pub returns-clause-heard : goal.returns-clause-heard
returns-clause-heard c =
    let table = c.in_ok-units.units in
    let none = c.in_ok-units.ensures.none in
    record {
      clients = each_empty (IsClient table.limit []) table.places none (λ unit. refl);
      named = λ unit named. absurd (true≢false (sym named));
      keep = each_empty (KeepsToVenues []) table.places none (λ unit Image V honest. tt);
    }
