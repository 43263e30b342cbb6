use Rattle.std.proofs.Common.{[], refl}
use Rattle.unit_clients.proofs.Placing.{each_empty}
use Rattle.relay_unit.specs.layers.AnyRelays.{HasSentAt}
use Rattle.relay_unit.specs.Relays.{IsRelay}
use Rattle.relay_unit.proofs.relays.Relays.make.Goals as goal

pub returns-clause-heard : goal.returns-clause-heard
returns-clause-heard c =
    let table = c.in_ok-relays.relays in
    each_empty (IsRelay table.limit []) table.places c.in_ok-relays.ensures.none (λ unit. refl)

pub returns-clause-any : goal.returns-clause-any
returns-clause-any c =
    each_empty (λ unit place. HasSentAt unit [] place) c.in_ok-relays.relays.places c.in_ok-relays.ensures.none (λ unit. refl)
