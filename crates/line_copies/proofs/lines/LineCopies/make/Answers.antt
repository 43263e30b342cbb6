use Rattle.std.proofs.Common.{[], refl}
use Rattle.unit_clients.proofs.Placing.{each_empty}
use Rattle.line_copies.specs.Standing.{IsPlaceOf}
use Rattle.line_copies.proofs.lines.LineCopies.make.Goals as goal

pub returns : goal.returns
returns c = each_empty (IsPlaceOf []) c.in_ok-units.units.places c.in_ok-units.ensures.none (λ unit. refl)
