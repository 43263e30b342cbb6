use Rattle.unit_clients.specs.Tables.{AtEach}
use Rattle.live_units.proofs.Listening.{MadeTo}
use Rattle.live_units.proofs.units.listen_to.Given as goal

abbrev pub invariant-units : goal.invariant-units
invariant-units l = AtEach (MadeTo (record { units = l.units; account = l.account; hold = l.limit }) l.number) l.table.places
