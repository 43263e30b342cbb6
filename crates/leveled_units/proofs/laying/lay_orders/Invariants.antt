use Rattle.std.proofs.Common.{take}
use Rattle.leveled_units.specs.layers.Leveled.{shares_among}
use Rattle.best_quotes.specs.Leveling.{Has}
use Rattle.leveled_units.proofs.laying.lay_orders.Given as goal

abbrev pub invariant-orders : goal.invariant-orders
invariant-orders l = Has l.levels.entries (shares_among (take l.order-index l.orders))
