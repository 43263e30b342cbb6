use Rattle.std.proofs.Common.{◌≡◌, map, Some}
use Rattle.pitch_c.specs.Reports.{order_shown}
use Rattle.pitch_c.proofs.Filling.{begun}
use Rattle.pitch_c.proofs.lists.fill_orders.Given as goal

abbrev pub invariant-orders : goal.invariant-orders
invariant-orders l = l.told ≡ begun l.at (map (λ order. order_shown (Some order)) l.orders) l.initial.told
