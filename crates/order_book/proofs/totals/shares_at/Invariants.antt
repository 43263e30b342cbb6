use Rattle.std.proofs.Common.{◌≡◌, ◌+◌, ◌*◌, ◌≤◌, length, filter, ◌==◌}
use Rattle.indexmap.specs.IndexMap.{values, index_map_len}
use Rattle.order_book.specs.layers.Totals.{quantities, is_on}
use Rattle.order_book.proofs.totals.shares_at.Given as goal

abbrev pub invariant-loop-order : goal.invariant-loop-order
invariant-loop-order l = record {
  sum : l.total + quantities (filter (λ order. l.price == order.price) (filter (is_on l.symbol l.side) l.order-iterator))
      ≡ quantities (filter (λ order. l.price == order.price) (filter (is_on l.symbol l.side) (values l.orders)));
  within : l.total + length l.order-iterator * 4294967295 ≤ index_map_len l.orders * 4294967295;
}
