use Rattle.std.proofs.Common.{◌≡◌, ◌+◌, ◌*◌, ◌≤◌, length}
use Rattle.indexmap.specs.IndexMap.{values, index_map_len}
use Rattle.order_book.specs.layers.Totals.{quantities}
use Rattle.order_book.proofs.totals.all_shares.Given as goal

abbrev pub invariant-loop-order : goal.invariant-loop-order
invariant-loop-order l = record {
  sum : l.total + quantities l.order-iterator ≡ quantities (values l.orders);
  within : l.total + length l.order-iterator * 4294967295 ≤ index_map_len l.orders * 4294967295;
}
