use Rattle.std.proofs.Common.{◌≡◌, ◌+◌, ◌≤◌, ◌++◌, length}
use Rattle.std.specs.Prelude.{vec_len, vec_capacity}
use Rattle.indexmap.specs.IndexMap.{values}
use Rattle.order_book.proofs.order_list.all_orders.Given as goal

abbrev pub invariant-loop-order : goal.invariant-loop-order
invariant-loop-order l = record {
  items : l.list.items ++ l.order-iterator ≡ values l.orders;
  room : vec_len l.list + length l.order-iterator ≤ vec_capacity l.list;
}
