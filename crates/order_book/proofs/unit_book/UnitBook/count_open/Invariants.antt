use Rattle.std.proofs.Common.{◌≡◌, ◌+◌, ◌≤◌, count_by, drop}
use Rattle.std.specs.FinMap as map
use Rattle.order_book.proofs.unit_book.UnitBook.count_open.Given as goal

abbrev pub invariant-loop-id : goal.invariant-loop-id
invariant-loop-id l = record {
  count : l.open + count_by (map.contains_key l.self.book.orders) (drop l.id-index l.ids) ≡ count_by (map.contains_key l.self.book.orders) l.ids;
  within : l.open ≤ l.id-index;
}
