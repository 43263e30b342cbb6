use Rattle.std.proofs.Common.{◌≡◌, ◌+◌, ◌≤◌, length, count_by}
use Rattle.std.specs.FinMap as map
use Rattle.order_book.specs.Naming.{names_open}
use Rattle.order_book.proofs.unit_book.UnitBook.known_orders.Given as goal

abbrev pub invariant-loop-raw : goal.invariant-loop-raw
invariant-loop-raw l = record {
  count : (l.known + count_by (map.contains_key l.self.book.orders) l.ids.items) + count_by (names_open l.self.book) l.raw-iterator ≡ count_by (names_open l.self.book) l.fn.raws;
  within : (l.known + length l.ids.items) + length l.raw-iterator ≤ length l.fn.raws;
}
