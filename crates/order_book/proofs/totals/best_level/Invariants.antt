use Rattle.std.proofs.Common.{◌≡◌, ◌+◌, ◌*◌, ◌≤◌, length, filter}
use Rattle.std.specs.Option.{option_map_or}
use Rattle.indexmap.specs.IndexMap.{values, index_map_len}
use Rattle.order_book.specs.layers.Totals.{is_on, best_level}
use Rattle.order_book.proofs.Bests.{level_from}
use Rattle.order_book.proofs.totals.best_level.Given as goal

abbrev pub invariant-loop-order : goal.invariant-loop-order
invariant-loop-order l = record {
  level : level_from l.side l.best (filter (is_on l.symbol l.side) l.order-iterator) ≡ best_level l.side (filter (is_on l.symbol l.side) (values l.orders));
  within : option_map_or (λ level. level.1) l.best 0 + length l.order-iterator * 4294967295 ≤ index_map_len l.orders * 4294967295;
}
