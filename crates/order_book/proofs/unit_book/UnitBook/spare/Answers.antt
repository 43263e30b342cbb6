use Rattle.std.proofs.Common.{ap, arith}
use Rattle.std.specs.FinMap as map
use Rattle.order_book.specs.Standing.{Standing}
use Rattle.order_book.proofs.Maps.{id_keys, lens}
use Rattle.order_book.proofs.unit_book.UnitBook.spare.Goals as goal

pub returns-clause-within : goal.returns-clause-within
returns-clause-within c =
    let orders = ap (λ (s : Standing). map.len s.book.orders) c.self.view_is in
    let spare = ap (λ (s : Standing). s.spare) c.self.view_is in
    let count = lens id_keys c.self.inside.orders.entries c.self.invariant.unique in
    let few = c.self.invariant.few in
    omega arith
