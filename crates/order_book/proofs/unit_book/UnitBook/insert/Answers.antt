use Rattle.std.proofs.Common.{◌<◌, ap, arith}
use Rattle.std.specs.FinMap as map
use Rattle.std.specs.Ordering.{nat_cmp}
use Rattle.order_book.specs.Standing.{Standing, most_orders}
use Rattle.order_book.proofs.Keeping.{kept_same, kept_insert}
use Rattle.order_book.proofs.unit_book.UnitBook.insert.Goals as goal

pub invariant_of-self : goal.invariant_of-self
invariant_of-self c = kept_same _ _ _ c.self.invariant _ c.in_err-insert.ensures.err

pub invariant_of-self-2 : goal.invariant_of-self-2
invariant_of-self-2 c =
    let orders = ap (λ (s : Standing). map.len s.book.orders) c.self.view_is in
    let few : map.len (map.from_entries {R = nat_cmp} c.self.inside.orders.entries) < most_orders = omega (arith, c.requires.few) in
    kept_insert _ _ _ c.self.invariant _ c.args.order c.requires.filled few c.insert.ensures.unique c.in_ok-insert.ensures.updates.0
