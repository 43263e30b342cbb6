use Rattle.std.proofs.Common.{ℕ, List, ap, arith}
use Rattle.std.specs.FinMap as map
use Rattle.std.specs.Ordering.{nat_cmp}
use Rattle.pitch_messages.specs.declared.order.Order.{Order}
use Rattle.order_book.specs.Standing.{Standing}
use Rattle.order_book.proofs.Maps.{id_keys, lens}
use Rattle.order_book.proofs.unit_book.UnitBook.reserve.Goals as goal

pub returns-clause-room : goal.returns-clause-room
returns-clause-room c =
    let orders = ap (λ (s : Standing). map.len s.book.orders) c.self.view_is in
    let same = ap (λ (es : List (ℕ × Order)). map.len (map.from_entries {R = nat_cmp} es)) c.reserve.ensures.entries in
    let count = lens id_keys c.reserve.new.self.entries c.reserve.ensures.unique in
    omega (arith, c.in_ok-reserve.ensures.ok, c.in_ok-reserve-2.ensures.room)
