use Rattle.std.proofs.Common.{◌≡◌, ◌<◌, ℕ, true, nat_lt, Option, is_some, sym, ap, ◌∙◌, arith}
use Rattle.std.specs.FinMap as map
use Rattle.std.proofs.lemmas.Bool.Decides.{nat_tests}
use Rattle.pitch_messages.specs.declared.order.Order.{Order}
use Rattle.order_book.specs.Standing.{Standing}
use Rattle.order_book.proofs.Maps.{id_keys, looks}
use Rattle.order_book.proofs.unit_book.UnitBook.is_open.Goals as goal

above : (n : ℕ) → 0 < n → nat_lt 0 n ≡ true
above n h = grind (arith, nat_tests, h)

pub returns-in-Some : goal.returns-in-Some
returns-in-Some c =
    let book = ap (λ (s : Standing). is_some (map.get s.book.orders c.args.id)) c.self.view_is in
    let found = looks id_keys c.self.inside.orders.entries c.args.id ∙ sym c.in-Some.ensures.value in
    above c.in-Some.order.now.quantity (c.self.invariant.book.filled c.args.id c.in-Some.order.now found)
    ∙ sym (ap (λ (o : Option Order). is_some o) found) ∙ book

pub returns-in-None : goal.returns-in-None
returns-in-None c =
    let book = ap (λ (s : Standing). is_some (map.get s.book.orders c.args.id)) c.self.view_is in
    let found = looks id_keys c.self.inside.orders.entries c.args.id ∙ sym c.in-None.ensures.value in
    sym (ap (λ (o : Option Order). is_some o) found) ∙ book
