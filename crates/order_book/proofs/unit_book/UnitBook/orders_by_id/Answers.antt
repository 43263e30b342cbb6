use Rattle.std.proofs.Common.{List, ◌++◌, ap, ◌∙◌}
use Rattle.pitch_messages.specs.declared.order.Order.{Order}
use Rattle.pitch_model.specs.Levels.{orders_of}
use Rattle.order_book.specs.Standing.{Standing}
use Rattle.order_book.proofs.Sorting.{sorted_orders, kept_stand}
use Rattle.order_book.proofs.unit_book.UnitBook.orders_by_id.Goals as goal

pub returns-clause-ok : goal.returns-clause-ok
returns-clause-ok c =
    let done = c.in_ok-append_by_id.ensures in
    let sorted = sorted_orders c.self.inside.orders.entries _ c.self.invariant.unique (kept_stand c.self.inside.second c.self.inside.orders.entries c.self.inside.statuses.statuses c.self.invariant) done.same done.sorted in
    let book = ap (λ (s : Standing). orders_of s.book) c.self.view_is in
    done.ok ∙ ap (λ (l : List Order). c.args.out.now.items ++ l) (sorted ∙ book)
