use Rattle.std.proofs.Common.{◌≤◌}
use Rattle.std.specs.FinMap as map
use Rattle.pitch_model.specs.Book.{Book}
use Rattle.pitch_c.specs.Lists.{ListsOrders}
use Rattle.pitch_c.proofs.Telling.{of_end_book}
use Rattle.pitch_c.proofs.end_asking.tell_orders.Goals as goal

pub returns-clause-orders : goal.returns-clause-orders
returns-clause-orders c ok =
    of_end_book c.args.end.now c.book.result.now.book (λ (book : Book). ListsOrders book c.args.told.now c.list_orders.new.told c.list_orders.new.number) c.book.ensures (c.list_orders.ensures.orders ok)

pub returns-clause-memory : goal.returns-clause-memory
returns-clause-memory c want =
    let has = c.list_orders.ensures.memory want in
    (has.0, of_end_book c.args.end.now c.book.result.now.book (λ (book : Book). 1 ≤ map.len book.orders) c.book.ensures has.1)
