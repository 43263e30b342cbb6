use Rattle.std.proofs.Common.{◌≤◌, ◌∙◌, ap, subst}
use Rattle.std.specs.FinMap as map
use Rattle.pitch_model.specs.Book.{Book}
use Rattle.client_core.specs.Client.{current_book}
use Rattle.pitch_c.specs.Lists.{ListsOrders}
use Rattle.pitch_c.proofs.Telling.{of_reached}
use Rattle.pitch_c.proofs.lists.tell_orders.Goals as goal

pub returns-in-Some-clause-orders : goal.returns-in-Some-clause-orders
returns-in-Some-clause-orders c ok =
    let told = c.list_orders.new.told in
    let number = c.list_orders.new.number in
    of_reached c.args.units.now c.args.unit (current_book c.in-Some.client.now) (λ (book : Book). ListsOrders book c.args.told.now told number) c.in-Some.ensures.book
    (subst (λ (book : Book). ListsOrders book c.args.told.now told number) (c.book.ensures.same ∙ ap current_book c.client.ensures) (c.list_orders.ensures.orders ok))

pub returns-in-Some-clause-memory : goal.returns-in-Some-clause-memory
returns-in-Some-clause-memory c want =
    let has = c.list_orders.ensures.memory want in (
      has.0,
      of_reached c.args.units.now c.args.unit (current_book c.in-Some.client.now) (λ (book : Book). 1 ≤ map.len book.orders) c.in-Some.ensures.book
          (subst (λ (book : Book). 1 ≤ map.len book.orders) (c.book.ensures.same ∙ ap current_book c.client.ensures) has.1),
    )
