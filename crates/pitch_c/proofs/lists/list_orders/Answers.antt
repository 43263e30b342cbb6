use Rattle.std.proofs.Common.{◌≡◌, ◌≤◌, ◌==◌, ◌⊎◌, ℕ, zero, suc, false, length, Some, inl, inr, sym, ap, ◌∙◌, arith}
use Rattle.std.specs.FinMap as finite
use Rattle.std.proofs.lemmas.Bool.{false≢true, eqb-true}
use Rattle.std.proofs.lemmas.List.{length-map}
use Rattle.pitch_messages.specs.declared.order.Order.{Order}
use Rattle.pitch_model.specs.Book.{Book}
use Rattle.pitch_model.specs.Levels.{orders_of}
use Rattle.pitch_c.specs.Reports.{order_shown}
use Rattle.pitch_c.proofs.Filling.{fills_list, fills_none}
use Rattle.pitch_c.proofs.lists.list_orders.Goals as goal
use Rattle.pitch_c.proofs.lists.list_orders.Goals.{then-open-eq0-via-then-open-eq0, then-open-eq0-via-else-open-eq0+then-is_empty}

-- an array that is not empty has a place
has_place : (n : ℕ) → false ≡ (n == 0) → 1 ≤ n
has_place zero e = absurd (false≢true e)
has_place (suc n) e = omega arith

-- as many orders are listed as are open
listed : (book : Book) → finite.len book.orders ≡ length (orders_of book)
listed book = finite.len-entries book.orders ∙ sym (length-map (finite.entries book.orders) (λ e. e.1))

pub returns-then-open-eq0-clause-orders : goal.returns-then-open-eq0-clause-orders
returns-then-open-eq0-clause-orders c ok =
    let book = c.args.book.now.book in
    let count : c.len-open.result ≡ length (orders_of book) = c.len-open.ensures.count ∙ listed book in
    let none : (length (orders_of book) ≡ 0) ⊎ (length c.args.told.now ≡ 0) = elim c.then-open-eq0.branch [
      | then-open-eq0-via-then-open-eq0 w ↦ inl (sym count ∙ w.if-open-eq0.true)
      | then-open-eq0-via-else-open-eq0+then-is_empty w ↦ inr (eqb-true (length c.args.told.now) 0 (sym w.if-is_empty.ensures))
    ] in
    fills_none (λ (order : Order). order_shown (Some order)) (orders_of book) c.args.told.now c.from.result (c.from.ensures ∙ count) none

pub returns-in-Err-clause-memory : goal.returns-in-Err-clause-memory
returns-in-Err-clause-memory c = λ want.
    let some = c.if-open-eq0.false in
    let count = c.len-open.ensures.count in
    (has_place (length c.args.told.now) c.if-is_empty.ensures, omega (arith, some, count))

pub returns-in-Ok-clause-orders : goal.returns-in-Ok-clause-orders
returns-in-Ok-clause-orders c ok =
    fills_list (λ (order : Order). order_shown (Some order)) (orders_of c.args.book.now.book) c.as_slice.result.now c.args.told.now c.fill_orders.new.told c.len.result
    (c.as_slice.ensures ∙ c.in-Ok.ensures) c.fill_orders.ensures (c.len.ensures ∙ ap length (sym c.as_slice.ensures))
