-- The book after each command of a round of the plan.
use Rattle.std.proofs.Common.{◌≡◌, ◌≢◌, ℕ, zero, suc, ◌+◌, ◌-◌, ◌*◌, ◌/◌, ◌%◌, ◌<◌, ◌≤◌, Bool, true, false, cond, ◌==◌, [], ◌∷◌, ◌++◌, length, Option, Some, refl, sym, ap, ◌∙◌, arith, option_map, length-append}
use Rattle.std.proofs.lemmas.Bool.{cond-true, cond-false}
use Rattle.std.proofs.lemmas.Bool.Decides.{nat_tests}
use Rattle.std.proofs.lemmas.Cmp.{nat_cmp_total}
use Rattle.std.specs.Ordering.{nat_cmp, eq_by_cmp}
use Rattle.std.specs.FinMap as finite
use Rattle.pitch_fields.specs.declared.side.Side.TheVariants.{Buy, Sell}
use Rattle.pitch_messages.specs.declared.order.Order.{Order}
use Rattle.pitch_model.specs.Book.{Book, symbol_cmp, added, with_order, changed, reformed, reduced_by, modified, without_order, Effect, ShowsSecond, AddsOrder, ChangesOrder, RemovesOrder, DoesNothing, after_effect, after, book_after}
use Rattle.pitch_model.specs.declared.order_change.OrderChange.TheVariants.{Reduced, Modified}
use Rattle.pitch_model.proofs.Folding.{book_after-append}
use Rattle.pitch_text.specs.declared.command.Command.{Command}
use Rattle.pitch_text.specs.declared.command.Command.TheVariants as commands
use Rattle.venue_core.specs.Commands.{raw_of}
use Rattle.venue_core.specs.Plan.{plan_quantity, plan_price, plan_order, plan_at, plan_command}
use Rattle.venue_core.specs.Plan.{plan}
use Rattle.venue_core.specs.Planned.{buy_left, sell_left, second_buy}
use Rattle.venue_core.proofs.PlanEffects.{Does, done, quantity_least, quantity_most, price_most, price_cents, fits_wire, time_does, add_does, exec_does, reduce_does, modify_does, delete_does, trade_does}

abbrev pub Orders : Type 0
Orders = finite.FinMap nat_cmp Order

-- ---- Places
-- command i stands at place k of round j
pub at_place : (number unit j k i : ℕ) → k < 8 → i ≡ 8 * j + k + 1 → plan_command number unit i ≡ plan_at number unit i j k
unfolding plan_command
at_place number unit j k i low e =
    let d : (i - 1) / 8 ≡ j = omega (arith, low, e) in
    let m : (i - 1) % 8 ≡ k = omega (arith, low, e) in
    λ s. plan_at number unit i (d s) (m s)

-- the eight commands of round j
pub first_command : (number unit j : ℕ) → plan_command number unit (8 * j + 1) ≡ commands.Time (34200 + j % 50000)
first_command number unit j = at_place number unit j 0 (8 * j + 1) (omega arith) (omega arith)

pub second_command : (number unit j : ℕ) → plan_command number unit (8 * j + 2) ≡ commands.Add (plan_order number unit (8 * j + 2) Buy (plan_price number (8 * j + 2))) 0
second_command number unit j = at_place number unit j 1 (8 * j + 2) (omega arith) (omega arith)

pub third_command : (number unit j : ℕ) → plan_command number unit (8 * j + 3) ≡ commands.Add (plan_order number unit (8 * j + 3) Sell (plan_price number (8 * j + 3) + 10000)) 0
third_command number unit j = at_place number unit j 2 (8 * j + 3) (omega arith) (omega arith)

pub fourth_command : (number unit j : ℕ) → plan_command number unit (8 * j + 4) ≡ commands.Exec (8 * j + 2) 50 (8 * j + 4) 0
fourth_command number unit j =
    let e : 8 * j + 4 - 2 ≡ 8 * j + 2 = omega arith in
    at_place number unit j 3 (8 * j + 4) (omega arith) (omega arith) ∙ ap (λ (id : ℕ). commands.Exec id 50 (8 * j + 4) 0) e

pub fifth_command : (number unit j : ℕ) → plan_command number unit (8 * j + 5) ≡ commands.Reduce (8 * j + 3) 20 0
fifth_command number unit j =
    let e : 8 * j + 5 - 2 ≡ 8 * j + 3 = omega arith in
    at_place number unit j 4 (8 * j + 5) (omega arith) (omega arith) ∙ ap (λ (id : ℕ). commands.Reduce id 20 0) e

pub sixth_command : (number unit j : ℕ) → plan_command number unit (8 * j + 6) ≡ commands.Modify (8 * j + 2) (plan_quantity number unit (8 * j + 6)) (plan_price number (8 * j + 6)) true 0
sixth_command number unit j =
    let e : 8 * j + 6 - 4 ≡ 8 * j + 2 = omega arith in
    at_place number unit j 5 (8 * j + 6) (omega arith) (omega arith) ∙ ap (λ (id : ℕ). commands.Modify id (plan_quantity number unit (8 * j + 6)) (plan_price number (8 * j + 6)) true 0) e

pub seventh_command : (number unit j : ℕ) → plan_command number unit (8 * j + 7) ≡ commands.Add (second_buy number unit j) 0
seventh_command number unit j = at_place number unit j 6 (8 * j + 7) (omega arith) (omega arith)

-- the last of an even round, and of an odd one
pub eighth_even : (number unit j : ℕ) → (j % 2 == 0) ≡ true → plan_command number unit (8 * j + 8) ≡ commands.Delete (8 * j + 7) 0
eighth_even number unit j t =
    let e : 8 * j + 8 - 1 ≡ 8 * j + 7 = omega arith in
    let trade : Command = commands.Trade (plan_order number unit (8 * j + 8) Buy (plan_price number (8 * j + 8))) (8 * j + 8) 0 in
    at_place number unit j 7 (8 * j + 8) (omega arith) (omega arith)
    ∙ ap (λ (b : Bool). cond b (commands.Delete (8 * j + 8 - 1) 0) trade) t
    ∙ ap (λ (id : ℕ). commands.Delete id 0) e

pub eighth_odd : (number unit j : ℕ) → (j % 2 == 0) ≡ false → plan_command number unit (8 * j + 8) ≡ commands.Trade (plan_order number unit (8 * j + 8) Buy (plan_price number (8 * j + 8))) (8 * j + 8) 0
eighth_odd number unit j f =
    let trade : Command = commands.Trade (plan_order number unit (8 * j + 8) Buy (plan_price number (8 * j + 8))) (8 * j + 8) 0 in
    at_place number unit j 7 (8 * j + 8) (omega arith) (omega arith)
    ∙ ap (λ (b : Bool). cond b (commands.Delete (8 * j + 8 - 1) 0) trade) f

-- ---- One command more
pub plan_next : (number unit n i : ℕ) → i ≡ suc n → plan number unit i ≡ plan number unit n ++ raw_of (plan_command number unit i) ∷ []
unfolding plan
plan_next number unit n i e = ap (plan number unit) e ∙ ap (λ (k : ℕ). plan number unit n ++ raw_of (plan_command number unit k) ∷ []) (sym e)

pub plan_step : (number unit index : ℕ) → 1 ≤ index → plan number unit index ≡ plan number unit (index - 1) ++ raw_of (plan_command number unit index) ∷ []
plan_step number unit index some = let e : index ≡ suc (index - 1) = omega (arith, some) in plan_next number unit (index - 1) index e

-- and with none it is empty
pub plan_begins : (number unit : ℕ) → plan number unit 0 ≡ []
unfolding plan
plan_begins number unit = refl

pub plan_length : (number unit n : ℕ) → length (plan number unit n) ≡ n
unfolding plan
plan_length number unit zero = refl
plan_length number unit (suc n) = let l = plan_length number unit n in omega (arith, l, length-append (plan number unit n) (raw_of (plan_command number unit (suc n)) ∷ []))

-- the book after command i, which has this effect
pub book_next : (number unit n i : ℕ) (command : Command) (effect : Effect) (book : Book) → i ≡ suc n → plan_command number unit i ≡ command → Does command effect
    → book_after (plan number unit n) ≡ book → book_after (plan number unit i) ≡ after_effect book effect
book_next number unit n i command effect book e is it at =
    ap book_after (plan_next number unit n i e)
    ∙ book_after-append (plan number unit n) (raw_of (plan_command number unit i) ∷ [])
    ∙ ap (λ (c : Command). after (book_after (plan number unit n)) (raw_of c)) is
    ∙ ap (λ (b : Book). after b (raw_of command)) at
    ∙ done command effect book it

-- ---- Maps
pub get_same : (m : Orders) (k : ℕ) (v : Order) → finite.get (finite.insert m k v) k ≡ Some v
get_same m k v =
    let itself : eq_by_cmp nat_cmp k k ≡ true = grind (arith, nat_tests) in
    finite.get-insert nat_cmp_total m k v k ∙ ap (λ (b : Bool). cond b (Some v) (finite.get m k)) itself

pub get_other : (m : Orders) (k : ℕ) (v : Order) (q : ℕ) → q ≢ k → finite.get (finite.insert m k v) q ≡ finite.get m q
get_other m k v q apart =
    let other : eq_by_cmp nat_cmp q k ≡ false = grind (arith, nat_tests, apart) in
    finite.get-insert nat_cmp_total m k v q ∙ ap (λ (b : Bool). cond b (Some v) (finite.get m q)) other

-- an order with shares is added
pub added_order : (book : Book) (order : Order) → 0 < order.quantity → added book order ≡ with_order book order.id order
added_order book order some =
    let filled : (order.quantity == 0) ≡ false = grind (arith, nat_tests, some) in
    cond-false (order.quantity == 0) book (with_order book order.id order) filled

-- an open order that keeps shares is changed
pub changed_order : (book : Book) (id : ℕ) (change : Order → Order) (order : Order) → finite.get book.orders id ≡ Some order → 0 < (change order).quantity
    → changed book id change ≡ with_order book id (change order)
changed_order book id change order at some =
    let filled : ((change order).quantity == 0) ≡ false = grind (arith, nat_tests, some) in
    ap (λ (o : Option Order). reformed book id (option_map change o)) at
    ∙ cond-false ((change order).quantity == 0) (without_order book id) (with_order book id (change order)) filled

-- ---- The orders in the course of round j, where m were open before it
module _ (number unit j : ℕ) (m : Orders) where
  abbrev pub first_order : Order
  first_order = plan_order number unit (8 * j + 2) Buy (plan_price number (8 * j + 2))

  abbrev pub second_order : Order
  second_order = plan_order number unit (8 * j + 3) Sell (plan_price number (8 * j + 3) + 10000)

  abbrev pub orders_2 : Orders
  orders_2 = finite.insert m (8 * j + 2) first_order

  abbrev pub orders_3 : Orders
  orders_3 = finite.insert orders_2 (8 * j + 3) second_order

  abbrev pub orders_4 : Orders
  orders_4 = finite.insert orders_3 (8 * j + 2) (reduced_by 50 first_order)

  abbrev pub orders_5 : Orders
  orders_5 = finite.insert orders_4 (8 * j + 3) (sell_left number unit j)

  abbrev pub orders_6 : Orders
  orders_6 = finite.insert orders_5 (8 * j + 2) (buy_left number unit j)

  abbrev pub orders_7 : Orders
  orders_7 = finite.insert orders_6 (8 * j + 7) (second_buy number unit j)

  abbrev pub orders_8 : Orders
  orders_8 = cond (j % 2 == 0) (finite.remove orders_7 (8 * j + 7)) orders_7

  abbrev pub clock : ℕ
  clock = 34200 + j % 50000

  -- no command of the plan changes a status
  abbrev pub statuses : finite.FinMap symbol_cmp (ℕ × ℕ)
  statuses = (book_after (plan number unit (8 * j))).statuses

  abbrev pub book_of : Orders → Book
  book_of orders = record { second = Some clock; orders = orders; statuses = statuses }

  -- the book is this one after the commands of round j up to place k
  abbrev pub Stands : ℕ → Orders → Type 0
  Stands k orders = book_after (plan number unit (8 * j + k)) ≡ book_of orders

  -- what each command of the round finds open
  pub finds_first : finite.get orders_3 (8 * j + 2) ≡ Some first_order
  finds_first = get_other orders_2 (8 * j + 3) second_order (8 * j + 2) (λ e. omega (arith, e)) ∙ get_same m (8 * j + 2) first_order

  pub finds_second : finite.get orders_4 (8 * j + 3) ≡ Some second_order
  finds_second = get_other orders_3 (8 * j + 2) (reduced_by 50 first_order) (8 * j + 3) (λ e. omega (arith, e)) ∙ get_same orders_2 (8 * j + 3) second_order

  pub finds_reduced : finite.get orders_5 (8 * j + 2) ≡ Some (reduced_by 50 first_order)
  finds_reduced = get_other orders_4 (8 * j + 3) (sell_left number unit j) (8 * j + 2) (λ e. omega (arith, e)) ∙ get_same orders_3 (8 * j + 2) (reduced_by 50 first_order)

  pub finds_third : finite.get orders_7 (8 * j + 7) ≡ Some (second_buy number unit j)
  finds_third = get_same orders_6 (8 * j + 7) (second_buy number unit j)

  -- ---- The book after each of its commands
  pub stands_1 : (second : Option ℕ) → 8 * j + 8 ≤ 400000 → book_after (plan number unit (8 * j)) ≡ record { second = second; orders = m; statuses = statuses } → Stands 1 m
  stands_1 second low at =
      book_next number unit (8 * j) (8 * j + 1) (commands.Time clock) (ShowsSecond clock) (record { second = second; orders = m; statuses = statuses }) (omega arith) (first_command number unit j) (time_does clock (omega arith)) at

  pub stands_2 : 8 * j + 8 ≤ 400000 → Stands 1 m → Stands 2 orders_2
  stands_2 low at =
      book_next number unit (8 * j + 1) (8 * j + 2) (commands.Add first_order 0) (AddsOrder first_order) (book_of m) (omega arith) (second_command number unit j)
      (add_does first_order (fits_wire number unit (8 * j + 2) Buy (plan_price number (8 * j + 2)) (omega (arith, low)) (let p = price_most number (8 * j + 2) in omega (arith, p)))) at
      ∙ added_order (book_of m) first_order (let q = quantity_least number unit (8 * j + 2) in omega (arith, q))

  pub stands_3 : 8 * j + 8 ≤ 400000 → Stands 2 orders_2 → Stands 3 orders_3
  stands_3 low at =
      book_next number unit (8 * j + 2) (8 * j + 3) (commands.Add second_order 0) (AddsOrder second_order) (book_of orders_2) (omega arith) (third_command number unit j)
      (add_does second_order (fits_wire number unit (8 * j + 3) Sell (plan_price number (8 * j + 3) + 10000) (omega (arith, low)) (let p = price_most number (8 * j + 3) in omega (arith, p)))) at
      ∙ added_order (book_of orders_2) second_order (let q = quantity_least number unit (8 * j + 3) in omega (arith, q))

  pub stands_4 : 8 * j + 8 ≤ 400000 → Stands 3 orders_3 → Stands 4 orders_4
  stands_4 low at =
      book_next number unit (8 * j + 3) (8 * j + 4) (commands.Exec (8 * j + 2) 50 (8 * j + 4) 0) (ChangesOrder (8 * j + 2) (Reduced 50)) (book_of orders_3) (omega arith) (fourth_command number unit j)
      (exec_does (8 * j + 2) 50 (8 * j + 4) (omega (arith, low)) (omega arith) (omega (arith, low))) at
      ∙ changed_order (book_of orders_3) (8 * j + 2) (reduced_by 50) first_order finds_first (let q = quantity_least number unit (8 * j + 2) in omega (arith, q))

  pub stands_5 : 8 * j + 8 ≤ 400000 → Stands 4 orders_4 → Stands 5 orders_5
  stands_5 low at =
      book_next number unit (8 * j + 4) (8 * j + 5) (commands.Reduce (8 * j + 3) 20 0) (ChangesOrder (8 * j + 3) (Reduced 20)) (book_of orders_4) (omega arith) (fifth_command number unit j)
      (reduce_does (8 * j + 3) (omega (arith, low))) at
      ∙ changed_order (book_of orders_4) (8 * j + 3) (reduced_by 20) second_order finds_second (let q = quantity_least number unit (8 * j + 3) in omega (arith, q))

  abbrev modification : Order → Order
  modification = modified (plan_quantity number unit (8 * j + 6)) (plan_price number (8 * j + 6)) true

  pub stands_6 : 8 * j + 8 ≤ 400000 → Stands 5 orders_5 → Stands 6 orders_6
  stands_6 low at =
      book_next number unit (8 * j + 5) (8 * j + 6) (commands.Modify (8 * j + 2) (plan_quantity number unit (8 * j + 6)) (plan_price number (8 * j + 6)) true 0) (ChangesOrder (8 * j + 2) (Modified (plan_quantity number unit (8 * j + 6)) (plan_price number (8 * j + 6)) true))
      (book_of orders_5) (omega arith) (sixth_command number unit j)
      (modify_does (8 * j + 2) (plan_quantity number unit (8 * j + 6)) (plan_price number (8 * j + 6)) (omega (arith, low)) (quantity_most number unit (8 * j + 6)) (let p = price_most number (8 * j + 6) in omega (arith, p)) (price_cents number (8 * j + 6))) at
      ∙ changed_order (book_of orders_5) (8 * j + 2) modification (reduced_by 50 first_order) finds_reduced (let q = quantity_least number unit (8 * j + 6) in omega (arith, q))

  pub stands_7 : 8 * j + 8 ≤ 400000 → Stands 6 orders_6 → Stands 7 orders_7
  stands_7 low at =
      book_next number unit (8 * j + 6) (8 * j + 7) (commands.Add (second_buy number unit j) 0) (AddsOrder (second_buy number unit j)) (book_of orders_6) (omega arith) (seventh_command number unit j)
      (add_does (second_buy number unit j) (fits_wire number unit (8 * j + 7) Buy (plan_price number (8 * j + 7) + 1) (omega (arith, low)) (let p = price_most number (8 * j + 7) in omega (arith, p)))) at
      ∙ added_order (book_of orders_6) (second_buy number unit j) (let q = quantity_least number unit (8 * j + 7) in omega (arith, q))

  stands_even : 8 * j + 8 ≤ 400000 → (j % 2 == 0) ≡ true → Stands 7 orders_7 → Stands 8 orders_8
  stands_even low t at =
      book_next number unit (8 * j + 7) (8 * j + 8) (commands.Delete (8 * j + 7) 0) (RemovesOrder (8 * j + 7)) (book_of orders_7) (omega arith) (eighth_even number unit j t)
      (delete_does (8 * j + 7) (omega (arith, low))) at
      ∙ ap book_of (sym (cond-true (j % 2 == 0) (finite.remove orders_7 (8 * j + 7)) orders_7 t))

  stands_odd : 8 * j + 8 ≤ 400000 → (j % 2 == 0) ≡ false → Stands 7 orders_7 → Stands 8 orders_8
  stands_odd low f at =
      book_next number unit (8 * j + 7) (8 * j + 8) (commands.Trade (plan_order number unit (8 * j + 8) Buy (plan_price number (8 * j + 8))) (8 * j + 8) 0) DoesNothing (book_of orders_7) (omega arith) (eighth_odd number unit j f)
      (trade_does number unit (8 * j + 8) low) at
      ∙ ap book_of (sym (cond-false (j % 2 == 0) (finite.remove orders_7 (8 * j + 7)) orders_7 f))

  pub stands_8 : 8 * j + 8 ≤ 400000 → Stands 7 orders_7 → Stands 8 orders_8
  stands_8 low at = by (j % 2 == 0) refl
    where
      by : (b : Bool) → (j % 2 == 0) ≡ b → Stands 8 orders_8
      by true t = stands_even low t at
      by false f = stands_odd low f at
