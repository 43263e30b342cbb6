-- The orders that whole rounds of the plan leave.
use Rattle.std.proofs.Common.{◌≡◌, ◌≢◌, ℕ, zero, suc, ◌+◌, ◌*◌, ◌/◌, ◌%◌, ◌<◌, ◌≤◌, Bool, true, false, cond, ◌==◌, List, [], ◌∷◌, ◌++◌, map, length, Option, None, Some, refl, sym, ap, ◌∙◌, subst, arith, append_assoc, length-append, sum_by}
use Rattle.std.specs.List.{AllByRecursion}
use Rattle.std.proofs.lemmas.Bool.{cond_both, cond-true, cond-false, eqb-true}
use Rattle.std.proofs.lemmas.Bool.Decides.{nat_tests}
use Rattle.std.proofs.lemmas.Cmp.{nat_cmp_total}
use Rattle.std.specs.Ordering.{nat_cmp, eq_by_cmp}
use Rattle.std.specs.declared.cmp.Ordering.{Ordering}
use Rattle.std.specs.declared.cmp.Ordering.TheVariants.{Greater}
use Rattle.std.specs.FinMap as finite
use Rattle.std.specs.FinMap.Entries.{put, find, by_order}
use Rattle.std.proofs.lemmas.List.{nil_from_length}
use Rattle.pitch_fields.proofs.Keys.{tied, greater}
use Rattle.pitch_messages.specs.declared.order.Order.{Order}
use Rattle.pitch_model.specs.Book.{Book, reduced_by, book_after}
use Rattle.pitch_model.specs.Levels.{shares}
use Rattle.venue_core.specs.Plan.{plan, plan_quantity, plan_price}
use Rattle.venue_core.specs.Planned.{buy_left, sell_left, second_buy, second_buy_left, orders_left}
use Rattle.venue_core.proofs.PlanBooks.{Orders, first_order, second_order, orders_2, orders_3, orders_4, orders_5, orders_6, orders_7, orders_8, book_of, stands_1, stands_2, stands_3, stands_4, stands_5, stands_6, stands_7, stands_8}

-- ---- Maps that answer alike
-- of two keys that are apart, the later of three puts counts
swapped : (at_a at_b : Bool) (o a0 a1 a2 b0 b1 : Option Order) → (at_a ≡ true → at_b ≡ true → ⊥) → cond at_a a2 (cond at_b b1 (cond at_a a1 (cond at_b b0 (cond at_a a0 o)))) ≡ cond at_b b1 (cond at_a a2 o)
swapped true true o a0 a1 a2 b0 b1 apart = absurd (apart refl refl)
swapped true false o a0 a1 a2 b0 b1 apart = refl
swapped false true o a0 a1 a2 b0 b1 apart = refl
swapped false false o a0 a1 a2 b0 b1 apart = refl

-- a third key that was put and removed is not there
dropped : (at_a at_b at_c : Bool) (o a2 b1 c0 before : Option Order) → (at_c ≡ true → at_a ≡ true → ⊥) → (at_c ≡ true → at_b ≡ true → ⊥) → (at_c ≡ true → o ≡ None) → before ≡ cond at_b b1 (cond at_a a2 o)
    → cond at_c None (cond at_c c0 before) ≡ cond at_b b1 (cond at_a a2 o)
dropped true true true o a2 b1 c0 before no_a no_b none same = absurd (no_a refl refl)
dropped true false true o a2 b1 c0 before no_a no_b none same = absurd (no_a refl refl)
dropped false true true o a2 b1 c0 before no_a no_b none same = absurd (no_b refl refl)
dropped false false true o a2 b1 c0 before no_a no_b none same = sym (none refl)
dropped true true false o a2 b1 c0 before no_a no_b none same = same
dropped true false false o a2 b1 c0 before no_a no_b none same = same
dropped false true false o a2 b1 c0 before no_a no_b none same = same
dropped false false false o a2 b1 c0 before no_a no_b none same = same

insert_gives : (m : Orders) (k : ℕ) (v : Order) (q : ℕ) (o : Option Order) → finite.get m q ≡ o → finite.get (finite.insert m k v) q ≡ cond (eq_by_cmp nat_cmp q k) (Some v) o
insert_gives m k v q o is = finite.get-insert nat_cmp_total m k v q ∙ ap (cond (eq_by_cmp nat_cmp q k) (Some v)) is

module _ (number unit j : ℕ) (m : Orders) where
  -- the orders m with the two that each round leaves, and with the third
  abbrev pub two_left : Orders
  two_left = finite.insert (finite.insert m (8 * j + 2) (buy_left number unit j)) (8 * j + 3) (sell_left number unit j)

  abbrev pub three_left : Orders
  three_left = finite.insert two_left (8 * j + 7) (second_buy number unit j)

  six_gives : (q : ℕ) → finite.get (orders_6 number unit j m) q ≡ finite.get two_left q
  six_gives q =
      let a : Bool = eq_by_cmp nat_cmp q (8 * j + 2) in
      let b : Bool = eq_by_cmp nat_cmp q (8 * j + 3) in
      insert_gives (orders_5 number unit j m) (8 * j + 2) (buy_left number unit j) q _
      (insert_gives (orders_4 number unit j m) (8 * j + 3) (sell_left number unit j) q _
      (insert_gives (orders_3 number unit j m) (8 * j + 2) (reduced_by 50 (first_order number unit j m)) q _
      (insert_gives (orders_2 number unit j m) (8 * j + 3) (second_order number unit j m) q _
      (insert_gives m (8 * j + 2) (first_order number unit j m) q _ refl))))
      ∙ swapped a b (finite.get m q) (Some (first_order number unit j m)) (Some (reduced_by 50 (first_order number unit j m))) (Some (buy_left number unit j)) (Some (second_order number unit j m)) (Some (sell_left number unit j))
      (λ at_a at_b. let x = tied q (8 * j + 2) at_a in let y = tied q (8 * j + 3) at_b in omega (arith, x, y))
      ∙ sym (insert_gives (finite.insert m (8 * j + 2) (buy_left number unit j)) (8 * j + 3) (sell_left number unit j) q _ (insert_gives m (8 * j + 2) (buy_left number unit j) q _ refl))

  two_gives : (q : ℕ) → finite.get two_left q ≡ cond (eq_by_cmp nat_cmp q (8 * j + 3)) (Some (sell_left number unit j)) (cond (eq_by_cmp nat_cmp q (8 * j + 2)) (Some (buy_left number unit j)) (finite.get m q))
  two_gives q = insert_gives (finite.insert m (8 * j + 2) (buy_left number unit j)) (8 * j + 3) (sell_left number unit j) q _ (insert_gives m (8 * j + 2) (buy_left number unit j) q _ refl)

  pub odd_left : orders_7 number unit j m ≡ three_left
  odd_left = finite.same_map nat_cmp_total finite.nat_cmp-IsAntisymmetric (orders_7 number unit j m) three_left
      (λ q. insert_gives (orders_6 number unit j m) (8 * j + 7) (second_buy number unit j) q (finite.get two_left q) (six_gives q)
      ∙ sym (insert_gives two_left (8 * j + 7) (second_buy number unit j) q (finite.get two_left q) refl))

  pub even_left : ((q : ℕ) → 8 * j < q → finite.get m q ≡ None) → finite.remove (orders_7 number unit j m) (8 * j + 7) ≡ two_left
  even_left none = finite.same_map nat_cmp_total finite.nat_cmp-IsAntisymmetric (finite.remove (orders_7 number unit j m) (8 * j + 7)) two_left
      (λ q. finite.get-remove nat_cmp_total (orders_7 number unit j m) (8 * j + 7) q
      ∙ ap (cond (eq_by_cmp nat_cmp q (8 * j + 7)) None) (insert_gives (orders_6 number unit j m) (8 * j + 7) (second_buy number unit j) q (finite.get (orders_6 number unit j m) q) refl)
      ∙ dropped (eq_by_cmp nat_cmp q (8 * j + 2)) (eq_by_cmp nat_cmp q (8 * j + 3)) (eq_by_cmp nat_cmp q (8 * j + 7)) (finite.get m q)
      (Some (buy_left number unit j)) (Some (sell_left number unit j)) (Some (second_buy number unit j)) (finite.get (orders_6 number unit j m) q)
      (λ at_c at_a. let x = tied q (8 * j + 7) at_c in let y = tied q (8 * j + 2) at_a in omega (arith, x, y))
      (λ at_c at_b. let x = tied q (8 * j + 7) at_c in let y = tied q (8 * j + 3) at_b in omega (arith, x, y))
      (λ at_c. let x = tied q (8 * j + 7) at_c in none q (omega (arith, x)))
      (six_gives q ∙ two_gives q)
      ∙ sym (two_gives q))

-- ---- Entries by rising id
abbrev pub keyed : List Order → List (ℕ × Order)
keyed orders = map (λ order. (order.id, order)) orders

abbrev pub AreUpTo : ℕ → List Order → Type 0
AreUpTo n orders = AllByRecursion (λ order. order.id ≤ n) orders

up_to_more : (n k : ℕ) (xs ys : List Order) → n ≤ k → AreUpTo n xs → AreUpTo k ys → AreUpTo k (xs ++ ys)
up_to_more n k [] ys le all more = more
up_to_more n k (x ∷ xs) ys le all more = (let l = all.0 in omega (arith, l, le), up_to_more n k xs ys le all.1 more)

-- an order above all others goes to the end
put_last : (n : ℕ) (orders : List Order) (order : Order) → n < order.id → AreUpTo n orders → put nat_cmp order.id order (keyed orders) ≡ keyed (orders ++ order ∷ [])
put_last n [] order above all = refl
put_last n (x ∷ orders) order above all =
    let g : nat_cmp order.id x.id ≡ Greater = greater order.id x.id (let l = all.0 in omega (arith, l, above)) in
    ap (λ (o : Ordering). by_order o ((order.id, order) ∷ (x.id, x) ∷ keyed orders) ((x.id, order) ∷ keyed orders) ((x.id, x) ∷ put nat_cmp order.id order (keyed orders))) g
    ∙ ap (λ (es : List (ℕ × Order)). (x.id, x) ∷ es) (put_last n orders order above all.1)

entries_more : (m : Orders) (n : ℕ) (orders : List Order) (order : Order) → finite.entries m ≡ keyed orders → n < order.id → AreUpTo n orders → finite.entries (finite.insert m order.id order) ≡ keyed (orders ++ order ∷ [])
entries_more m n orders order are above all =
    finite.entries-insert nat_cmp_total m order.id order ∙ ap (put nat_cmp order.id order) are ∙ put_last n orders order above all

-- no order is above all
none_above : (n q : ℕ) (orders : List Order) → n < q → AreUpTo n orders → find nat_cmp q (keyed orders) ≡ None
none_above n q [] above all = refl
none_above n q (x ∷ orders) above all =
    let apart : eq_by_cmp nat_cmp q x.id ≡ false = (let l = all.0 in let ne : q ≢ x.id = λ e. omega (arith, e, l, above) in grind (arith, nat_tests, ne)) in
    cond-false (eq_by_cmp nat_cmp q x.id) (Some x) (find nat_cmp q (keyed orders)) apart ∙ none_above n q orders above all.1

-- ---- Whole rounds
-- the open orders after the first j rounds
pub record Left (number unit j : ℕ) : Type 0 where
  pub entries_are : finite.entries (book_after (plan number unit (8 * j))).orders ≡ keyed (orders_left number unit j)
  pub ids : AreUpTo (8 * j) (orders_left number unit j)

pub left_none : (number unit j : ℕ) → Left number unit j → (q : ℕ) → 8 * j < q → finite.get (book_after (plan number unit (8 * j))).orders q ≡ None
left_none number unit j left q above =
    finite.get-entries (book_after (plan number unit (8 * j))).orders q ∙ ap (find nat_cmp q) left.entries_are ∙ none_above (8 * j) q (orders_left number unit j) above left.ids

abbrev orders_at : ℕ → ℕ → ℕ → Orders
orders_at number unit j = (book_after (plan number unit (8 * j))).orders

-- the book after the commands of one more round
after_block : (number unit j : ℕ) → 8 * j + 8 ≤ 400000 → book_after (plan number unit (8 * j + 8)) ≡ book_of number unit j (orders_at number unit j) (orders_8 number unit j (orders_at number unit j))
after_block number unit j low =
    let m : Orders = orders_at number unit j in
    stands_8 number unit j m low (stands_7 number unit j m low (stands_6 number unit j m low (stands_5 number unit j m low (stands_4 number unit j m low (stands_3 number unit j m low (stands_2 number unit j m low
    (stands_1 number unit j m (book_after (plan number unit (8 * j))).second low refl)))))))

two_entries : (number unit j : ℕ) → Left number unit j → finite.entries (two_left number unit j (orders_at number unit j)) ≡ keyed (orders_left number unit j ++ buy_left number unit j ∷ sell_left number unit j ∷ [])
two_entries number unit j left =
    let m : Orders = orders_at number unit j in
    let xs : List Order = orders_left number unit j in
    let one : List Order = xs ++ buy_left number unit j ∷ [] in
    let up : AreUpTo (8 * j + 2) one = up_to_more (8 * j) (8 * j + 2) xs (buy_left number unit j ∷ []) (omega arith) left.ids (omega arith, tt) in
    entries_more (finite.insert m (8 * j + 2) (buy_left number unit j)) (8 * j + 2) one (sell_left number unit j) (entries_more m (8 * j) xs (buy_left number unit j) left.entries_are (omega arith) left.ids) (omega arith) up
    ∙ ap keyed (append_assoc xs (buy_left number unit j ∷ []) (sell_left number unit j ∷ []))

more_left : (number unit j : ℕ) → 8 * j + 8 ≤ 400000 → Left number unit j → Left number unit (suc j)
unfolding orders_left
more_left number unit j low left = by (j % 2 == 0) refl
  where
    m : Orders
    m = orders_at number unit j

    at : 8 * suc j ≡ 8 * j + 8
    at = omega arith

    two : List Order
    two = orders_left number unit j ++ buy_left number unit j ∷ sell_left number unit j ∷ []

    start : finite.entries (orders_at number unit (suc j)) ≡ finite.entries (orders_8 number unit j m)
    start = ap (λ (n : ℕ). finite.entries (book_after (plan number unit n)).orders) at ∙ ap (λ (b : Book). finite.entries b.orders) (after_block number unit j low)

    two_up : AreUpTo (8 * suc j) two
    two_up = up_to_more (8 * j) (8 * suc j) (orders_left number unit j) (buy_left number unit j ∷ sell_left number unit j ∷ []) (omega (arith, at)) left.ids (omega (arith, at), (omega (arith, at), tt))

    whole : (third : List Order) → second_buy_left number unit j ≡ third → orders_left number unit j ++ buy_left number unit j ∷ sell_left number unit j ∷ third ≡ orders_left number unit (suc j)
    whole third is = ap (λ (l : List Order). orders_left number unit j ++ buy_left number unit j ∷ sell_left number unit j ∷ l) (sym is)

    by : (b : Bool) → (j % 2 == 0) ≡ b → Left number unit (suc j)
    by true t =
        let third : second_buy_left number unit j ≡ [] = cond-true (j % 2 == 0) [] (second_buy number unit j ∷ []) t in
        record {
          entries_are =
              start
              ∙ ap (λ (o : Orders). finite.entries o) (cond-true (j % 2 == 0) (finite.remove (orders_7 number unit j m) (8 * j + 7)) (orders_7 number unit j m) t ∙ even_left number unit j m (left_none number unit j left))
              ∙ two_entries number unit j left ∙ ap keyed (whole [] third);
          ids = subst (AreUpTo (8 * suc j)) (whole [] third) two_up;
        }
    by false f =
        let third : second_buy_left number unit j ≡ second_buy number unit j ∷ [] = cond-false (j % 2 == 0) [] (second_buy number unit j ∷ []) f in
        let close : two ++ second_buy number unit j ∷ [] ≡ orders_left number unit (suc j) =
        append_assoc (orders_left number unit j) (buy_left number unit j ∷ sell_left number unit j ∷ []) (second_buy number unit j ∷ []) ∙ whole (second_buy number unit j ∷ []) third in
        let up : AreUpTo (8 * j + 3) two = up_to_more (8 * j) (8 * j + 3) (orders_left number unit j) (buy_left number unit j ∷ sell_left number unit j ∷ []) (omega arith) left.ids (omega arith, (omega arith, tt)) in
        record {
          entries_are =
              start
              ∙ ap (λ (o : Orders). finite.entries o) (cond-false (j % 2 == 0) (finite.remove (orders_7 number unit j m) (8 * j + 7)) (orders_7 number unit j m) f ∙ odd_left number unit j m)
              ∙ entries_more (two_left number unit j m) (8 * j + 3) two (second_buy number unit j) (two_entries number unit j left) (omega arith) up
              ∙ ap keyed close;
          ids = subst (AreUpTo (8 * suc j)) close (up_to_more (8 * suc j) (8 * suc j) two (second_buy number unit j ∷ []) (omega arith) two_up (omega (arith, at), tt));
        }

pub none_left : (number unit : ℕ) → Left number unit zero
unfolding orders_left plan
none_left number unit = record { entries_are = nil_from_length (finite.entries (finite.empty {K = ℕ} {X = Order} {R = nat_cmp})) (sym (finite.len-entries (finite.empty {K = ℕ} {X = Order} {R = nat_cmp})) ∙ finite.len-empty nat_cmp Order); ids = tt }

pub left_after : (number unit j : ℕ) → 8 * j ≤ 400000 → Left number unit j
left_after number unit zero low = none_left number unit
left_after number unit (suc j) low = more_left number unit j (omega (arith, low)) (left_after number unit j (omega (arith, low)))

-- ---- How many they are, and their shares
values_keyed : (orders : List Order) → map (λ (e : ℕ × Order). e.1) (keyed orders) ≡ orders
values_keyed [] = refl
values_keyed (x ∷ orders) = ap (λ (l : List Order). x ∷ l) (values_keyed orders)

pub plan_leaves : (number unit j : ℕ) → j ≤ 50000 → finite.values (book_after (plan number unit (8 * j))).orders ≡ orders_left number unit j
plan_leaves number unit j low =
    ap (λ (es : List (ℕ × Order)). map (λ (e : ℕ × Order). e.1) es) (left_after number unit j (omega (arith, low))).entries_are ∙ values_keyed (orders_left number unit j)

third_length : (number unit j : ℕ) → length (second_buy_left number unit j) ≡ j % 2
third_length number unit j =
    cond_both (j % 2 == 0) [] (second_buy number unit j ∷ []) (λ (l : List Order). length l ≡ j % 2)
    (λ t. sym (eqb-true (j % 2) 0 t))
    (λ f. let ne : j % 2 ≢ 0 = λ e. false_true (sym f ∙ zero_is (j % 2) e) in omega (arith, ne))
  where
    zero_is : (n : ℕ) → n ≡ 0 → (n == 0) ≡ true
    zero_is n e = grind (arith, nat_tests, e)

    false_true : false ≡ true → ⊥
    false_true e = cc

orders_length : (number unit j : ℕ) → length (orders_left number unit j) ≡ 2 * j + j / 2
unfolding orders_left
orders_length number unit zero = refl
orders_length number unit (suc j) =
    let before = orders_length number unit j in
    let third = third_length number unit j in
    let sum = length-append (orders_left number unit j) (buy_left number unit j ∷ sell_left number unit j ∷ second_buy_left number unit j) in
    omega (arith, before, third, sum)

mapped : (es : List (ℕ × Order)) → length es ≡ length (map (λ (e : ℕ × Order). e.1) es)
mapped [] = refl
mapped (e ∷ es) = ap suc (mapped es)

pub plan_leaves_many : (number unit j : ℕ) → j ≤ 50000 → finite.len (book_after (plan number unit (8 * j))).orders ≡ 2 * j + j / 2
plan_leaves_many number unit j low =
    finite.len-entries (book_after (plan number unit (8 * j))).orders
    ∙ mapped (finite.entries (book_after (plan number unit (8 * j))).orders)
    ∙ ap (λ (l : List Order). length l) (plan_leaves number unit j low)
    ∙ orders_length number unit j

pub plan_leaves_shares : (number unit j : ℕ) → j ≤ 50000 → shares (book_after (plan number unit (8 * j))) ≡ sum_by (λ order. order.quantity) (orders_left number unit j)
unfolding shares
plan_leaves_shares number unit j low = ap (sum_by (λ order. order.quantity)) (plan_leaves number unit j low)

-- ---- Worked out
two_rounds : sum_by (λ order. order.quantity) (orders_left 0 1 2) ≡ 1078
unfolding orders_left plan_quantity plan_price
two_rounds = refl

two_rounds_of_two : sum_by (λ order. order.quantity) (orders_left 0 2 2) ≡ 1083
unfolding orders_left plan_quantity plan_price
two_rounds_of_two = refl

many_rounds : sum_by (λ order. order.quantity) (orders_left 0 1 25) ≡ 18219
unfolding orders_left plan_quantity plan_price
many_rounds = refl

of_a_storm : (sum_by (λ order. order.quantity) (orders_left 1 1 250) ≡ 181375) × (sum_by (λ order. order.quantity) (orders_left 1 2 250) ≡ 182000)
unfolding orders_left plan_quantity plan_price
of_a_storm = (refl, refl)
