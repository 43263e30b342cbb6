-- A level gains and loses by the order that is put or taken.
use Rattle.std.proofs.Common.{◌≡◌, ℕ, ◌+◌, ◌==◌, ◌&&◌, Bool, true, false, cond, List, [], ◌∷◌, map, filter, sum_by, Option, Some, None, refl, sym, ap, ◌∙◌, arith}
use Rattle.std.specs.Str.{bytes_eq}
use Rattle.std.specs.Ordering.{nat_cmp, is_eq, eq_by_cmp}
use Rattle.std.specs.declared.cmp.Ordering.{Ordering}
use Rattle.std.specs.declared.cmp.Ordering.TheVariants.{Less, Equal, Greater}
use Rattle.std.specs.FinMap as finite
use Rattle.std.specs.FinMap.Entries.{by_order, put, find}
use Rattle.std.proofs.lemmas.Cmp.{nat_cmp_total}
use Rattle.std.proofs.lemmas.List.Sums.{sum_by-cons}
use Rattle.std.proofs.lemmas.Option.{none-some}
use Rattle.pitch_fields.proofs.Keys.{tied, itself}
use Rattle.pitch_fields.specs.declared.side.Side.{Side}
use Rattle.pitch_messages.specs.declared.order.Order.{Order}
use Rattle.pitch_model.specs.Book.{Book, with_order, without_order}
use Rattle.pitch_model.specs.Levels.{same_side, level}
use Rattle.best_quotes.specs.Balance.{shares_at, shares_of}

abbrev Orders : Type 0
Orders = finite.FinMap nat_cmp Order

-- ---- Maps
get_removed : (m : Orders) (k : ℕ) → finite.get (finite.remove m k) k ≡ None
get_removed m k = finite.get-remove nat_cmp_total m k k ∙ ap (λ (b : Bool). cond b None (finite.get m k)) (itself k)

not_there : (m : Orders) (k : ℕ) → finite.get m k ≡ None → finite.remove m k ≡ m
not_there m k none = finite.same_map nat_cmp_total finite.nat_cmp-IsAntisymmetric (finite.remove m k) m (λ q. finite.get-remove nat_cmp_total m k q ∙ by q (eq_by_cmp nat_cmp q k) refl)
  where
    by : (q : ℕ) (b : Bool) → eq_by_cmp nat_cmp q k ≡ b → cond b None (finite.get m q) ≡ finite.get m q
    by q true t = sym (ap (finite.get m) (tied q k t) ∙ none)
    by q false t = refl

put_back : (m : Orders) (k : ℕ) (v : Order) → finite.get m k ≡ Some v → finite.insert (finite.remove m k) k v ≡ m
put_back m k v is = finite.same_map nat_cmp_total finite.nat_cmp-IsAntisymmetric (finite.insert (finite.remove m k) k v) m
    (λ q. finite.get-insert nat_cmp_total (finite.remove m k) k v q ∙ ap (cond (eq_by_cmp nat_cmp q k) (Some v)) (finite.get-remove nat_cmp_total m k q) ∙ by q (eq_by_cmp nat_cmp q k) refl)
  where
    by : (q : ℕ) (b : Bool) → eq_by_cmp nat_cmp q k ≡ b → cond b (Some v) (cond b None (finite.get m q)) ≡ finite.get m q
    by q true t = sym (ap (finite.get m) (tied q k t) ∙ is)
    by q false t = refl

put_over : (m : Orders) (k : ℕ) (v : Order) → finite.insert m k v ≡ finite.insert (finite.remove m k) k v
put_over m k v = finite.same_map nat_cmp_total finite.nat_cmp-IsAntisymmetric (finite.insert m k v) (finite.insert (finite.remove m k) k v)
    (λ q. finite.get-insert nat_cmp_total m k v q ∙ by q (eq_by_cmp nat_cmp q k)
    ∙ sym (finite.get-insert nat_cmp_total (finite.remove m k) k v q ∙ ap (cond (eq_by_cmp nat_cmp q k) (Some v)) (finite.get-remove nat_cmp_total m k q)))
  where
    by : (q : ℕ) (b : Bool) → cond b (Some v) (finite.get m q) ≡ cond b (Some v) (cond b None (finite.get m q))
    by q true = refl
    by q false = refl

-- ---- Sums over a map
module _ (f : Order → ℕ) where
  abbrev total : Orders → ℕ
  total m = sum_by f (finite.values m)

  abbrev part : Option Order → ℕ
  part None = 0
  part (Some order) = f order

  put_new : (k : ℕ) (v : Order) (es : List (ℕ × Order)) → find nat_cmp k es ≡ None → sum_by f (map (λ e. e.1) (put nat_cmp k v es)) ≡ f v + sum_by f (map (λ e. e.1) es)
  put_new k v [] none = sum_by-cons f v []
  put_new k v (e ∷ es) none = by (nat_cmp k e.0) none (put_new k v es)
    where
      by : (r : Ordering) → cond (is_eq r) (Some e.1) (find nat_cmp k es) ≡ None → (find nat_cmp k es ≡ None → sum_by f (map (λ e. e.1) (put nat_cmp k v es)) ≡ f v + sum_by f (map (λ e. e.1) es))
          → sum_by f (map (λ (x : ℕ × Order). x.1) (by_order r ((k, v) ∷ e ∷ es) ((e.0, v) ∷ es) (e ∷ put nat_cmp k v es))) ≡ f v + sum_by f (e.1 ∷ map (λ x. x.1) es)
      by Less none later = sum_by-cons f v (e.1 ∷ map (λ x. x.1) es)
      by Equal none later = absurd (none-some e.1 (sym none))
      by Greater none later =
          let l = later none in
          let a = sum_by-cons f e.1 (map (λ x. x.1) (put nat_cmp k v es)) in
          let b = sum_by-cons f e.1 (map (λ x. x.1) es) in
          omega arith

  total_new : (m : Orders) (k : ℕ) (v : Order) → finite.get m k ≡ None → total (finite.insert m k v) ≡ f v + total m
  total_new m k v none =
      ap (λ (es : List (ℕ × Order)). sum_by f (map (λ e. e.1) es)) (finite.entries-insert nat_cmp_total m k v)
      ∙ put_new k v (finite.entries m) (sym (finite.get-entries m k) ∙ none)

  pub total_removed : (m : Orders) (k : ℕ) → total (finite.remove m k) + part (finite.get m k) ≡ total m
  total_removed m k = by (finite.get m k) refl
    where
      by : (o : Option Order) → finite.get m k ≡ o → total (finite.remove m k) + part o ≡ total m
      by None e = let same = ap total (not_there m k e) in omega arith
      by (Some v) e = let back = ap total (put_back m k v e) in let new = total_new (finite.remove m k) k v (get_removed m k) in omega arith

  pub total_put : (m : Orders) (k : ℕ) (v : Order) → total (finite.insert m k v) + part (finite.get m k) ≡ total m + f v
  total_put m k v =
      let over = ap total (put_over m k v) in
      let new = total_new (finite.remove m k) k v (get_removed m k) in
      let gone = total_removed m k in
      omega arith

-- ---- Levels
module _ (symbol : List ℕ) (side : Side) (price : ℕ) where
  at_price : (x : Order) (kept : List Order) (n : ℕ) (b : Bool) → sum_by (λ order. order.quantity) (filter (λ order. price == order.price) kept) ≡ n
      → sum_by (λ order. order.quantity) (cond b (x ∷ filter (λ order. price == order.price) kept) (filter (λ order. price == order.price) kept)) ≡ cond b x.quantity 0 + n
  at_price x kept n true rec = sum_by-cons (λ (order : Order). order.quantity) x (filter (λ order. price == order.price) kept) ∙ ap (λ (k : ℕ). x.quantity + k) rec
  at_price x kept n false rec = rec ∙ omega arith

  on_side : (x : Order) (kept : List Order) (n : ℕ) (a : Bool) → sum_by (λ order. order.quantity) (filter (λ order. price == order.price) kept) ≡ n
      → sum_by (λ order. order.quantity) (filter (λ order. price == order.price) (cond a (x ∷ kept) kept)) ≡ cond a (cond (price == x.price) x.quantity 0) 0 + n
  on_side x kept n true rec = at_price x kept n (price == x.price) rec
  on_side x kept n false rec = rec ∙ omega arith

  level_sum : (orders : List Order) → sum_by (λ order. order.quantity) (filter (λ order. price == order.price) (filter (λ order. bytes_eq symbol order.symbol && same_side side order.side) orders)) ≡ sum_by (shares_at symbol side price) orders
  level_sum [] = refl
  level_sum (x ∷ xs) =
      on_side x (filter (λ order. bytes_eq symbol order.symbol && same_side side order.side) xs) (sum_by (shares_at symbol side price) xs) (bytes_eq symbol x.symbol && same_side side x.side) (level_sum xs)
      ∙ sym (sum_by-cons (shares_at symbol side price) x xs)

  pub level_total : (book : Book) → level book symbol side price ≡ sum_by (shares_at symbol side price) (finite.values book.orders)
  unfolding level
  level_total book = level_sum (finite.values book.orders)

  parts : (o : Option Order) → part (shares_at symbol side price) o ≡ shares_of symbol side price o
  parts None = refl
  parts (Some order) = refl

  pub level_removed : (book : Book) (id : ℕ) → level (without_order book id) symbol side price + shares_of symbol side price (finite.get book.orders id) ≡ level book symbol side price
  level_removed book id =
      let a = level_total (without_order book id) in
      let b = level_total book in
      let p = parts (finite.get book.orders id) in
      let t = total_removed (shares_at symbol side price) book.orders id in
      omega arith

  pub level_put : (book : Book) (id : ℕ) (order : Order) → level (with_order book id order) symbol side price + shares_of symbol side price (finite.get book.orders id) ≡ level book symbol side price + shares_at symbol side price order
  level_put book id order =
      let a = level_total (with_order book id order) in
      let b = level_total book in
      let p = parts (finite.get book.orders id) in
      let t = total_put (shares_at symbol side price) book.orders id order in
      omega arith
