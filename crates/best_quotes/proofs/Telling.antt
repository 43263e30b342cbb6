-- The changes between two books tell of each symbol and side whose best differs, and of no other.
use Rattle.std.proofs.Common.{◌≡◌, ℕ, Bool, true, false, ◌&&◌, ◌||◌, ◌==◌, cond, List, [], ◌∷◌, ◌++◌, inl, inr, map, filter, fold, Option, None, Some, refl, sym, ap, ◌∙◌, subst}
use Rattle.std.specs.List.{flat_map, list_any, AllByRecursion}
use Rattle.std.specs.Str.{bytes_eq}
use Rattle.std.specs.Option.{option_map, is_some}
use Rattle.std.specs.Ordering.{nat_cmp, eq_by_cmp}
use Rattle.std.specs.Cmp.Lexicographic.{slice_cmp}
use Rattle.std.specs.FinMap as finite
use Rattle.std.specs.FinMap.Entries.{find}
use Rattle.std.proofs.lemmas.List.{nil_from_length}
use Rattle.std.proofs.lemmas.Cmp.{nat_list_cmp_total}
use Rattle.std.proofs.lemmas.Map.Text.{is_eq-slice_cmp}
use Rattle.std.proofs.lemmas.Slice.Eq.{bytes_eq-Decides}
use Rattle.std.proofs.lemmas.Bool.{and_parts, or_cases, or_left, or_right, false≢true, eqb-true, eq-eqb, cond-false, or_parts, and_from}
use Rattle.std.proofs.lemmas.List.Folds.{list_any-append}
use Rattle.pitch_fields.specs.declared.side.Side.{Side}
use Rattle.pitch_fields.specs.declared.side.Side.TheVariants.{Buy, Sell}
use Rattle.pitch_messages.specs.declared.order.Order.{Order}
use Rattle.pitch_model.specs.Book.{Book, empty_book}
use Rattle.pitch_model.specs.Levels.{orders_of, same_side, best_of, best, with_level}
use Rattle.best_quotes.specs.declared.quote.Quote.{Quote}
use Rattle.best_quotes.specs.Changes.{symbols_of, same_best, change_on, changes}
use Rattle.best_quotes.specs.LastBest.{is_for}

-- ---- Bests that are the same
pub same_best-equal : (p q : Option (ℕ × ℕ)) → same_best p q ≡ true → p ≡ q
same_best-equal None None e = refl
same_best-equal (Some p) (Some q) e =
    let parts = and_parts (p.0 == q.0) (p.1 == q.1) e in
    λ i. Some (eqb-true p.0 q.0 parts.0 i, eqb-true p.1 q.1 parts.1 i)
same_best-equal None (Some q) e = absurd (false≢true e)
same_best-equal (Some p) None e = absurd (false≢true e)

pub same_best-itself : (p : Option (ℕ × ℕ)) → same_best p p ≡ true
same_best-itself None = refl
same_best-itself (Some p) = ap (λ (t : Bool). t && p.1 == p.1) (eq-eqb p.0 p.0 refl) ∙ eq-eqb p.1 p.1 refl

-- ---- The symbols that are looked at
-- a key is found exactly where it stands
pub found_any : {X : Type 0} (q : List ℕ) (es : List (List ℕ × X)) → is_some (find (slice_cmp nat_cmp) q es) ≡ list_any (eq_by_cmp (slice_cmp nat_cmp) q) (map (λ e. e.0) es)
found_any q [] = refl
found_any {X} q (e ∷ es) = by (eq_by_cmp (slice_cmp nat_cmp) q e.0) (found_any q es)
  where
    by : (t : Bool) → is_some (find (slice_cmp nat_cmp) q es) ≡ list_any (eq_by_cmp (slice_cmp nat_cmp) q) (map (λ x. x.0) es)
        → is_some (cond t (Some e.1) (find (slice_cmp nat_cmp) q es)) ≡ (t || list_any (eq_by_cmp (slice_cmp nat_cmp) q) (map (λ x. x.0) es))
    by true rec = refl
    by false rec = rec

pub symbols_any : (orders : List Order) (q : List ℕ) → list_any (eq_by_cmp (slice_cmp nat_cmp) q) (symbols_of orders) ≡ list_any (λ order. eq_by_cmp (slice_cmp nat_cmp) q order.symbol) orders
symbols_any orders q =
    sym (found_any q (finite.entries (finite.from_entries {R = slice_cmp nat_cmp} (map (λ (order : Order). (order.symbol, order)) orders))))
    ∙ ap is_some (sym (finite.get-entries (finite.from_entries {R = slice_cmp nat_cmp} (map (λ (order : Order). (order.symbol, order)) orders)) q) ∙ finite.get-from_entries nat_list_cmp_total (map (λ (order : Order). (order.symbol, order)) orders) q)
    ∙ found_any q (map (λ (order : Order). (order.symbol, order)) orders)
    ∙ mapped orders
  where
    mapped : (xs : List Order) → list_any (eq_by_cmp (slice_cmp nat_cmp) q) (map (λ (e : List ℕ × Order). e.0) (map (λ (order : Order). (order.symbol, order)) xs)) ≡ list_any (λ order. eq_by_cmp (slice_cmp nat_cmp) q order.symbol) xs
    mapped [] = refl
    mapped (x ∷ xs) = ap (λ (b : Bool). eq_by_cmp (slice_cmp nat_cmp) q x.symbol || b) (mapped xs)

-- a side without an order of the symbol has no best
pub none_on : (book : Book) (symbol : List ℕ) (side : Side) → list_any (λ order. eq_by_cmp (slice_cmp nat_cmp) symbol order.symbol) (orders_of book) ≡ false → best book symbol side ≡ None
unfolding best
none_on book symbol side none = ap (λ (orders : List Order). option_map (with_level book symbol side) (best_of side (map (λ order. order.price) orders))) (empty (orders_of book) none)
  where
    empty : (xs : List Order) → list_any (λ order. eq_by_cmp (slice_cmp nat_cmp) symbol order.symbol) xs ≡ false → filter (λ order. bytes_eq symbol order.symbol && same_side side order.side) xs ≡ []
    empty [] e = refl
    empty (x ∷ xs) e =
        let parts = or_parts (eq_by_cmp (slice_cmp nat_cmp) symbol x.symbol) (list_any (λ order. eq_by_cmp (slice_cmp nat_cmp) symbol order.symbol) xs) e in
        let apart : bytes_eq symbol x.symbol ≡ false = sym (is_eq-slice_cmp symbol x.symbol) ∙ parts.0 in
        cond-false (bytes_eq symbol x.symbol && same_side side x.side) (x ∷ filter (λ order. bytes_eq symbol order.symbol && same_side side order.side) xs) (filter (λ order. bytes_eq symbol order.symbol && same_side side order.side) xs) (ap (λ (b : Bool). b && same_side side x.side) apart)
        ∙ empty xs parts.1

pub no_orders : orders_of empty_book ≡ []
no_orders = ap (map (λ (e : ℕ × Order). e.1)) (nil_from_length (finite.entries empty_book.orders) (sym (finite.len-entries empty_book.orders) ∙ finite.len-empty nat_cmp Order))

-- the empty book has no best
pub none_in_empty : (symbol : List ℕ) (side : Side) → best empty_book symbol side ≡ None
none_in_empty symbol side = none_on empty_book symbol side (ap (list_any (λ order. eq_by_cmp (slice_cmp nat_cmp) symbol order.symbol)) no_orders)

-- ---- Quotes of a symbol and side
module _ (symbol : List ℕ) (side : Side) where
  abbrev pub told : Option (ℕ × ℕ) → List Quote → Option (ℕ × ℕ)
  told first quotes = fold (λ before quote. cond (is_for symbol side quote) quote.best before) first quotes

  -- all quotes of the symbol and side give this best
  abbrev Give : Option (ℕ × ℕ) → List Quote → Type 0
  Give b quotes = AllByRecursion (λ quote. is_for symbol side quote ≡ true → quote.best ≡ b) quotes

  give-append : (b : Option (ℕ × ℕ)) (qs rs : List Quote) → Give b qs → Give b rs → Give b (qs ++ rs)
  give-append b [] rs g h = h
  give-append b (q ∷ qs) rs g h = (g.0, give-append b qs rs g.1 h)

  told-keeps : (b : Option (ℕ × ℕ)) (qs : List Quote) → Give b qs → told b qs ≡ b
  told-keeps b [] g = refl
  told-keeps b (q ∷ qs) g = ap (λ (x : Option (ℕ × ℕ)). told x qs) (by (is_for symbol side q) refl) ∙ told-keeps b qs g.1
    where
      by : (t : Bool) → is_for symbol side q ≡ t → cond t q.best b ≡ b
      by true e = g.0 e
      by false e = refl

  told-gives : (b x : Option (ℕ × ℕ)) (qs : List Quote) → Give b qs → list_any (is_for symbol side) qs ≡ true → told x qs ≡ b
  told-gives b x [] g any = absurd (false≢true any)
  told-gives b x (q ∷ qs) g any = by (is_for symbol side q) refl any (told-gives b x qs g.1)
    where
      by : (t : Bool) → is_for symbol side q ≡ t → (t || list_any (is_for symbol side) qs) ≡ true → (list_any (is_for symbol side) qs ≡ true → told x qs ≡ b) → told (cond t q.best x) qs ≡ b
      by true e any rec = ap (λ (y : Option (ℕ × ℕ)). told y qs) (g.0 e) ∙ told-keeps b qs g.1
      by false e any rec = rec any

pub same_side-equal : (s t : Side) → same_side s t ≡ true → s ≡ t
same_side-equal Buy Buy e = refl
same_side-equal Sell Sell e = refl
same_side-equal Buy Sell e = absurd (false≢true e)
same_side-equal Sell Buy e = absurd (false≢true e)

pub same_side-itself : (s : Side) → same_side s s ≡ true
same_side-itself Buy = refl
same_side-itself Sell = refl

pub bytes_eq-equal : (xs ys : List ℕ) → bytes_eq xs ys ≡ true → xs ≡ ys
bytes_eq-equal xs ys e = (bytes_eq-Decides xs ys).0 e

pub bytes_eq-itself : (xs : List ℕ) → bytes_eq xs xs ≡ true
bytes_eq-itself xs = (bytes_eq-Decides xs xs).1 refl

module _ (old new : Book) where
  abbrev pub both : List ℕ → List Quote
  both s = change_on old new s Buy ++ change_on old new s Sell

  module _ (symbol : List ℕ) (side : Side) where
    give_on : (s : List ℕ) (d : Side) → Give symbol side (best new symbol side) (change_on old new s d)
    give_on s d = by (same_best (best old s d) (best new s d))
      where
        by : (t : Bool) → Give symbol side (best new symbol side) (cond t [] (record { symbol = s; side = d; best = best new s d } ∷ []))
        by true = tt
        by false = (
          λ e. let parts = and_parts (bytes_eq symbol s) (same_side side d) e in
              ap (λ (x : List ℕ). best new x d) (sym (bytes_eq-equal symbol s parts.0)) ∙ ap (best new symbol) (sym (same_side-equal side d parts.1)),
          tt,
        )

    give_all : (ss : List (List ℕ)) → Give symbol side (best new symbol side) (flat_map both ss)
    give_all [] = tt
    give_all (s ∷ ss) =
        give-append symbol side (best new symbol side) (both s) (flat_map both ss)
        (give-append symbol side (best new symbol side) (change_on old new s Buy) (change_on old new s Sell) (give_on s Buy) (give_on s Sell)) (give_all ss)

    -- a best that differs is told
    one_on : same_best (best old symbol side) (best new symbol side) ≡ false → list_any (is_for symbol side) (change_on old new symbol side) ≡ true
    one_on e = ap (λ (qs : List Quote). list_any (is_for symbol side) qs) (cond-false (same_best (best old symbol side) (best new symbol side)) [] (record { symbol = symbol; side = side; best = best new symbol side } ∷ []) e)
        ∙ or_left (bytes_eq symbol symbol && same_side side side) false (and_from (bytes_eq symbol symbol) (same_side side side) (bytes_eq-itself symbol) (same_side-itself side))

    one_of_both : (d : Side) → d ≡ side → list_any (is_for symbol side) (change_on old new symbol d) ≡ true → list_any (is_for symbol side) (both symbol) ≡ true
    one_of_both Buy e one =
        list_any-append (is_for symbol side) (change_on old new symbol Buy) (change_on old new symbol Sell)
        ∙ or_left (list_any (is_for symbol side) (change_on old new symbol Buy)) (list_any (is_for symbol side) (change_on old new symbol Sell)) one
    one_of_both Sell e one =
        list_any-append (is_for symbol side) (change_on old new symbol Buy) (change_on old new symbol Sell)
        ∙ or_right (list_any (is_for symbol side) (change_on old new symbol Buy)) (list_any (is_for symbol side) (change_on old new symbol Sell)) one

    one_of_all : list_any (is_for symbol side) (both symbol) ≡ true → (ss : List (List ℕ)) → list_any (eq_by_cmp (slice_cmp nat_cmp) symbol) ss ≡ true → list_any (is_for symbol side) (flat_map both ss) ≡ true
    one_of_all one [] any = absurd (false≢true any)
    one_of_all one (s ∷ ss) any =
        list_any-append (is_for symbol side) (both s) (flat_map both ss)
        ∙ elim (or_cases (eq_by_cmp (slice_cmp nat_cmp) symbol s) (list_any (eq_by_cmp (slice_cmp nat_cmp) symbol) ss) any) [
          | inl here ↦ or_left (list_any (is_for symbol side) (both s)) (list_any (is_for symbol side) (flat_map both ss))
              (subst (λ (x : List ℕ). list_any (is_for symbol side) (both x) ≡ true) (bytes_eq-equal symbol s (sym (is_eq-slice_cmp symbol s) ∙ here)) one)
          | inr there ↦ or_right (list_any (is_for symbol side) (both s)) (list_any (is_for symbol side) (flat_map both ss)) (one_of_all one ss there)
        ]

    -- a symbol whose bests differ is looked at
    pub is_looked_at : same_best (best old symbol side) (best new symbol side) ≡ false → list_any (eq_by_cmp (slice_cmp nat_cmp) symbol) (symbols_of (orders_of old ++ orders_of new)) ≡ true
    is_looked_at e = symbols_any (orders_of old ++ orders_of new) symbol ∙ by (list_any (λ order. eq_by_cmp (slice_cmp nat_cmp) symbol order.symbol) (orders_of old ++ orders_of new)) refl
      where
        by : (t : Bool) → list_any (λ order. eq_by_cmp (slice_cmp nat_cmp) symbol order.symbol) (orders_of old ++ orders_of new) ≡ t → t ≡ true
        by true h = refl
        by false h =
            let parts = or_parts (list_any (λ order. eq_by_cmp (slice_cmp nat_cmp) symbol order.symbol) (orders_of old)) (list_any (λ order. eq_by_cmp (slice_cmp nat_cmp) symbol order.symbol) (orders_of new))
            (sym (list_any-append (λ order. eq_by_cmp (slice_cmp nat_cmp) symbol order.symbol) (orders_of old) (orders_of new)) ∙ h) in
            absurd (false≢true (sym e ∙ ap (λ (p : Option (ℕ × ℕ)). same_best p (best new symbol side)) (none_on old symbol side parts.0) ∙ ap (same_best None) (none_on new symbol side parts.1)))

    pub changes_tell : told symbol side (best old symbol side) (changes old new) ≡ best new symbol side
    unfolding changes
    changes_tell = by (same_best (best old symbol side) (best new symbol side)) refl
      where
        by : (t : Bool) → same_best (best old symbol side) (best new symbol side) ≡ t → told symbol side (best old symbol side) (flat_map both (symbols_of (orders_of old ++ orders_of new))) ≡ best new symbol side
        by true e =
            ap (λ (x : Option (ℕ × ℕ)). told symbol side x (flat_map both (symbols_of (orders_of old ++ orders_of new)))) (same_best-equal (best old symbol side) (best new symbol side) e)
            ∙ told-keeps symbol side (best new symbol side) (flat_map both (symbols_of (orders_of old ++ orders_of new))) (give_all (symbols_of (orders_of old ++ orders_of new)))
        by false e =
            told-gives symbol side (best new symbol side) (best old symbol side) (flat_map both (symbols_of (orders_of old ++ orders_of new))) (give_all (symbols_of (orders_of old ++ orders_of new)))
            (one_of_all (one_of_both side refl (one_on e)) (symbols_of (orders_of old ++ orders_of new)) (is_looked_at e))
