-- Levels and told changes after a message that moves one order.
use Rattle.std.proofs.Common.{◌≡◌, ℕ, ◌==◌, ◌&&◌, Bool, true, false, cond, List, [], ◌∷◌, ◌++◌, filter, sum_by, Option, None, Some, refl, sym, ap, ◌∙◌, arith, inl, inr, append_assoc}
use Rattle.std.specs.List.{list_any}
use Rattle.std.specs.List.Sorted.{IsStrictlySortedBy}
use Rattle.std.specs.Str.{bytes_eq}
use Rattle.std.specs.declared.cmp.Ordering.TheVariants.{Less}
use Rattle.std.specs.Ordering.{nat_cmp, eq_by_cmp}
use Rattle.std.specs.Cmp.Lexicographic.{slice_cmp}
use Rattle.std.specs.FinMap as finite
use Rattle.std.proofs.lemmas.Bool.{false≢true, or_parts}
use Rattle.std.proofs.lemmas.List.{append-nil}
use Rattle.std.proofs.lemmas.Map.Text.{is_eq-slice_cmp}
use Rattle.pitch_fields.specs.declared.side.Side.{Side}
use Rattle.pitch_fields.specs.declared.side.Side.TheVariants.{Buy, Sell}
use Rattle.pitch_messages.specs.declared.order.Order.{Order}
use Rattle.pitch_model.specs.Book.{Book, IsBook}
use Rattle.pitch_model.specs.Levels.{level, best, same_side}
use Rattle.pitch_model.proofs.Prices.{best-some, best-none}
use Rattle.best_quotes.specs.Balance.{shares_of}
use Rattle.best_quotes.specs.Changes.{same_best, change_between, change_on, changes}
use Rattle.best_quotes.specs.Leveling.{Entries, Has, IsOn, MovesLevels, TurnsSide, moved, standing}
use Rattle.best_quotes.specs.layers.Turning.{bests_of, changes_between, Becomes, Turns, TurnsOrder}
use Rattle.best_quotes.specs.layers.Turning.{IsOf, IsOfTwo}
use Rattle.best_quotes.specs.declared.quote.Quote.{Quote}
use Rattle.best_quotes.specs.declared.bests.Bests.{Bests}
use Rattle.best_quotes.proofs.Balancing.{level_removed}
use Rattle.best_quotes.proofs.Besting.{nearest_is_best, level_is_best, no_level_no_best, none_open, level_has_order, price_has_level}
use Rattle.best_quotes.proofs.Listing.{changes_of, both_stay}
use Rattle.best_quotes.proofs.Sided.{shares_off}
use Rattle.best_quotes.proofs.Telling.{both, same_best-itself}

-- ---- Levels
module _ (old new : Book) (id : ℕ) (before now : Option Order) (becomes : Becomes old new id before now) where
  moved_level : (symbol : List ℕ) (side : Side) (price : ℕ) → moved before now (level old) symbol side price ≡ level new symbol side price
  moved_level symbol side price =
      let removed = level_removed symbol side price old id in
      let moves = becomes.moves symbol side price in
      let was = ap (shares_of symbol side price) becomes.was in
      let is = ap (shares_of symbol side price) becomes.is in
      omega arith

  pub has_moved : (levels : Entries) → Has levels (moved before now (level old)) → Has levels (level new)
  has_moved levels has symbol side price = has symbol side price ∙ ap standing (moved_level symbol side price)

  -- a symbol of which neither order is keeps its levels
  none_of : (symbol : List ℕ) (side : Side) (price : ℕ) (o : Option Order) → ((order : Order) → o ≡ Some order → bytes_eq symbol order.symbol ≡ false) → shares_of symbol side price o ≡ 0
  none_of symbol side price None apart = refl
  none_of symbol side price (Some order) apart = ap (λ (t : Bool). cond (t && same_side side order.side) (cond (price == order.price) order.quantity 0) 0) (apart order refl)

  pub level_stays : (symbol : List ℕ) → ((order : Order) → before ≡ Some order → bytes_eq symbol order.symbol ≡ false) → ((order : Order) → now ≡ Some order → bytes_eq symbol order.symbol ≡ false)
      → (side : Side) (price : ℕ) → level new symbol side price ≡ level old symbol side price
  level_stays symbol apart apart' side price =
      let moves = becomes.moves symbol side price in
      let was = ap (shares_of symbol side price) becomes.was ∙ none_of symbol side price before apart in
      let is = ap (shares_of symbol side price) becomes.is ∙ none_of symbol side price now apart' in
      omega arith

-- the best of a side is in its levels
pub same_levels : (old new : Book) → IsBook old → IsBook new → (symbol : List ℕ) (side : Side) → ((price : ℕ) → level new symbol side price ≡ level old symbol side price) → best old symbol side ≡ best new symbol side
same_levels old new is is' symbol side same = by (best old symbol side) refl
  where
    by : (o : Option (ℕ × ℕ)) → best old symbol side ≡ o → o ≡ best new symbol side
    by None e = no_level_no_best new is' symbol side (λ q. same q ∙ none_open old is symbol side q (best-none old symbol side e))
    by (Some found) e =
        let was = best-some old symbol side found.0 found.1 e in
        let some = price_has_level old is symbol side found.0 was.0.stands in
        level_is_best new is' symbol side found.0 found.1 (same found.0 ∙ sym was.1) (λ zero. let z = was.1 in absurd (omega arith))
        (λ q has. was.0.none_better q (level_has_order old is symbol side q (λ zero. let s = same q in absurd (omega arith))))

-- ---- One symbol
module _ (old new : Book) (is : IsBook old) (is' : IsBook new) where
  pub stays_on : (symbol : List ℕ) → ((side : Side) (price : ℕ) → level new symbol side price ≡ level old symbol side price) → both old new symbol ≡ []
  stays_on symbol same = both_stay old new symbol (λ side. ap (λ (o : Option (ℕ × ℕ)). same_best o (best new symbol side)) (same_levels old new is is' symbol side (same side)) ∙ same_best-itself (best new symbol side))

  rise_one : (symbol : List ℕ) → IsStrictlySortedBy (slice_cmp nat_cmp) (symbol ∷ [])
  unfolding IsStrictlySortedBy
  rise_one symbol = (tt, tt)

  not_it : (q symbol : List ℕ) → list_any (eq_by_cmp (slice_cmp nat_cmp) q) (symbol ∷ []) ≡ false → bytes_eq q symbol ≡ false
  not_it q symbol none = by (eq_by_cmp (slice_cmp nat_cmp) q symbol) refl none
    where
      by : (t : Bool) → eq_by_cmp (slice_cmp nat_cmp) q symbol ≡ t → list_any (λ (u : Unit {0}). t) (tt ∷ []) ≡ false → bytes_eq q symbol ≡ false
      by true e none = absurd (false≢true (sym none))
      by false e none = sym (is_eq-slice_cmp q symbol) ∙ e

  pub changes_one : (symbol : List ℕ) → ((q : List ℕ) → bytes_eq q symbol ≡ false → (side : Side) (price : ℕ) → level new q side price ≡ level old q side price) → changes old new ≡ both old new symbol
  changes_one symbol outside =
      changes_of old new (symbol ∷ []) (rise_one symbol) (λ q none. stays_on q (outside q (not_it q symbol none)))
      ∙ append-nil (both old new symbol)

  not_these : (q first second : List ℕ) → list_any (eq_by_cmp (slice_cmp nat_cmp) q) (first ∷ second ∷ []) ≡ false → (bytes_eq q first ≡ false) × (bytes_eq q second ≡ false)
  not_these q first second none =
      let parts = or_parts (eq_by_cmp (slice_cmp nat_cmp) q first) (list_any (eq_by_cmp (slice_cmp nat_cmp) q) (second ∷ [])) none in
      (sym (is_eq-slice_cmp q first) ∙ parts.0, not_it q second parts.1)

  rise_two : (first second : List ℕ) → slice_cmp nat_cmp first second ≡ Less → IsStrictlySortedBy (slice_cmp nat_cmp) (first ∷ second ∷ [])
  unfolding IsStrictlySortedBy
  rise_two first second less = ((less, tt), (tt, tt))

  rise_none : IsStrictlySortedBy (slice_cmp nat_cmp) []
  unfolding IsStrictlySortedBy
  rise_none = tt

  pub changes_none : ((q : List ℕ) (side : Side) (price : ℕ) → level new q side price ≡ level old q side price) → changes old new ≡ []
  changes_none same = changes_of old new [] rise_none (λ q none. stays_on q (same q))

  pub changes_two : (first second : List ℕ) → slice_cmp nat_cmp first second ≡ Less → ((q : List ℕ) → bytes_eq q first ≡ false → bytes_eq q second ≡ false → (side : Side) (price : ℕ) → level new q side price ≡ level old q side price)
      → changes old new ≡ both old new first ++ both old new second
  changes_two first second less outside =
      changes_of old new (first ∷ second ∷ []) (rise_two first second less) (λ q none. let parts = not_these q first second none in stays_on q (outside q parts.0 parts.1))
      ∙ ap (λ (l : List Quote). both old new first ++ l) (append-nil (both old new second))

same_of : (symbol : List ℕ) (o : Option Order) → IsOf symbol o → (q : List ℕ) → bytes_eq q symbol ≡ false → (order : Order) → o ≡ Some order → bytes_eq q order.symbol ≡ false
same_of symbol None of q apart order e = absurd (let n : ◌≡◌ {A = Option Order} None (Some order) = e in cc)
same_of symbol (Some x) of q apart order e = ap (bytes_eq q) (sym (ap symbol_of e) ∙ of) ∙ apart
  where
    symbol_of : Option Order → List ℕ
    symbol_of None = []
    symbol_of (Some y) = y.symbol

pub turned_one : (old new : Book) (id : ℕ) (before now : Option Order) (symbol : List ℕ) (levels levels' : Entries) (told told' : List Quote) (bests bests' : Bests)
    → Becomes old new id before now → IsOf symbol before → IsOf symbol now
    → ((book : Book) → IsBook book → Has levels (level book) → bests ≡ bests_of book symbol) → ((book : Book) → IsBook book → Has levels' (level book) → bests' ≡ bests_of book symbol)
    → MovesLevels before now levels levels' → told' ≡ told ++ changes_between symbol bests bests' → Turns old new levels levels' told told'
turned_one old new id before now symbol levels levels' told told' bests bests' becomes of of' first then moves tells is is' has =
    let has' = has_moved old new id before now becomes levels' (moves (level old) has) in
    record {
      has = has';
      tells = tells ∙ ap (λ (b : Bests). told ++ changes_between symbol b bests') (first old is has) ∙ ap (λ (b : Bests). told ++ changes_between symbol (bests_of old symbol) b) (then new is' has')
          ∙ ap (λ (l : List Quote). told ++ l) (sym (changes_one old new is is' symbol (λ q apart. level_stays old new id before now becomes q (same_of symbol before of q apart) (same_of symbol now of' q apart))));
    }

-- ---- One side of a symbol
same_on : (symbol : List ℕ) (side : Side) (o : Option Order) → IsOn symbol side o → IsOf symbol o
same_on symbol side None on = tt
same_on symbol side (Some order) on = on.0

-- only one side of a symbol is told
changes_side : (old new : Book) → IsBook old → IsBook new → (id : ℕ) (before now : Option Order) → Becomes old new id before now → (symbol : List ℕ) (side : Side)
    → IsOn symbol side before → IsOn symbol side now → changes old new ≡ change_on old new symbol side
changes_side old new is is' id before now becomes symbol side on on' =
    changes_one old new is is' symbol (λ q apart.
    level_stays old new id before now becomes q (same_of symbol before (same_on symbol side before on) q apart) (same_of symbol now (same_on symbol side now on') q apart))
    ∙ by side on on'
  where
    -- the other side keeps its levels
    quiet : (side : Side) → IsOn symbol side before → IsOn symbol side now → (other : Side) → same_side other side ≡ false → change_on old new symbol other ≡ []
    quiet side on on' other apart =
        ap (λ (t : Bool). cond t [] (record { symbol = symbol; side = other; best = best new symbol other } ∷ []))
        (ap (λ (o : Option (ℕ × ℕ)). same_best o (best new symbol other)) (same_levels old new is is' symbol other (λ price.
        let moves = becomes.moves symbol other price in
        let off : (bytes_eq symbol symbol && same_side other side) ≡ false = ap (λ (t : Bool). bytes_eq symbol symbol && t) apart ∙ and_false (bytes_eq symbol symbol) in
        let was = ap (shares_of symbol other price) becomes.was ∙ shares_off symbol side before on symbol other price off in
        let is = ap (shares_of symbol other price) becomes.is ∙ shares_off symbol side now on' symbol other price off in
        omega arith)) ∙ same_best-itself (best new symbol other))
      where
        and_false : (t : Bool) → (t && false) ≡ false
        and_false true = refl
        and_false false = refl

    by : (side : Side) → IsOn symbol side before → IsOn symbol side now → both old new symbol ≡ change_on old new symbol side
    by Buy on on' = ap (λ (l : List Quote). change_on old new symbol Buy ++ l) (quiet Buy on on' Sell refl) ∙ append-nil (change_on old new symbol Buy)
    by Sell on on' = ap (λ (l : List Quote). l ++ change_on old new symbol Sell) (quiet Sell on on' Buy refl)

pub turned_side : (symbol : List ℕ) (side : Side) (before now : Option Order) (levels levels' : Entries) (told told' : List Quote) (bests : Option (ℕ × ℕ) × Option (ℕ × ℕ))
    → IsOn symbol side before → IsOn symbol side now → TurnsSide levels levels' symbol side before now bests
    → told' ≡ told ++ change_between symbol side bests.0 bests.1 → TurnsOrder before now levels levels' told told'
turned_side symbol side before now levels levels' told told' bests on on' turns tells old new id becomes is is' has =
    let has' = has_moved old new id before now becomes levels' (turns.moves (level old) has) in
    let was = nearest_is_best levels symbol side old is has bests.0 turns.was in
    let now_is = nearest_is_best levels' symbol side new is' has' bests.1 turns.is in
    record {
      has = has';
      tells = tells
          ∙ ap (λ (b : Option (ℕ × ℕ)). told ++ change_between symbol side b bests.1) was
          ∙ ap (λ (b : Option (ℕ × ℕ)). told ++ change_between symbol side (best old symbol side) b) now_is
          ∙ ap (λ (l : List Quote). told ++ l) (sym (changes_side old new is is' id before now becomes symbol side on on'));
    }

of_two : (first second : List ℕ) (o : Option Order) → IsOfTwo first second o → (q : List ℕ) → bytes_eq q first ≡ false → bytes_eq q second ≡ false → (order : Order) → o ≡ Some order → bytes_eq q order.symbol ≡ false
of_two first second None of q apart apart' order e = absurd (let n : ◌≡◌ {A = Option Order} None (Some order) = e in cc)
of_two first second (Some x) of q apart apart' order e = ap (bytes_eq q) (sym (ap symbol_of e)) ∙ elim of [
  | inl here ↦ ap (bytes_eq q) here ∙ apart
  | inr there ↦ ap (bytes_eq q) there ∙ apart'
]
  where
    symbol_of : Option Order → List ℕ
    symbol_of None = []
    symbol_of (Some y) = y.symbol

pub turned_two : (old new : Book) (id : ℕ) (before now : Option Order) (first second : List ℕ) (levels levels' : Entries) (told told' told'' : List Quote) (a a' b b' : Bests)
    → slice_cmp nat_cmp first second ≡ Less → Becomes old new id before now → IsOfTwo first second before → IsOfTwo first second now
    → ((book : Book) → IsBook book → Has levels (level book) → a ≡ bests_of book first) → ((book : Book) → IsBook book → Has levels' (level book) → a' ≡ bests_of book first)
    → ((book : Book) → IsBook book → Has levels (level book) → b ≡ bests_of book second) → ((book : Book) → IsBook book → Has levels' (level book) → b' ≡ bests_of book second)
    → MovesLevels before now levels levels' → told' ≡ told ++ changes_between first a a' → told'' ≡ told' ++ changes_between second b b' → Turns old new levels levels' told told''
turned_two old new id before now first second levels levels' told told' told'' a a' b b' less becomes of of' was_a is_a was_b is_b moves tells tells' is is' has =
    let has' = has_moved old new id before now becomes levels' (moves (level old) has) in
    let one : changes_between first a a' ≡ both old new first = ap (λ (x : Bests). changes_between first x a') (was_a old is has) ∙ ap (changes_between first (bests_of old first)) (is_a new is' has') in
    let two : changes_between second b b' ≡ both old new second = ap (λ (x : Bests). changes_between second x b') (was_b old is has) ∙ ap (changes_between second (bests_of old second)) (is_b new is' has') in
    record {
      has = has';
      tells = tells' ∙ ap (λ (l : List Quote). l ++ changes_between second b b') tells
          ∙ append_assoc told (changes_between first a a') (changes_between second b b')
          ∙ ap (λ (l : List Quote). told ++ (l ++ changes_between second b b')) one
          ∙ ap (λ (l : List Quote). told ++ (both old new first ++ l)) two
          ∙ ap (λ (l : List Quote). told ++ l) (sym (changes_two old new is is' first second less (λ q apart apart'. level_stays old new id before now becomes q (of_two first second before of q apart apart') (of_two first second now of' q apart apart'))));
    }

pub turned_none : (old new : Book) (id : ℕ) (levels : Entries) (told : List Quote) → Becomes old new id None None → Turns old new levels levels told told
turned_none old new id levels told becomes is is' has =
    let same : (q : List ℕ) (side : Side) (price : ℕ) → level new q side price ≡ level old q side price =
    λ q side price. sym (moved_level old new id None None becomes q side price) ∙ omega arith in
    record {
      has = λ symbol side price. has symbol side price ∙ ap standing (sym (same symbol side price));
      tells = sym (append-nil told) ∙ ap (λ (l : List Quote). told ++ l) (sym (changes_none old new is is' same));
    }

orders_only : (book other : Book) (q : List ℕ) (side : Side) (price : ℕ) → book.orders ≡ other.orders → level book q side price ≡ level other q side price
unfolding level
orders_only book other q side price same = ap (λ (m : finite.FinMap nat_cmp Order). sum_by (λ order. order.quantity) (filter (λ order. price == order.price) (filter (λ order. bytes_eq q order.symbol && same_side side order.side) (finite.values m)))) same

-- where the orders stay, so do the levels, and nothing is told
pub turned_still : (old new : Book) (levels : Entries) (told : List Quote) → new.orders ≡ old.orders → Turns old new levels levels told told
turned_still old new levels told still is is' has = record {
  has = λ symbol side price. has symbol side price ∙ ap standing (sym (same symbol side price));
  tells = sym (append-nil told) ∙ ap (λ (l : List Quote). told ++ l) (sym (changes_none old new is is' same));
}
  where
    same : (q : List ℕ) (side : Side) (price : ℕ) → level new q side price ≡ level old q side price
    same q side price = orders_only new old q side price still
