-- The best of some prices is one of them, and no other is better.
use Rattle.std.proofs.Common.{◌≡◌, ℕ, true, ◌⊎◌, List, [], ◌∷◌, map, eqb, refl, sym, ap, ◌∙◌, subst, inl, inr, arith, Option, Some, None}
use Rattle.std.proofs.lemmas.Option.{none-some, same_Some}
use Rattle.std.specs.Option.{option_map, option_map_or}
use Rattle.std.specs.Set.{is_member}
use Rattle.std.proofs.lemmas.Bool.{or_cases, or_left, or_right, false≢true, eqb-true, eq-eqb, cases_lt}
use Rattle.pitch_fields.specs.declared.side.Side.{Side}
use Rattle.pitch_fields.specs.declared.side.Side.TheVariants.{Buy, Sell}
use Rattle.pitch_messages.specs.declared.order.Order.{Order}
use Rattle.pitch_model.specs.Book.{Book}
use Rattle.pitch_model.specs.Levels.{better, best_of, IsBestOf, best, level, with_level, orders_on, prices_on}

either : (side : Side) (p q : ℕ) → (better side p q ≡ p) ⊎ (better side p q ≡ q)
either Buy p q = elim (cases_lt p q) [ inl below ↦ inr (omega arith) | inr above ↦ inl (omega arith) ]
either Sell p q = elim (cases_lt p q) [ inl below ↦ inl (omega arith) | inr above ↦ inr (omega arith) ]

over_first : (side : Side) (p q : ℕ) → better side (better side p q) p ≡ better side p q
over_first Buy p q = omega arith
over_first Sell p q = omega arith

over_second : (side : Side) (p q r : ℕ) → better side q r ≡ q → better side (better side p q) r ≡ better side p q
over_second Buy p q r e = omega arith
over_second Sell p q r e = omega arith

over_itself : (side : Side) (p : ℕ) → better side p p ≡ p
over_itself Buy p = omega arith
over_itself Sell p = omega arith

pub best_of-none : (side : Side) (ps : List ℕ) → best_of side ps ≡ None → ps ≡ []
best_of-none side [] e = refl
best_of-none side (p ∷ ps) e = absurd (none-some (option_map_or (better side p) (best_of side ps) p) (sym e))

pub best_of-some : (side : Side) (ps : List ℕ) (p : ℕ) → best_of side ps ≡ Some p → IsBestOf side ps p
best_of-some side [] p e = absurd (none-some p e)
best_of-some side (x ∷ xs) p e = by (best_of side xs) refl e (λ b. best_of-some side xs b)
  where
    alone : (q : ℕ) → xs ≡ [] → is_member eqb (x ∷ xs) q ≡ true → q ≡ x
    alone q none m = elim (or_cases (eqb q x) (is_member eqb xs q) m) [
      | inl here ↦ eqb-true q x here
      | inr there ↦ absurd (false≢true (ap (λ (ys : List ℕ). is_member eqb ys q) (sym none) ∙ there))
    ]

    of_two : (b : ℕ) → IsBestOf side xs b → IsBestOf side (x ∷ xs) (better side x b)
    of_two b B = record {
      stands = elim (either side x b) [
        | inl first ↦ or_left (eqb (better side x b) x) (is_member eqb xs (better side x b)) (eq-eqb (better side x b) x first)
        | inr second ↦ or_right (eqb (better side x b) x) (is_member eqb xs (better side x b)) (subst (λ (q : ℕ). is_member eqb xs q ≡ true) (sym second) B.stands)
      ];
      none_better = λ q m. elim (or_cases (eqb q x) (is_member eqb xs q) m) [
        | inl here ↦ ap (better side (better side x b)) (eqb-true q x here) ∙ over_first side x b
        | inr there ↦ over_second side x b q (B.none_better q there)
      ];
    }

    by : (o : Option ℕ) → best_of side xs ≡ o → Some (option_map_or (better side x) o x) ≡ Some p → ((b : ℕ) → best_of side xs ≡ Some b → IsBestOf side xs b) → IsBestOf side (x ∷ xs) p
    by None f g rec =
        let none = best_of-none side xs f in
        subst (IsBestOf side (x ∷ xs)) (same_Some x p g) (record {
          stands = or_left (eqb x x) (is_member eqb xs x) (eq-eqb x x refl);
          none_better = λ q m. ap (better side x) (alone q none m) ∙ over_itself side x;
        })
    by (Some b) f g rec = subst (IsBestOf side (x ∷ xs)) (same_Some (better side x b) p g) (of_two b (rec b f))

no_prices : (orders : List Order) → map (λ order. order.price) orders ≡ [] → orders ≡ []
no_prices [] e = refl
no_prices (order ∷ orders) e = absurd (cons_nil order.price (map (λ order. order.price) orders) e)
  where
    cons_nil : (p : ℕ) (ps : List ℕ) → p ∷ ps ≡ [] → ⊥
    cons_nil p ps e = cc

-- no best price stands exactly where the side has no order
pub best-none : (book : Book) (symbol : List ℕ) (side : Side) → best book symbol side ≡ None → orders_on book symbol side ≡ []
unfolding best
best-none book symbol side e = no_prices (orders_on book symbol side) (best_of-none side (prices_on book symbol side) (by (best_of side (prices_on book symbol side)) e))
  where
    by : (o : Option ℕ) → option_map (with_level book symbol side) o ≡ None → o ≡ None
    by None e = refl
    by (Some p) e = absurd (pair_none (p, level book symbol side p) e)
      where
        pair_none : (pair : ℕ × ℕ) → ◌≡◌ {A = Option (ℕ × ℕ)} (Some pair) None → ⊥
        pair_none pair e = cc

pub best-some : (book : Book) (symbol : List ℕ) (side : Side) (p shares : ℕ) → best book symbol side ≡ Some (p, shares) → IsBestOf side (prices_on book symbol side) p × (shares ≡ level book symbol side p)
unfolding best
best-some book symbol side p shares e = by (best_of side (prices_on book symbol side)) refl e
  where
    by : (o : Option ℕ) → best_of side (prices_on book symbol side) ≡ o → option_map (with_level book symbol side) o ≡ Some (p, shares) → IsBestOf side (prices_on book symbol side) p × (shares ≡ level book symbol side p)
    by None f g = absurd (none_pair (p, shares) g)
      where
        none_pair : (pair : ℕ × ℕ) → ◌≡◌ {A = Option (ℕ × ℕ)} None (Some pair) → ⊥
        none_pair pair e = cc
    by (Some q) f g =
        let same : q ≡ p = firsts (q, level book symbol side q) (p, shares) g in
        (best_of-some side (prices_on book symbol side) p (f ∙ ap Some same), sym (seconds (q, level book symbol side q) (p, shares) g) ∙ ap (level book symbol side) same)
      where
        firsts : (x y : ℕ × ℕ) → Some x ≡ Some y → x.0 ≡ y.0
        firsts x y e = ap (λ (o : Option (ℕ × ℕ)). option_map_or (λ pair. pair.0) o x.0) e

        seconds : (x y : ℕ × ℕ) → Some x ≡ Some y → x.1 ≡ y.1
        seconds x y e = ap (λ (o : Option (ℕ × ℕ)). option_map_or (λ pair. pair.1) o x.1) e
