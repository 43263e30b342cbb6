-- All orders go.
use Rattle.std.proofs.Common.{◌≡◌, ℕ, ◌||◌, ◌&&◌, ◌==◌, Bool, true, false, cond, List, [], ◌∷◌, ◌++◌, filter, None, Some, IsSome, refl, sym, ap, ◌∙◌, subst}
use Rattle.std.specs.List.{list_any, flat_map}
use Rattle.std.specs.List.Sorted.{IsStrictlySortedBy}
use Rattle.std.specs.Option.{is_some}
use Rattle.std.specs.Str.{bytes_eq}
use Rattle.std.specs.Map.{lookup, keys_of}
use Rattle.std.specs.BTreeSet.{BTreeSet}
use Rattle.std.specs.Ordering.{nat_cmp, eq_by_cmp}
use Rattle.std.specs.Cmp.Lexicographic.{slice_cmp}
use Rattle.std.specs.FinMap as finite
use Rattle.std.proofs.lemmas.Cmp.{nat_list_eq_equiv}
use Rattle.std.proofs.lemmas.Map.Text.{is_eq-slice_cmp}
use Rattle.std.proofs.lemmas.Bool.{false≢true, or_left, or_right, eqb-true}
use Rattle.pitch_fields.specs.declared.side.Side.{Side}
use Rattle.pitch_fields.specs.declared.side.Side.TheVariants.{Buy, Sell}
use Rattle.pitch_model.specs.Book.{Book, IsBook}
use Rattle.pitch_model.specs.Levels.{level, best, same_side, orders_of}
use Rattle.best_quotes.specs.Leveling.{Entries, Has, level_of, level_in, standing}
use Rattle.best_quotes.specs.layers.Turning.{bests_of, changes_between, no_bests, gone, HasSymbols}
use Rattle.best_quotes.specs.layers.Turning.{AreGone, Turned}
use Rattle.best_quotes.specs.declared.levels.Sides.{Sides}
use Rattle.best_quotes.specs.declared.quote.Quote.{Quote}
use Rattle.best_quotes.proofs.Besting.{none_open}
use Rattle.best_quotes.proofs.Listing.{changes_of}
use Rattle.best_quotes.proofs.Telling.{both, none_on, no_orders}
use Rattle.best_quotes.proofs.Turning.{stays_on}

-- a symbol for which something stands is one of the keys
pub has_symbol : (levels : Entries) (symbol : List ℕ) (side : Side) (price : ℕ) → IsSome (level_in levels symbol side price)
    → list_any (λ k. eq_by_cmp (slice_cmp nat_cmp) k symbol) (keys_of levels) ≡ true
has_symbol levels symbol side price some = by levels some
  where
    one : (e : List ℕ × Sides) (es : Entries) (t : Bool) → bytes_eq symbol e.0 ≡ t → is_some (level_of side price (cond t (Some e.1) (lookup (bytes_eq symbol) es))) ≡ true
        → (is_some (level_in es symbol side price) ≡ true → list_any (λ k. eq_by_cmp (slice_cmp nat_cmp) k symbol) (keys_of es) ≡ true)
        → (eq_by_cmp (slice_cmp nat_cmp) e.0 symbol || list_any (λ k. eq_by_cmp (slice_cmp nat_cmp) k symbol) (keys_of es)) ≡ true
    one e es true is some rec = or_left (eq_by_cmp (slice_cmp nat_cmp) e.0 symbol) (list_any (λ k. eq_by_cmp (slice_cmp nat_cmp) k symbol) (keys_of es))
        (is_eq-slice_cmp e.0 symbol ∙ nat_list_eq_equiv.symm e.0 symbol ∙ is)
    one e es false is some rec = or_right (eq_by_cmp (slice_cmp nat_cmp) e.0 symbol) (list_any (λ k. eq_by_cmp (slice_cmp nat_cmp) k symbol) (keys_of es)) (rec some)

    by : (es : Entries) → is_some (level_in es symbol side price) ≡ true → list_any (λ k. eq_by_cmp (slice_cmp nat_cmp) k symbol) (keys_of es) ≡ true
    by [] some = absurd (false≢true some)
    by (e ∷ es) some = one e es (bytes_eq symbol e.0) refl some (by es)

each_same : (f g : List ℕ → List Quote) → ((s : List ℕ) → f s ≡ g s) → (ss : List (List ℕ)) → flat_map f ss ≡ flat_map g ss
each_same f g same [] = refl
each_same f g same (s ∷ ss) = ap (λ (l : List Quote). l ++ flat_map f ss) (same s) ∙ ap (λ (l : List Quote). g s ++ l) (each_same f g same ss)

pub turned_all : (old new : Book) → AreGone new → IsBook old → IsBook new → (levels levels' : Entries) (symbols : BTreeSet (List ℕ)) (told told' : List Quote) → Has levels (level old) → HasSymbols levels symbols
    → IsStrictlySortedBy (slice_cmp nat_cmp) symbols.keys → told' ≡ told ++ gone old symbols.keys → levels' ≡ [] → Turned old new levels' told told'
turned_all old new empties is is' levels levels' symbols told told' has have rise tells empty = record {
  has = λ symbol side price. ap (λ (es : Entries). level_in es symbol side price) empty ∙ ap standing (sym (none symbol side price));
  tells = tells ∙ ap (λ (l : List Quote). told ++ l) (each_same (λ s. changes_between s (bests_of old s) no_bests) (both old new) (λ s. ap (changes_between s (bests_of old s)) (sym (no_best s))) symbols.keys
      ∙ sym (changes_of old new symbols.keys rise (λ q out. stays_on old new is is' q (λ side price. none q side price ∙ sym (no_level q out side price)))));
}
  where
    no_order : orders_of new ≡ []
    no_order = ap finite.values empties ∙ no_orders

    none : (symbol : List ℕ) (side : Side) (price : ℕ) → level new symbol side price ≡ 0
    none symbol side price = none_open new is' symbol side price (ap (filter (λ order. bytes_eq symbol order.symbol && same_side side order.side)) no_order)

    no_best_on : (symbol : List ℕ) (side : Side) → best new symbol side ≡ None
    no_best_on symbol side = none_on new symbol side (ap (list_any (λ order. eq_by_cmp (slice_cmp nat_cmp) symbol order.symbol)) no_order)

    no_best : (symbol : List ℕ) → bests_of new symbol ≡ no_bests
    no_best symbol = λ i. record { buy = no_best_on symbol Buy i; sell = no_best_on symbol Sell i }

    found : (n : ℕ) (t : Bool) → (n == 0) ≡ t → (IsSome (cond t None (Some n)) → ⊥) → n ≡ 0
    found n true e not = eqb-true n 0 e
    found n false e not = absurd (not refl)

    no_level : (q : List ℕ) → list_any (eq_by_cmp (slice_cmp nat_cmp) q) symbols.keys ≡ false → (side : Side) (price : ℕ) → level old q side price ≡ 0
    no_level q out side price = found (level old q side price) (level old q side price == 0) refl
        (λ some. false≢true (sym out ∙ have q side price (subst IsSome (sym (has q side price)) some)))
