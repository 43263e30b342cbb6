-- Whether each of the units that are named has ended.
use Rattle.std.proofs.Common.{◌≡◌, ℕ, ◌+◌, ◌<◌, ◌≤◌, Bool, true, false, ◌&&◌, ◌==◌, List, [], ◌∷◌, length, get_or, take, refl, sym, ap, ◌∙◌, arith, true≢false}
use Rattle.std.specs.List.{list_all}
use Rattle.std.proofs.lemmas.Bool.{eqb-true}
use Rattle.std.proofs.lemmas.List.{take_all}
use Rattle.std.proofs.lemmas.List.Folds.{list_all_at, list_all_more}
use Rattle.live_units.specs.Coming.{LiveSetup, UnitCame}
use Rattle.live_units.specs.Ended.{has_ended, have_ended}

module _ (s : LiveSetup) (came : List UnitCame) (units : List ℕ) where
  abbrev HaveTo : ℕ → Type 0
  HaveTo count = list_all (λ (unit : ℕ). has_ended s unit came) (take count units) ≡ true

  module _ (i : ℕ) (within : i < length units) (ended : Bool) (is : ended ≡ has_ended s (get_or units i 0) came) where
    pub one_has_not : ended ≡ false → false ≡ list_all (λ (unit : ℕ). has_ended s unit came) units
    one_has_not none = sym (list_all_at (λ (unit : ℕ). has_ended s unit came) units i 0 within (sym is ∙ none))

    pub one_more : ended ≡ true → HaveTo i → HaveTo (i + 1)
    one_more so so_far =
        list_all_more (λ (unit : ℕ). has_ended s unit came) units i 0 within
        ∙ ap (λ (b : Bool). b && has_ended s (get_or units i 0) came) so_far ∙ sym is ∙ so

  pub all_have : (i : ℕ) → length units ≤ i → HaveTo i → true ≡ list_all (λ (unit : ℕ). has_ended s unit came) units
  all_have i all so_far = sym (sym (ap (list_all (λ (unit : ℕ). has_ended s unit came)) (take_all i units all)) ∙ so_far)

-- there are some, or none
pub some_have : (s : LiveSetup) (came : List UnitCame) (units : List ℕ) (ended : Bool) → (length units == 0) ≡ false → ended ≡ list_all (λ (unit : ℕ). has_ended s unit came) units → ended ≡ have_ended s units came
some_have s came [] ended some is = absurd (true≢false some)
some_have s came (unit ∷ units) ended some is = is

pub none_has : (s : LiveSetup) (came : List UnitCame) (units : List ℕ) → (length units == 0) ≡ true → false ≡ have_ended s units came
none_has s came [] none = refl
none_has s came (unit ∷ units) none = let many = eqb-true (length (unit ∷ units)) 0 none in absurd (omega (arith, many))
