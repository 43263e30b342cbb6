-- The units that are heard, one by one.
use Rattle.std.proofs.Common.{◌≡◌, ◌∙◌, ◌<◌, ◌+◌, ◌||◌, ◌==◌, ◌++◌, ℕ, suc, Bool, true, false, List, [], ◌∷◌, length, take, slice_index_or, arith, refl, ap, if◌then◌else◌, inl, inr, subst}
use Rattle.std.proofs.Math.Seq.{take-suc}
use Rattle.std.proofs.lemmas.Bool.{cases_eq}
use Rattle.std.proofs.lemmas.Bool.Decides.{nat_tests}
use Rattle.std.proofs.lemmas.List.Folds.{list_any-append}
use Rattle.live_words.specs.Options.{are_apart, units_of}
use Rattle.live_setups.specs.Hearing.{with_unit, with_units}
use Rattle.live_setups.specs.Laws.{UnitsAreApart, UnitsAreNamed, is_among}

-- ---- the loop
-- the last one is added last
last_added : (units more : List ℕ) (unit : ℕ) → with_units units (more ++ unit ∷ []) ≡ with_unit (with_units units more) unit
last_added units [] unit = refl
last_added units (first ∷ more) unit = last_added (with_unit units first) more unit

-- the first ones are added, and one more
pub added : (units more : List ℕ) (i d : ℕ) → i < length more → with_units units (take (i + 1) more) ≡ with_unit (with_units units (take i more)) (slice_index_or more i d)
added units more i d lt =
    let e : i + 1 ≡ suc i = omega arith in
    ap (λ (n : ℕ). with_units units (take n more)) e ∙ ap (with_units units) (take-suc more i d lt) ∙ last_added units (take i more) (slice_index_or more i d)

-- ---- each once
-- one more that is none of those
apart_more : (units : List ℕ) (unit : ℕ) → are_apart units ≡ true → is_among units unit ≡ false → are_apart (units ++ unit ∷ []) ≡ true
apart_more [] unit apart new = refl
apart_more (first ∷ others) unit apart new =
    let rest = apart_more others unit (grind arith) (grind arith) in
    let e = list_any-append (λ (other : ℕ). other == first) others (unit ∷ []) in
    grind (arith, nat_tests)

apart_by : (known : Bool) (units : List ℕ) (unit : ℕ) → is_among units unit ≡ known → are_apart units ≡ true → are_apart (if known then units else units ++ unit ∷ []) ≡ true
apart_by true units unit is apart = apart
apart_by false units unit is apart = apart_more units unit apart is

units_apart : (units more : List ℕ) → are_apart units ≡ true → are_apart (with_units units more) ≡ true
units_apart units [] apart = apart
units_apart units (unit ∷ more) apart = units_apart (with_unit units unit) more (apart_by (is_among units unit) units unit refl apart)

-- ---- those
those_by : (known : Bool) (units : List ℕ) (unit other : ℕ) → is_among units unit ≡ known → is_among (if known then units else units ++ unit ∷ []) other ≡ (is_among units other || (unit == other))
those_by true units unit other is = elim (cases_eq unit other) [
  | inl same ↦ let there : is_among units other ≡ true = subst (λ (u : ℕ). is_among units u ≡ true) same is in grind (arith, nat_tests)
  | inr differ ↦ grind (arith, nat_tests)
]
those_by false units unit other is = let e = list_any-append (λ (one : ℕ). one == other) units (unit ∷ []) in grind arith

units_those : (units more : List ℕ) (unit : ℕ) → is_among (with_units units more) unit ≡ (is_among units unit || is_among more unit)
units_those units [] unit = grind arith
units_those units (first ∷ more) unit =
    let rest = units_those (with_unit units first) more unit in
    let step = those_by (is_among units first) units first unit refl in
    grind arith

-- ---- the units that are heard
pub heard_apart : UnitsAreApart
heard_apart asked =
    units_apart _ (units_of asked.servers.spin.items) (units_apart _ (units_of asked.servers.grp.items) (units_apart [] asked.units.items refl))

pub heard_named : UnitsAreNamed
heard_named asked unit =
    let named = with_units [] asked.units.items in
    let grp = units_of asked.servers.grp.items in
    let first = units_those [] asked.units.items unit in
    let second = units_those named grp unit in
    let third = units_those (with_units named grp) (units_of asked.servers.spin.items) unit in
    grind arith
