-- What stands of the ends once something came to one of them.
use Rattle.std.proofs.Common.{◌≡◌, ◌≢◌, ℕ, zero, suc, ◌<◌, ◌≤◌, inl, inr, Bool, true, false, cond, List, [], ◌∷◌, length, eqb, refl, sym, ap, ◌∙◌, subst, arith, Option, Some, None, get_or, slice_get}
use Rattle.std.proofs.Math.ListN.{set, length-set}
use Rattle.std.proofs.lemmas.Bool.{cases_eq, eq-eqb, ne_eqb}
use Rattle.std.proofs.lemmas.Option.{none-some, same_Some, slice_get_cases, slice_get_past, slice_get_read, slice_get_within}
use Rattle.std.specs.Option.{option_map}
use Rattle.std.specs.Vec.{with_item}
use Rattle.pitch_fields.proofs.Lists.{get_set}
use Rattle.venue_end.specs.Came.{VenueCame, VenueState, AllCut, Beaten, venue_after}
use Rattle.venue_end.specs.Stands.{OfVenue, StandsStill, VenueStands}
use Rattle.venue_end.specs.Stands as end
use Rattle.venue_end.specs.declared.setup.VenueSetup.{VenueSetup}
use Rattle.venue_end.specs.declared.venue.VenueEnd.{VenueEnd}
use Rattle.venue_units.specs.Coming.{UnitCame, came_to, to_unit}
use Rattle.venue_units.specs.Places.{seen_of}
use Rattle.venue_units.specs.Units.{Comes, ComesAndCuts, IfNoUnit, IsEndOf, OfUnit, OfUnits, StandStill, UnitsStand}
use Rattle.venue_units.specs.declared.units.VenueUnits.{VenueUnits}

-- ---- All that came to one end
pub came_here : (at : ℕ) (came : VenueCame) (all : List UnitCame) → came_to at (to_unit at came ∷ all) ≡ came ∷ came_to at all
came_here at came all = ap (λ (b : Bool). cond b (came ∷ came_to at all) (came_to at all)) (eq-eqb at at refl)

pub came_elsewhere : (at other : ℕ) (came : VenueCame) (all : List UnitCame) → other ≢ at → came_to other (to_unit at came ∷ all) ≡ came_to other all
came_elsewhere at other came all apart = ap (λ (b : Bool). cond b (came ∷ came_to other all) (came_to other all)) (ne_eqb at other (λ same. apart (sym same)))

-- ---- One end of all is another
get_other : {A : Type 0} (xs : List A) (i q : ℕ) (y : A) → q ≢ i → slice_get (set xs i y) q ≡ slice_get xs q
get_other [] i q y apart = refl
get_other (x ∷ xs) zero zero y apart = absurd (apart refl)
get_other (x ∷ xs) zero (suc q) y apart = refl
get_other (x ∷ xs) (suc i) zero y apart = refl
get_other (x ∷ xs) (suc i) (suc q) y apart = get_other xs i q y (λ same. apart (ap suc same))

abbrev pub with_end : VenueUnits → ℕ → VenueEnd → VenueUnits
with_end u at e = record { ends = with_item u.ends at e }

-- what came to the others is what came to them before
stands_with : (s : List VenueSetup) (u : VenueUnits) (at : ℕ) (e e' : VenueEnd) (all all' : List UnitCame) → slice_get u.ends.items at ≡ Some e → UnitsStand s u all
    → ((other : ℕ) → other ≢ at → came_to other all' ≡ came_to other all) → ((setup : VenueSetup) → VenueStands setup e (came_to at all) → VenueStands setup e' (came_to at all')) → UnitsStand s (with_end u at e') all'
stands_with s u at e e' all all' there st others here = record {
  many = length-set u.ends.items at e' ∙ st.many;
  each = λ other setup end is stood. elim (cases_eq other at) [
    | inl same ↦
        let put : slice_get (set u.ends.items at e') at ≡ Some e' = get_set u.ends.items at e' (slice_get_within u.ends.items at e there) in
        let left : end ≡ e' = same_Some end e' (sym stood ∙ ap (slice_get (set u.ends.items at e')) same ∙ put) in
        subst (λ (n : ℕ). VenueStands setup end (came_to n all')) (sym same)
        (subst (λ (x : VenueEnd). VenueStands setup x (came_to at all')) (sym left) (here setup (st.each at setup e (sym (ap (slice_get s) same) ∙ is) there)))
    | inr apart ↦
        subst (λ (before : List VenueCame). VenueStands setup end before) (sym (others other apart))
        (st.each other setup end is (sym (get_other u.ends.items at other e' apart) ∙ stood))
  ];
}

-- a heartbeat changes no end
pub beats : (u : VenueUnits) (unit : ℕ) → Comes u u unit Beaten
beats u unit s all st = record { many = st.many; each = λ other setup end is stood. by other setup end (eqb unit other) (st.each other setup end is stood) }
  where
    by : (other : ℕ) (setup : VenueSetup) (end : VenueEnd) (b : Bool) → VenueStands setup end (came_to other all) → VenueStands setup end (cond b (Beaten ∷ came_to other all) (came_to other all))
    by other setup end true stands = stands
    by other setup end false stands = stands

-- ---- In the words of the contracts: the end at an index, which names the unit, becomes another
module _ (u : VenueUnits) (at unit : ℕ) (names : at ≡ unit) (e : VenueEnd) (within : at < length u.ends.items) (read : e ≡ get_or u.ends.items at e) where
  there : slice_get u.ends.items at ≡ Some e
  there = slice_get_read u.ends.items (length u.ends.items) at e refl within read

  stands_as : (e' : VenueEnd) (s : List VenueSetup) (all all' : List UnitCame) → UnitsStand s u all → ((other : ℕ) → other ≢ unit → came_to other all' ≡ came_to other all)
      → ((setup : VenueSetup) → VenueStands setup e (came_to unit all) → VenueStands setup e' (came_to unit all')) → UnitsStand s (with_end u at e') all'
  stands_as e' s all all' st others here = stands_with s u at e e' all all' there st (λ other apart. others other (λ same. apart (same ∙ sym names)))
      (λ setup is. subst (λ (n : ℕ). VenueStands setup e' (came_to n all')) (sym names) (here setup (subst (λ (n : ℕ). VenueStands setup e (came_to n all)) names is)))

  pub comes_there : (e' : VenueEnd) (came : VenueCame) → end.Comes e e' came → Comes u (with_end u at e') unit came
  comes_there e' came comes s all st = stands_as e' s all (to_unit unit came ∷ all) st (λ other apart. came_elsewhere unit other came all apart)
      (λ setup is. subst (λ (before : List VenueCame). VenueStands setup e' before) (sym (came_here unit came all)) (comes setup (came_to unit all) is))

  pub cuts_there : (e' : VenueEnd) (came : VenueCame) → end.ComesAndCuts e e' came → ComesAndCuts u (with_end u at e') unit came
  cuts_there e' came comes s all st =
      let next : List UnitCame = to_unit unit came ∷ all in
      stands_as e' s all (to_unit unit AllCut ∷ next) st (λ other apart. came_elsewhere unit other AllCut next apart ∙ came_elsewhere unit other came all apart)
      (λ setup is. subst (λ (before : List VenueCame). VenueStands setup e' before) (sym (came_here unit AllCut next ∙ ap (λ (before : List VenueCame). AllCut ∷ before) (came_here unit came all)))
      (comes setup (came_to unit all) is))

  pub still_there : (e' : VenueEnd) → StandsStill e e' → StandStill u (with_end u at e')
  still_there e' still s all st = stands_as e' s all all st (λ other apart. refl) (λ setup is. still setup (came_to unit all) is)

  -- its setup
  stood : (s : List VenueSetup) (all : List UnitCame) (setup : VenueSetup) → UnitsStand s u all → slice_get s unit ≡ Some setup → VenueStands setup e (came_to unit all)
  stood s all setup st is = subst (λ (n : ℕ). VenueStands setup e (came_to n all)) names (st.each at setup e (ap (slice_get s) names ∙ is) there)

  pub of_unit : (P : VenueSetup → List VenueCame → Type 0) → OfVenue e P → OfUnit u unit P
  of_unit P holds s all setup st is = holds setup (came_to unit all) (stood s all setup st is)

  -- the unit is there, and what is seen of it is seen of its end
  pub seen_there : {A : Type 0} (none : A) (seen : VenueSetup → VenueState → A) (Q : A → Type 0) → OfVenue e (λ s before. Q (seen s (venue_after s before))) → OfUnits u (λ s all. Q (seen_of none seen unit all (slice_get s unit)))
  seen_there none seen Q holds s all st = elim (slice_get_cases s unit).1 [
    | inl (setup, lt, is, same) ↦ subst (λ (o : Option VenueSetup). Q (seen_of none seen unit all o)) (sym is) (of_unit (λ made before. Q (seen made (venue_after made before))) holds s all setup st is)
    | inr (le, is) ↦ let many = st.many in absurd (omega (arith, le, many, names, within))
  ]

  pub unit_there : (number : ℕ) → OfVenue e (λ s before. number ≡ s.unit) → OfUnits u (λ s all. Some number ≡ option_map (λ setup. setup.unit) (slice_get s unit))
  unit_there number is s all st = elim (slice_get_cases s unit).1 [
    | inl (setup, lt, there, same) ↦ ap Some (of_unit (λ made before. number ≡ made.unit) is s all setup st there) ∙ sym (ap (option_map (λ (made : VenueSetup). made.unit)) there)
    | inr (le, none) ↦ let many = st.many in absurd (omega (arith, le, many, names, within))
  ]

  pub end_there : OfUnits u (λ s all. IsEndOf (slice_get s unit) (came_to unit all) (Some e))
  end_there s all st = elim (slice_get_cases s unit).1 [
    | inl (setup, lt, is, same) ↦ subst (λ (o : Option VenueSetup). IsEndOf o (came_to unit all) (Some e)) (sym is) (stood s all setup st is)
    | inr (le, none) ↦ let many = st.many in absurd (omega (arith, le, many, names, within))
  ]

  pub not_none : (P : Type 0) → IfNoUnit u unit P
  not_none P s all st none = elim (slice_get_cases s unit).1 [
    | inl (setup, lt, is, same) ↦ absurd (none-some setup (sym none ∙ is))
    | inr (le, is) ↦ let many = st.many in absurd (omega (arith, le, many, names, within))
  ]

-- ---- Where there is no such unit
module _ (u : VenueUnits) (at unit : ℕ) (names : at ≡ unit) (past : length u.ends.items ≤ at) where
  setup_none : (s : List VenueSetup) (all : List UnitCame) → UnitsStand s u all → slice_get s unit ≡ None
  setup_none s all st = let many = st.many in slice_get_past s unit (omega (arith, past, many, names))

  pub comes_nowhere : (came : VenueCame) → Comes u (record { ends = u.ends }) unit came
  comes_nowhere came s all st = record {
    many = st.many;
    each = λ other setup end is stood. elim (cases_eq other unit) [
      | inl same ↦ absurd (none-some setup (sym (setup_none s all st) ∙ sym (ap (slice_get s) same) ∙ is))
      | inr apart ↦ subst (λ (before : List VenueCame). VenueStands setup end before) (sym (came_elsewhere unit other came all apart)) (st.each other setup end is stood)
    ];
  }

  pub of_none : (P : VenueSetup → List VenueCame → Type 0) → OfUnit u unit P
  of_none P s all setup st is = absurd (none-some setup (sym (setup_none s all st) ∙ is))

  pub seen_none : {A : Type 0} (none : A) (seen : VenueSetup → VenueState → A) → OfUnits u (λ s all. none ≡ seen_of none seen unit all (slice_get s unit))
  seen_none none seen s all st = ap (seen_of none seen unit all) (sym (setup_none s all st))

  pub unit_none : OfUnits u (λ s all. None ≡ option_map (λ setup. setup.unit) (slice_get s unit))
  unit_none s all st = ap (option_map (λ (made : VenueSetup). made.unit)) (sym (setup_none s all st))

  pub end_none : OfUnits u (λ s all. IsEndOf (slice_get s unit) (came_to unit all) None)
  end_none s all st = subst (λ (o : Option VenueSetup). IsEndOf o (came_to unit all) None) (sym (setup_none s all st)) refl
