-- The ends of a setup, one after another, and the place of a unit in it.
use Rattle.std.proofs.Common.{◌≡◌, ℕ, zero, suc, ◌+◌, ◌==◌, ◌<◌, ◌≤◌, inl, inr, Bool, true, false, cond, List, [], ◌∷◌, ◌++◌, length, position, nat_lt, get_or, refl, sym, ap, ◌∙◌, subst, arith, Some, None, slice_get, length-append}
use Rattle.std.specs.List.{position_or_len}
use Rattle.std.proofs.lemmas.Bool.{cases_eq, lt-ltb}
use Rattle.std.proofs.lemmas.Bool.Decides.{nat_tests}
use Rattle.std.proofs.lemmas.List.Sums.{position_or_len_is}
use Rattle.std.proofs.lemmas.Option.{none-some, same_Some, get_or_from_slice_get, slice_get-get_or, slice_get_cases, slice_get_read, slice_get_within}
use Rattle.pitch_fields.proofs.Lists.{get_last}
use Rattle.venue_end.specs.Stands.{OfVenue, VenueStands}
use Rattle.venue_end.specs.declared.setup.VenueSetup.{VenueSetup}
use Rattle.venue_end.specs.declared.venue.VenueEnd.{VenueEnd}
use Rattle.venue_units.specs.Coming.{UnitCame, came_to}
use Rattle.venue_units.specs.Units.{UnitsStand}
use Rattle.venue_units.specs.declared.units.VenueUnits.{VenueUnits}

in_front : {A : Type 0} (xs ys : List A) (i : ℕ) (x : A) → slice_get xs i ≡ Some x → slice_get (xs ++ ys) i ≡ Some x
in_front [] ys i x is = absurd (none-some x is)
in_front (a ∷ xs) ys zero x is = is
in_front (a ∷ xs) ys (suc i) x is = in_front xs ys i x is

-- ---- Made one after another
-- there is an end for each of the first so many, to which nothing came yet
pub record MadeTo (s : List VenueSetup) (count : ℕ) (ends : List VenueEnd) : Type 0 where
  pub many : length ends ≡ count
  pub each : (at : ℕ) (setup : VenueSetup) (end : VenueEnd) → slice_get s at ≡ Some setup → slice_get ends at ≡ Some end → VenueStands setup end []

pub made_more : (s : List VenueSetup) (count : ℕ) (ends ends' : List VenueEnd) (setup : VenueSetup) (new : VenueEnd) → MadeTo s count ends → slice_get s count ≡ Some setup → VenueStands setup new [] → ends' ≡ ends ++ new ∷ [] → MadeTo s (count + 1) ends'
made_more s count ends ends' setup new made is stands now = subst (MadeTo s (count + 1)) (sym now) (record {
  many = length-append ends (new ∷ []) ∙ ap (λ (n : ℕ). n + 1) made.many;
  each = λ at other end there stood. elim (slice_get_cases ends at).1 [
    | inl (old, lt, read, same) ↦ made.each at other end there (read ∙ sym (in_front ends (new ∷ []) at old read) ∙ stood)
    | inr (le, none) ↦
        let within : at < length (ends ++ new ∷ []) = slice_get_within (ends ++ new ∷ []) at end stood in
        let size : length (ends ++ new ∷ []) ≡ length ends + 1 = length-append ends (new ∷ []) in
        let here : at ≡ length ends = omega (arith, le, within, size) in
        let left : end ≡ new = same_Some end new (sym stood ∙ ap (slice_get (ends ++ new ∷ [])) here ∙ get_last ends new) in
        let its : other ≡ setup = same_Some other setup (sym there ∙ ap (slice_get s) (here ∙ made.many) ∙ is) in
        subst (λ (m : VenueSetup). VenueStands m end []) (sym its) (subst (λ (e : VenueEnd). VenueStands setup e []) (sym left) stands)
  ];
})

-- ---- The place of a unit
-- none of the first so many is of it
abbrev pub NoneIs : List VenueSetup → ℕ → ℕ → Type 0
NoneIs s unit count = (at : ℕ) (setup : VenueSetup) → at < count → slice_get s at ≡ Some setup → (setup.unit == unit) ≡ false

pub none_more : (s : List VenueSetup) (unit count : ℕ) (setup : VenueSetup) → NoneIs s unit count → slice_get s count ≡ Some setup → (setup.unit == unit) ≡ false → NoneIs s unit (count + 1)
none_more s unit count setup none is other at made lt there = elim (cases_eq at count) [
  | inl same ↦ let its : made ≡ setup = same_Some made setup (sym there ∙ ap (slice_get s) same ∙ is) in ap (λ (m : VenueSetup). m.unit == unit) its ∙ other
  | inr apart ↦ none at made (omega (arith, lt, apart)) there
]

module _ (s : List VenueSetup) (unit : ℕ) where
  abbrev first : ℕ
  first = position_or_len (λ (setup : VenueSetup). setup.unit == unit) s

  below : (count : ℕ) (d : VenueSetup) → count ≤ length s → NoneIs s unit count → (k : ℕ) → k < count → ((get_or s k d).unit == unit) ≡ false
  below count d le none k lt = none k (get_or s k d) lt (slice_get-get_or s k d (omega (arith, lt, le)))

  pub found : (at : ℕ) (setup : VenueSetup) → NoneIs s unit at → slice_get s at ≡ Some setup → (setup.unit == unit) ≡ true → Some at ≡ position (λ (made : VenueSetup). made.unit == unit) s
  found at setup none is here =
      let lt : at < length s = slice_get_within s at setup is in
      let first_is : first ≡ at = position_or_len_is (λ (made : VenueSetup). made.unit == unit) s at setup (omega (arith, lt)) (below at setup (omega (arith, lt)) none)
      (λ within. ap (λ (made : VenueSetup). made.unit == unit) (get_or_from_slice_get s at setup setup is) ∙ here) in
      sym (ap (λ (n : ℕ). cond (nat_lt n (length s)) (Some n) None) first_is ∙ ap (λ (b : Bool). cond b (Some at) None) (lt-ltb at (length s) lt))

  pub missing : (count : ℕ) → length s ≤ count → NoneIs s unit count → None ≡ position (λ (made : VenueSetup). made.unit == unit) s
  missing count le some = by s refl
    where
      none : NoneIs s unit (length s)
      none at setup lt there = some at setup (omega (arith, lt, le)) there

      past : (n : ℕ) → nat_lt n n ≡ false
      past n = grind (arith, nat_tests)

      by : (l : List VenueSetup) → s ≡ l → None ≡ position (λ (made : VenueSetup). made.unit == unit) s
      by [] is = ap (position (λ (made : VenueSetup). made.unit == unit)) (sym is)
      by (d ∷ l) is =
          let first_is : first ≡ length s = position_or_len_is (λ (made : VenueSetup). made.unit == unit) s (length s) d (omega arith) (below (length s) d (omega arith) none) (λ within. absurd (omega (arith, within))) in
          sym (ap (λ (n : ℕ). cond (nat_lt n (length s)) (Some n) None) first_is ∙ ap (λ (b : Bool). cond b (Some (length s)) None) (past (length s)))

-- what the end at an index says of its unit is the unit of the setup there
pub unit_at : (u : VenueUnits) (s : List VenueSetup) (came : List UnitCame) → UnitsStand s u came → (at : ℕ) (e : VenueEnd) (number : ℕ) → at < length u.ends.items → e ≡ get_or u.ends.items at e → OfVenue e (λ made before. number ≡ made.unit)
    → (setup : VenueSetup) × (slice_get s at ≡ Some setup) × (number ≡ setup.unit)
unit_at u s came st at e number within read tells = elim (slice_get_cases s at).1 [
  | inl (setup, lt, is, same) ↦ (setup, is, tells setup (came_to at came) (st.each at setup e is (slice_get_read u.ends.items (length u.ends.items) at e refl within read)))
  | inr (le, none) ↦ let many = st.many in absurd (omega (arith, le, many, within))
]
