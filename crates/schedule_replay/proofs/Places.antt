-- The places of the worlds while lines are done.
use Rattle.std.proofs.Common.{◌≡◌, ◌≢◌, ℕ, zero, suc, ◌+◌, ◌<◌, inl, inr, Bool, true, true≢false, ◌||◌, eqb, List, [], ◌∷◌, ◌++◌, length, refl, sym, ap, ◌∙◌, subst, arith, Option, Some, None, is_some}
use Rattle.std.proofs.Math.ListN.{set, get_or, length-set}
use Rattle.std.specs.List.{AllByRecursion, slice_get}
use Rattle.std.specs.List.Sorted.{IsStrictlySortedBy}
use Rattle.std.specs.Ordering.{nat_cmp}
use Rattle.std.specs.Set.{is_member}
use Rattle.std.specs.declared.cmp.Ordering.TheVariants.{Less}
use Rattle.std.proofs.lemmas.Bool.{cond-true, cond-false, eq-eqb, ne_eqb, cases_eq, or_right}
use Rattle.std.proofs.lemmas.Bool.Decides.{nat_tests}
use Rattle.std.proofs.lemmas.List.{get_or-set_same, get_or-set_other}
use Rattle.std.proofs.lemmas.Map.Keys.{IsStrictlyIncreasing-from_sorted}
use Rattle.std.proofs.lemmas.Option.{none-some, same_Some, slice_get-get_or, slice_get_within, slice_get_past, get_or_from_slice_get}
use Rattle.pitch_text.specs.declared.verb.ScheduleEntry.{ScheduleEntry}
use Rattle.pitch_text.specs.declared.verb.Verb.{Verb}
use Rattle.world_model.specs.Printed.{verb_text}
use Rattle.world_model.specs.Stands.{WorldStands}
use Rattle.world_model.specs.Verbs.{state_of}
use Rattle.world_model.specs.declared.limits.Limits.{Limits}
use Rattle.world_model.specs.declared.world.World.{World}
use Rattle.schedule_replay.specs.Replay.{verbs_of, limits_at, limits_of, replay_line}
use Rattle.schedule_replay.specs.Worlds.{IsNamed, AreWorldsOf, AreAllWorlds}
use Rattle.schedule_replay.specs.layers.Places.{IsPlace, IsReady, ArePlaces, worlds_in}

-- ---- The verbs of a unit

verbs_same : (e : ScheduleEntry) (before : List ScheduleEntry) → verbs_of e.unit (e ∷ before) ≡ e.verb ∷ verbs_of e.unit before
verbs_same e before = cond-true (eqb e.unit e.unit) (e.verb ∷ verbs_of e.unit before) (verbs_of e.unit before) (eq-eqb e.unit e.unit refl)

verbs_other : (unit : ℕ) (e : ScheduleEntry) (before : List ScheduleEntry) → e.unit ≢ unit → verbs_of unit (e ∷ before) ≡ verbs_of unit before
verbs_other unit e before other = cond-false (eqb e.unit unit) (e.verb ∷ verbs_of unit before) (verbs_of unit before) (ne_eqb e.unit unit other)

limits_more : (verb : Verb) (done : List Verb) → 0 < length done → limits_of (verb ∷ done) ≡ limits_of done
limits_more verb [] some = absurd (omega arith)
limits_more verb (v ∷ done) some = refl

-- ---- One place

pub known : (unit : ℕ) (verb : Verb) (before : List ScheduleEntry) (place : Option World) → is_some place ≡ true → IsPlace before unit place → IsReady unit (limits_of (verb ∷ verbs_of unit before)) (verbs_of unit before) place
known unit verb before None some is = absurd (true≢false (sym some))
known unit verb before (Some world) some is = subst (λ (l : Limits). WorldStands world unit l (verbs_of unit before)) (sym (limits_more verb (verbs_of unit before) is.0)) is.1

pub new_world : (unit : ℕ) (verb : Verb) (before : List ScheduleEntry) (place made : Option World) → place ≡ None → IsReady unit (limits_at verb) [] made → IsPlace before unit place
    → IsReady unit (limits_of (verb ∷ verbs_of unit before)) (verbs_of unit before) made
new_world unit verb before place made none fresh is =
    let empty : verbs_of unit before ≡ [] = subst (IsPlace before unit) none is in
    subst (λ (done : List Verb). IsReady unit (limits_of (verb ∷ done)) done made) (sym empty) fresh

pub world_more : (e : ScheduleEntry) (before : List ScheduleEntry) (world : World) → WorldStands world e.unit (limits_of (e.verb ∷ verbs_of e.unit before)) (e.verb ∷ verbs_of e.unit before) → IsPlace (e ∷ before) e.unit (Some world)
world_more e before world stands =
    let same : e.verb ∷ verbs_of e.unit before ≡ verbs_of e.unit (e ∷ before) = sym (verbs_same e before) in
    (subst (λ (done : List Verb). 0 < length done) same (omega arith), subst (λ (done : List Verb). WorldStands world e.unit (limits_of done) done) same stands)

pub line_is : (before : List ScheduleEntry) (e : ScheduleEntry)
    → verb_text e.line e.unit (limits_of (e.verb ∷ verbs_of e.unit before)) e.verb (state_of e.unit (limits_of (e.verb ∷ verbs_of e.unit before)) (verbs_of e.unit before)) ≡ replay_line before e
unfolding replay_line
line_is before e = refl

-- ---- All places

other_place : (e : ScheduleEntry) (before : List ScheduleEntry) (unit : ℕ) (place : Option World) → e.unit ≢ unit → IsPlace before unit place → IsPlace (e ∷ before) unit place
other_place e before unit None other is = verbs_other unit e before other ∙ is
other_place e before unit (Some world) other is = subst (λ (done : List Verb). (0 < length done) × WorldStands world unit (limits_of done) done) (sym (verbs_other unit e before other)) is

pub places_more : (places : List (Option World)) (e : ScheduleEntry) (before : List ScheduleEntry) (place : Option World) → e.unit < 65 → ArePlaces before places → IsPlace (e ∷ before) e.unit place
    → ArePlaces (e ∷ before) (set places e.unit place)
places_more places e before place within are is = record {
  many = length-set places e.unit place ∙ are.many;
  low = λ unit named. elim (cases_eq e.unit unit) [
    | inl same ↦ omega (arith, within, same)
    | inr other ↦ are.low unit (subst (λ (done : List Verb). 0 < length done) (verbs_other unit e before other) named)
  ];
  each = λ unit p at.
      let there : unit < length (set places e.unit place) = slice_get_within (set places e.unit place) unit p at in
      let low : unit < length places = omega (arith, there, length-set places e.unit place) in
      let is_there = get_or_from_slice_get (set places e.unit place) unit p p at in
      elim (cases_eq e.unit unit) [
        | inl same ↦
            let now : place ≡ p = sym (get_or-set_same places e.unit place p (omega (arith, low, same))) ∙ ap (λ (u : ℕ). get_or (set places e.unit place) u p) same ∙ is_there in
            subst (λ (u : ℕ). IsPlace (e ∷ before) u p) same (subst (IsPlace (e ∷ before) e.unit) now is)
        | inr other ↦
            let kept : get_or places unit p ≡ p = sym (get_or-set_other places e.unit unit place p (λ q. other (sym q))) ∙ is_there in
            other_place e before unit p other (are.each unit p (slice_get-get_or places unit p low ∙ ap Some kept))
      ];
}

-- where no world stands, none stands with an empty place more
pub none_more : (places : List (Option World)) (unit : ℕ) (place : Option World) → ((u : ℕ) (p : Option World) → slice_get places u ≡ Some p → p ≡ None) → slice_get (places ++ None ∷ []) unit ≡ Some place → place ≡ None
none_more [] zero place none at = sym (same_Some None place at)
none_more [] (suc unit) place none at = absurd (none-some place at)
none_more (p ∷ places) zero place none at = none 0 place at
none_more (p ∷ places) (suc unit) place none at = none_more places unit place (λ u. none (suc u)) at

-- no unit has a world at first
pub places_none : (places : List (Option World)) → length places ≡ 65 → ((unit : ℕ) (place : Option World) → slice_get places unit ≡ Some place → place ≡ None) → ArePlaces [] places
places_none places many none = record { many = many; low = λ unit named. absurd (omega (arith, named)); each = λ unit place at. subst (IsPlace [] unit) (sym (none unit place at)) refl }

-- ---- The worlds by rising unit

-- the units, from a number on, in whose places a world stands
units_in : ℕ → List (Option World) → List ℕ
units_in n [] = []
units_in n (None ∷ places) = units_in (n + 1) places
units_in n (Some world ∷ places) = n ∷ units_in (n + 1) places

units_above : (m n : ℕ) (places : List (Option World)) → m < n → AllByRecursion (λ y. nat_cmp m y ≡ Less) (units_in n places)
unfolding units_in
units_above m n [] lt = tt
units_above m n (None ∷ places) lt = units_above m (n + 1) places (omega arith)
units_above m n (Some world ∷ places) lt = (grind (arith, nat_tests, lt), units_above m (n + 1) places (omega arith))

units_sorted : (n : ℕ) (places : List (Option World)) → IsStrictlySortedBy nat_cmp (units_in n places)
unfolding units_in IsStrictlySortedBy
units_sorted n [] = tt
units_sorted n (None ∷ places) = units_sorted (n + 1) places
units_sorted n (Some world ∷ places) = (units_above n (n + 1) places (omega arith), units_sorted (n + 1) places)

worlds_each : (n : ℕ) (places : List (Option World)) (before : List ScheduleEntry) → ((i : ℕ) (place : Option World) → slice_get places i ≡ Some place → IsPlace before (n + i) place) → AreWorldsOf before (units_in n places) (worlds_in places)
unfolding units_in
worlds_each n [] before each = tt
worlds_each n (None ∷ places) before each =
    worlds_each (n + 1) places before (λ i place at. let e : n + suc i ≡ (n + 1) + i = omega arith in subst (λ (u : ℕ). IsPlace before u place) e (each (suc i) place at))
worlds_each n (Some world ∷ places) before each =
    let e : n + 0 ≡ n = omega arith in
    let here : IsPlace before n (Some world) = subst (λ (u : ℕ). IsPlace before u (Some world)) e (each 0 (Some world) refl) in
    (here, worlds_each (n + 1) places before (λ i place at. let e : n + suc i ≡ (n + 1) + i = omega arith in subst (λ (u : ℕ). IsPlace before u place) e (each (suc i) place at)))

units_all : (n : ℕ) (places : List (Option World)) (i : ℕ) (world : World) → slice_get places i ≡ Some (Some world) → is_member eqb (units_in n places) (n + i) ≡ true
unfolding units_in
units_all n [] i world at = absurd (none-some (Some world) (sym (slice_get_past [] i (omega arith)) ∙ at))
units_all n (None ∷ places) zero world at = absurd (clash at)
  where
    clash : ◌≡◌ {A = Option (Option World)} (Some None) (Some (Some world)) → ⊥
    clash h = cc
units_all n (None ∷ places) (suc i) world at = let e : (n + 1) + i ≡ n + suc i = omega arith in subst (λ (u : ℕ). is_member eqb (units_in (n + 1) places) u ≡ true) e (units_all (n + 1) places i world at)
units_all n (Some w ∷ places) zero world at = let e : n + 0 ≡ n = omega arith in ap (λ (b : Bool). b || is_member eqb (units_in (n + 1) places) (n + 0)) (eq-eqb (n + 0) n e)
units_all n (Some w ∷ places) (suc i) world at =
    let e : (n + 1) + i ≡ n + suc i = omega arith in
    or_right (eqb (n + suc i) n) (is_member eqb (units_in (n + 1) places) (n + suc i)) (subst (λ (u : ℕ). is_member eqb (units_in (n + 1) places) u ≡ true) e (units_all (n + 1) places i world at))

pub all_worlds_are : (places : List (Option World)) (before : List ScheduleEntry) → ArePlaces before places → AreAllWorlds before (worlds_in places)
all_worlds_are places before are = record {
  units = units_in 0 places;
  rise = IsStrictlyIncreasing-from_sorted (units_in 0 places) (units_sorted 0 places);
  all = λ unit named.
      let low : unit < length places = omega (arith, are.low unit named, are.many) in
      by unit (get_or places unit None) (slice_get-get_or places unit None low) named;
  each = worlds_each 0 places before (λ i place at. let e : i ≡ 0 + i = omega arith in subst (λ (u : ℕ). IsPlace before u place) e (are.each i place at));
}
  where
    by : (unit : ℕ) (place : Option World) → slice_get places unit ≡ Some place → IsNamed before unit → is_member eqb (units_in 0 places) unit ≡ true
    by unit None at named = absurd (let none : length (verbs_of unit before) ≡ 0 = ap (λ (vs : List Verb). length vs) (are.each unit None at) in omega (arith, none, named))
    by unit (Some world) at named = let e : 0 + unit ≡ unit = omega arith in subst (λ (u : ℕ). is_member eqb (units_in 0 places) u ≡ true) e (units_all 0 places unit world at)

pub worlds_none : (places : List (Option World)) → worlds_in (places ++ None ∷ []) ≡ worlds_in places
worlds_none [] = refl
worlds_none (None ∷ places) = worlds_none places
worlds_none (Some world ∷ places) = ap (λ (ws : List World). world ∷ ws) (worlds_none places)

pub worlds_more : (places : List (Option World)) (world : World) → worlds_in (places ++ Some world ∷ []) ≡ worlds_in places ++ world ∷ []
worlds_more [] world = refl
worlds_more (None ∷ places) world = worlds_more places world
worlds_more (Some w ∷ places) world = ap (λ (ws : List World). w ∷ ws) (worlds_more places world)
