-- The units that a storm's lines name.
use Rattle.std.proofs.Common.{◌≡◌, ℕ, zero, suc, ◌+◌, ◌≤◌, ◌<◌, inl, inr, Bool, true, false, cond, eqb, List, [], ◌∷◌, ◌++◌, length, map, reverse, None, refl, sym, ap, ◌∙◌, arith, length-append}
use Rattle.std.specs.List.{enumerate_from}
use Rattle.std.proofs.lemmas.Bool.{cond-true, cond-false, eq-eqb, ne_eqb, cases_eq, cases_lt}
use Rattle.std.proofs.lemmas.List.{append-nil, reverse-append}
use Rattle.pitch_text.specs.ScheduleGrammar.{schedule_entry}
use Rattle.pitch_text.specs.declared.verb.ScheduleEntry.{ScheduleEntry}
use Rattle.pitch_text.specs.declared.verb.Session.TheVariants.{Grp}
use Rattle.pitch_text.specs.declared.verb.Verb.{Verb}
use Rattle.pitch_text.specs.declared.verb.Verb.TheVariants as verbs
use Rattle.schedule_replay.specs.Replay.{verbs_of, limits_at, limits_of}
use Rattle.schedule_replay.specs.Worlds.{IsNamed}
use Rattle.world_model.specs.Ends.{default_limits}
use Rattle.storm_replay.specs.Storm.{start_verbs, step_verbs, end_verbs, entries_for, by_each, storm_steps, storm_entries}
use Rattle.storm_replay.specs.Summary.{storm_lines}
use Rattle.storm_replay.specs.layers.Units.{unit_steps, unit_course}

-- ---- The verbs of a unit among entries
unit_verbs : ℕ → List (ℕ × Verb) → List Verb
unit_verbs unit [] = []
unit_verbs unit (e ∷ es) = cond (eqb e.0 unit) (e.1 ∷ unit_verbs unit es) (unit_verbs unit es)

one_more : (b : Bool) (v : Verb) (all xs ys : List Verb) → all ≡ xs ++ ys → cond b (v ∷ all) all ≡ cond b (v ∷ xs) xs ++ ys
one_more true v all xs ys e = ap (λ (l : List Verb). v ∷ l) e
one_more false v all xs ys e = e

verbs_joined : (unit : ℕ) (xs ys : List ScheduleEntry) → verbs_of unit (xs ++ ys) ≡ verbs_of unit xs ++ verbs_of unit ys
verbs_joined unit [] ys = refl
verbs_joined unit (x ∷ xs) ys = one_more (eqb x.unit unit) x.verb (verbs_of unit (xs ++ ys)) (verbs_of unit xs) (verbs_of unit ys) (verbs_joined unit xs ys)

unit_joined : (unit : ℕ) (xs ys : List (ℕ × Verb)) → unit_verbs unit (xs ++ ys) ≡ unit_verbs unit xs ++ unit_verbs unit ys
unfolding unit_verbs
unit_joined unit [] ys = refl
unit_joined unit (x ∷ xs) ys = one_more (eqb x.0 unit) x.1 (unit_verbs unit (xs ++ ys)) (unit_verbs unit xs) (unit_verbs unit ys) (unit_joined unit xs ys)

lines_verbs : (unit n : ℕ) (es : List (ℕ × Verb)) → verbs_of unit (map schedule_entry (enumerate_from n es)) ≡ unit_verbs unit es
unfolding unit_verbs
lines_verbs unit n [] = refl
lines_verbs unit n (e ∷ es) = ap (λ (l : List Verb). cond (eqb e.0 unit) (e.1 ∷ l) l) (lines_verbs unit (n + 1) es)

-- so many in either order
reversed_count : (unit : ℕ) (es : List ScheduleEntry) → length (verbs_of unit (reverse es)) ≡ length (verbs_of unit es)
reversed_count unit [] = refl
reversed_count unit (e ∷ es) =
    let turned = ap (λ (l : List ScheduleEntry). length (verbs_of unit l)) (reverse-append (e ∷ []) es) in
    let left = ap (λ (l : List Verb). length l) (verbs_joined unit (reverse es) (e ∷ [])) in
    let right = ap (λ (l : List Verb). length l) (verbs_joined unit (e ∷ []) es) in
    let m = length-append (verbs_of unit (reverse es)) (verbs_of unit (e ∷ [])) in
    let n = length-append (verbs_of unit (e ∷ [])) (verbs_of unit es) in
    let less = reversed_count unit es in
    omega (arith, turned, left, right, m, n, less)

-- ---- No other units
-- only the units from 1 to `units` have verbs
abbrev AreWithin : ℕ → List (ℕ × Verb) → Type 0
AreWithin units es = (unit : ℕ) → 0 < length (unit_verbs unit es) → (1 ≤ unit) × (unit ≤ units)

within_joined : (units : ℕ) (xs ys : List (ℕ × Verb)) → AreWithin units xs → AreWithin units ys → AreWithin units (xs ++ ys)
within_joined units xs ys left right unit some =
    let e = ap (λ (l : List Verb). length l) (unit_joined unit xs ys) in
    let n = length-append (unit_verbs unit xs) (unit_verbs unit ys) in
    elim (cases_lt 0 (length (unit_verbs unit xs))) [
      | inl here ↦ left unit here
      | inr none ↦ right unit (omega (arith, some, e, n, none))
    ]

none_for : (unit other : ℕ) (verbs : List Verb) → eqb unit other ≡ false → unit_verbs other (entries_for unit verbs) ≡ []
unfolding unit_verbs
none_for unit other [] differ = refl
none_for unit other (v ∷ verbs) differ =
    cond-false (eqb unit other) (v ∷ unit_verbs other (entries_for unit verbs)) (unit_verbs other (entries_for unit verbs)) differ ∙ none_for unit other verbs differ

all_for : (unit : ℕ) (verbs : List Verb) → unit_verbs unit (entries_for unit verbs) ≡ verbs
unfolding unit_verbs
all_for unit [] = refl
all_for unit (v ∷ verbs) =
    cond-true (eqb unit unit) (v ∷ unit_verbs unit (entries_for unit verbs)) (unit_verbs unit (entries_for unit verbs)) (eq-eqb unit unit refl) ∙ ap (λ (l : List Verb). v ∷ l) (all_for unit verbs)

within_for : (units unit : ℕ) (verbs : List Verb) → 1 ≤ unit → unit ≤ units → AreWithin units (entries_for unit verbs)
within_for units unit verbs low high other some = elim (cases_eq unit other) [
  | inl same ↦ (omega (arith, low, same), omega (arith, high, same))
  | inr differ ↦
      let none = ap (λ (l : List Verb). length l) (none_for unit other verbs (ne_eqb unit other differ)) in
      absurd (omega (arith, none, some))
]

within_each : (units : ℕ) (part : ℕ → List Verb) (count : ℕ) → count ≤ units → AreWithin units (by_each part count)
unfolding by_each unit_verbs
within_each units part zero few unit some = absurd (omega (arith, some))
within_each units part (suc count) few unit some =
    within_joined units (by_each part count) (entries_for (suc count) (part (suc count))) (within_each units part count (omega (arith, few)))
    (within_for units (suc count) (part (suc count)) (omega arith) few) unit some

within_steps : (number units steps : ℕ) → AreWithin units (storm_steps number units steps)
unfolding storm_steps unit_verbs
within_steps number units zero unit some = absurd (omega (arith, some))
within_steps number units (suc index) unit some =
    within_joined units (storm_steps number units index) (by_each (λ unit. step_verbs number unit (suc index)) units) (within_steps number units index)
    (within_each units (λ unit. step_verbs number unit (suc index)) units (omega arith)) unit some

within_storm : (number units steps : ℕ) → AreWithin units (storm_entries number units steps)
within_storm number units steps =
    within_joined units (by_each (λ unit. start_verbs) units) (storm_steps number units steps ++ by_each (λ unit. end_verbs steps) units) (within_each units (λ unit. start_verbs) units (omega arith))
    (within_joined units (storm_steps number units steps) (by_each (λ unit. end_verbs steps) units) (within_steps number units steps) (within_each units (λ unit. end_verbs steps) units (omega arith)))

-- ---- Each of the units
some_each : (part : ℕ → List Verb) (count unit : ℕ) → ((u : ℕ) → 0 < length (part u)) → 1 ≤ unit → unit ≤ count → 0 < length (unit_verbs unit (by_each part count))
unfolding by_each
some_each part zero unit some low high = absurd (omega (arith, low, high))
some_each part (suc count) unit some low high =
    let e = ap (λ (l : List Verb). length l) (unit_joined unit (by_each part count) (entries_for (suc count) (part (suc count)))) in
    let n = length-append (unit_verbs unit (by_each part count)) (unit_verbs unit (entries_for (suc count) (part (suc count)))) in
    elim (cases_eq unit (suc count)) [
      | inl same ↦
          let all = ap (λ (u : ℕ). length (unit_verbs u (entries_for (suc count) (part (suc count))))) same in
          let its = ap (λ (l : List Verb). length l) (all_for (suc count) (part (suc count))) in
          let there = some (suc count) in
          omega (arith, e, n, all, its, there)
      | inr differ ↦
          let before = some_each part count unit some low (omega (arith, high, differ)) in
          omega (arith, e, n, before)
    ]

some_storm : (number units steps unit : ℕ) → 1 ≤ unit → unit ≤ units → 0 < length (unit_verbs unit (storm_entries number units steps))
some_storm number units steps unit low high =
    let starts = by_each (λ (u : ℕ). start_verbs) units in
    let rest = storm_steps number units steps ++ by_each (λ (u : ℕ). end_verbs steps) units in
    let e = ap (λ (l : List Verb). length l) (unit_joined unit starts rest) in
    let n = length-append (unit_verbs unit starts) (unit_verbs unit rest) in
    let first = some_each (λ (u : ℕ). start_verbs) units unit (λ u. omega arith) low high in
    omega (arith, e, n, first)

-- ---- The lines of a storm name just its units
lines_count : (number units steps unit : ℕ) → length (verbs_of unit (reverse (storm_lines number units steps))) ≡ length (unit_verbs unit (storm_entries number units steps))
lines_count number units steps unit =
    reversed_count unit (storm_lines number units steps) ∙ ap (λ (l : List Verb). length l) (lines_verbs unit 1 (storm_entries number units steps))

pub named_within : (number units steps unit : ℕ) → IsNamed (reverse (storm_lines number units steps)) unit → (1 ≤ unit) × (unit ≤ units)
named_within number units steps unit named = within_storm number units steps unit (let e = lines_count number units steps unit in omega (arith, e, named))

pub each_named : (number units steps unit : ℕ) → 1 ≤ unit → unit ≤ units → IsNamed (reverse (storm_lines number units steps)) unit
each_named number units steps unit low high = (let e = lines_count number units steps unit in let some = some_storm number units steps unit low high in omega (arith, e, some))

-- ---- What a unit's lines do
-- the verbs of a unit in the other order
turned_last : (b : Bool) (v : Verb) (xs : List Verb) → reverse xs ++ cond b (v ∷ []) [] ≡ reverse (cond b (v ∷ xs) xs)
turned_last true v xs = sym (reverse-append (v ∷ []) xs)
turned_last false v xs = append-nil (reverse xs)

reversed_verbs : (unit : ℕ) (es : List ScheduleEntry) → verbs_of unit (reverse es) ≡ reverse (verbs_of unit es)
reversed_verbs unit [] = refl
reversed_verbs unit (e ∷ es) =
    ap (λ (l : List ScheduleEntry). verbs_of unit l) (reverse-append (e ∷ []) es)
    ∙ verbs_joined unit (reverse es) (e ∷ [])
    ∙ ap (λ (l : List Verb). l ++ verbs_of unit (e ∷ [])) (reversed_verbs unit es)
    ∙ turned_last (eqb e.unit unit) e.verb (verbs_of unit es)

-- a part by each unit has the part of this one alone
none_each : (part : ℕ → List Verb) (count unit : ℕ) → count < unit → unit_verbs unit (by_each part count) ≡ []
unfolding by_each unit_verbs
none_each part zero unit high = refl
none_each part (suc count) unit high =
    unit_joined unit (by_each part count) (entries_for (suc count) (part (suc count)))
    ∙ ap (λ (l : List Verb). l ++ unit_verbs unit (entries_for (suc count) (part (suc count)))) (none_each part count unit (omega (arith, high)))
    ∙ none_for (suc count) unit (part (suc count)) (ne_eqb (suc count) unit (λ q. omega (arith, high, q)))

own_each : (part : ℕ → List Verb) (count unit : ℕ) → 1 ≤ unit → unit ≤ count → unit_verbs unit (by_each part count) ≡ part unit
unfolding by_each
own_each part zero unit low high = absurd (omega (arith, low, high))
own_each part (suc count) unit low high =
    let before : List Verb = unit_verbs unit (by_each part count) in
    let here : List Verb = unit_verbs unit (entries_for (suc count) (part (suc count))) in
    unit_joined unit (by_each part count) (entries_for (suc count) (part (suc count))) ∙ elim (cases_eq unit (suc count)) [
      | inl same ↦
          ap (λ (l : List Verb). l ++ here) (none_each part count unit (omega (arith, same)))
          ∙ ap (λ (u : ℕ). unit_verbs u (entries_for (suc count) (part (suc count)))) same
          ∙ all_for (suc count) (part (suc count))
          ∙ ap part (sym same)
      | inr differ ↦
          ap (λ (l : List Verb). before ++ l) (none_for (suc count) unit (part (suc count)) (ne_eqb (suc count) unit (λ q. differ (sym q))))
          ∙ append-nil before
          ∙ own_each part count unit low (omega (arith, high, differ))
    ]

own_steps : (number units steps unit : ℕ) → 1 ≤ unit → unit ≤ units → unit_verbs unit (storm_steps number units steps) ≡ unit_steps number unit steps
unfolding storm_steps unit_verbs unit_steps
own_steps number units zero unit low high = refl
own_steps number units (suc index) unit low high =
    unit_joined unit (storm_steps number units index) (by_each (λ u. step_verbs number u (suc index)) units)
    ∙ ap (λ (l : List Verb). l ++ unit_verbs unit (by_each (λ u. step_verbs number u (suc index)) units)) (own_steps number units index unit low high)
    ∙ ap (λ (l : List Verb). unit_steps number unit index ++ l) (own_each (λ u. step_verbs number u (suc index)) units unit low high)

own_storm : (number units steps unit : ℕ) → 1 ≤ unit → unit ≤ units → unit_verbs unit (storm_entries number units steps) ≡ unit_course number unit steps
own_storm number units steps unit low high =
    let starts : List (ℕ × Verb) = by_each (λ u. start_verbs) units in
    let middle : List (ℕ × Verb) = storm_steps number units steps in
    let ends : List (ℕ × Verb) = by_each (λ u. end_verbs steps) units in
    unit_joined unit starts (middle ++ ends)
    ∙ ap (λ (l : List Verb). l ++ unit_verbs unit (middle ++ ends)) (own_each (λ u. start_verbs) units unit low high)
    ∙ ap (λ (l : List Verb). start_verbs ++ l)
    (unit_joined unit middle ends
    ∙ ap (λ (l : List Verb). l ++ unit_verbs unit ends) (own_steps number units steps unit low high)
    ∙ ap (λ (l : List Verb). unit_steps number unit steps ++ l) (own_each (λ u. end_verbs steps) units unit low high))

-- all that the lines of a storm do with one of its units, newest first
pub verbs_are : (number units steps unit : ℕ) → 1 ≤ unit → unit ≤ units → verbs_of unit (reverse (storm_lines number units steps)) ≡ reverse (unit_course number unit steps)
verbs_are number units steps unit low high =
    reversed_verbs unit (storm_lines number units steps)
    ∙ ap (λ (l : List Verb). reverse l) (lines_verbs unit 1 (storm_entries number units steps) ∙ own_storm number units steps unit low high)

-- no unit of a storm sets its limits
limits_last : (done : List Verb) (v : Verb) → limits_of (done ++ v ∷ []) ≡ limits_at v
limits_last [] v = refl
limits_last (x ∷ []) v = refl
limits_last (x ∷ y ∷ done) v = limits_last (y ∷ done) v

pub limits_are : (number unit steps : ℕ) → limits_of (reverse (unit_course number unit steps)) ≡ default_limits
limits_are number unit steps =
    let rest : List Verb = verbs.Up Grp None ∷ verbs.Down Grp None ∷ (unit_steps number unit steps ++ end_verbs steps) in
    ap (λ (l : List Verb). limits_of l) (reverse-append (verbs.Connect Grp ∷ []) rest) ∙ limits_last (reverse rest) (verbs.Connect Grp)
