-- A storm's schedule is read as its entries.
use Rattle.std.proofs.Common.{◌≡◌, ℕ, zero, suc, ◌-◌, ◌%◌, ◌^◌, ◌<◌, ◌≤◌, Bool, true, false, not, ◌==◌, nat_le, List, [], ◌∷◌, ◌++◌, refl, arith}
use Rattle.std.specs.List.{AllByRecursion}
use Rattle.std.proofs.lemmas.Bool.{cond_both, and_parts}
use Rattle.std.proofs.lemmas.Bool.Decides.{nat_tests}
use Rattle.pitch_fields.proofs.Lists.{all_append}
use Rattle.pitch_io.specs.declared.line.Line.{Line}
use Rattle.pitch_text.specs.declared.verb.Verb.{Verb}
use Rattle.pitch_text.specs.WellFormed.{IsVerb, IsWellFormed}
use Rattle.pitch_text.proofs.ManyLines.{AreGiven}
use Rattle.venue_core.specs.Losses.{is_lost}
use Rattle.storm_replay.specs.declared.verbs.Part.{Part}
use Rattle.storm_replay.specs.declared.verbs.Part.TheVariants.{Start, Step, End}
use Rattle.storm_replay.specs.layers.Parts.{IsPart}
use Rattle.storm_replay.specs.layers.Parts.{part_verbs, part_by_each}
use Rattle.storm_replay.specs.Storm.{arrival, arrives_late, tenth_verbs, step_verbs, entries_for, storm_steps, storm_entries, by_each}
use Rattle.storm_replay.proofs.Storms.{plan_given}

unit_given : (unit : ℕ) (verbs : List Verb) → 1 ≤ unit → unit ≤ 64 → AllByRecursion IsVerb verbs → AreGiven (entries_for unit verbs)
unit_given unit [] low high all = tt
unit_given unit (v ∷ verbs) low high all = (record { in_range = (low, high); each = all.0 }, unit_given unit verbs low high all.1)

arrival_given : (line : Line) (index : ℕ) (comes : Bool) → (comes ≡ true → 1 ≤ index) → index < 2 ^ 32 → AllByRecursion IsVerb (arrival line index comes)
arrival_given line index true some few = ((some refl, few), tt)
arrival_given line index false some few = tt

late_index : (number unit index : ℕ) → arrives_late number unit index ≡ true → 1 ≤ index - 3
late_index number unit index t =
    let parts = and_parts (nat_le 4 index) (not (is_lost number unit (index - 3) 2)) t in
    let four : 4 ≤ index = grind (arith, nat_tests, parts.0) in
    omega (arith, four)

tenth_given : (index : ℕ) → AllByRecursion IsVerb (tenth_verbs index)
tenth_given index = cond_both (index % 10 == 0) _ _ (AllByRecursion IsVerb) (λ t. (tt, (tt, (tt, (tt, tt))))) (λ f. tt)

pub step_given : (number unit index : ℕ) → 1 ≤ index → index ≤ 10000 → AllByRecursion IsVerb (step_verbs number unit index)
step_given number unit index some few = (
  plan_given number unit index (omega (arith, few)),
  (
    tt,
    all_append IsVerb _ _ (arrival_given _ index (not (is_lost number unit index 1)) (λ t. some) (omega (arith, few)))
        (all_append IsVerb _ _ (arrival_given _ (index - 3) (arrives_late number unit index) (late_index number unit index) (omega (arith, few))) (tenth_given index)),
  ),
)

pub part_given : (number unit : ℕ) (part : Part) → IsPart part → AllByRecursion IsVerb (part_verbs number part unit)
part_given number unit Start small = (tt, (tt, (tt, tt)))
part_given number unit (Step index) small = step_given number unit index small.0 small.1
part_given number unit (End steps) small = (tt, ((omega arith, omega (arith, small)), (tt, (tt, (tt, (tt, (tt, (tt, (tt, (tt, tt))))))))))

units_given : (number units : ℕ) (part : Part) → units ≤ 64 → IsPart part → AreGiven (part_by_each number units part)
unfolding by_each
units_given number zero part few small = tt
units_given number (suc unit) part few small =
    all_append _ (part_by_each number unit part) (entries_for (suc unit) (part_verbs number part (suc unit))) (units_given number unit part (omega (arith, few)) small)
    (unit_given (suc unit) (part_verbs number part (suc unit)) (omega arith) few (part_given number (suc unit) part small))

steps_given : (number units steps : ℕ) → units ≤ 64 → steps ≤ 10000 → AreGiven (storm_steps number units steps)
unfolding storm_steps
steps_given number units zero few low = tt
steps_given number units (suc index) few low =
    all_append _ (storm_steps number units index) (part_by_each number units (Step (suc index))) (steps_given number units index few (omega (arith, low))) (units_given number units (Step (suc index)) few (omega arith, low))

pub storm_given : (number units steps : ℕ) → units ≤ 16 → steps ≤ 10000 → AreGiven (storm_entries number units steps)
storm_given number units steps few low =
    all_append _ (part_by_each number units Start) (storm_steps number units steps ++ part_by_each number units (End steps)) (units_given number units Start (omega (arith, few)) tt)
    (all_append _ (storm_steps number units steps) (part_by_each number units (End steps)) (steps_given number units steps (omega (arith, few)) low) (units_given number units (End steps) (omega (arith, few)) low))

-- the lines of what a unit does in a part are ones that a schedule may have
pub part_well_formed : (unit : ℕ) (verbs : List Verb) → 1 ≤ unit → unit ≤ 16 → AllByRecursion IsVerb verbs → AllByRecursion (IsWellFormed unit) verbs
part_well_formed unit [] low high all = tt
part_well_formed unit (v ∷ verbs) low high all = (record { in_range = (low, omega (arith, high)); each = all.0 }, part_well_formed unit verbs low high all.1)
