-- The worlds of a storm stand by rising unit, from 1 on.
use Rattle.std.proofs.Common.{◌≡◌, ℕ, zero, suc, ◌+◌, ◌≤◌, ◌<◌, inl, inr, Bool, true, ◌||◌, eqb, List, [], ◌∷◌, length, reverse, refl, sym, ap, ◌∙◌, subst, arith, Some, Result, Ok}
use Rattle.std.specs.List.{AllByRecursion, slice_get, enumerate_from}
use Rattle.std.specs.List.Sorted.{IsStrictlySortedBy}
use Rattle.std.specs.Ordering.{nat_cmp}
use Rattle.std.specs.Set.{is_member}
use Rattle.std.specs.declared.cmp.Ordering.TheVariants.{Less}
use Rattle.std.proofs.lemmas.Bool.{eq-eqb, cases_eq, or_right}
use Rattle.std.proofs.lemmas.Bool.Decides.{nat_tests}
use Rattle.std.proofs.lemmas.Map.Keys.{IsStrictlyIncreasing-from_sorted}
use Rattle.std.proofs.lemmas.Option.{none-some, slice_get_past, same_Some}
use Rattle.pitch_text.specs.declared.verb.ScheduleEntry.{ScheduleEntry}
use Rattle.pitch_text.specs.declared.verb.Verb.{Verb}
use Rattle.text_lines.specs.Text.{TextFault, entries_of}
use Rattle.pitch_text.specs.ScheduleGrammar.{entry as entry_grammar}
use Rattle.schedule_replay.specs.Replay.{limits_of, schedule_on}
use Rattle.schedule_replay.specs.Worlds.{IsWorldOf, AreWorldsOf, AreRunThrough}
use Rattle.storm_replay.specs.Storm.{storm_entries, storm_schedule}
use Rattle.storm_replay.specs.Summary.{storm_lines}
use Rattle.storm_replay.specs.layers.Running.{AreStormWorlds}
use Rattle.storm_replay.specs.layers.Units.{unit_course, counting, IsUnitDone, AreUnitsDone}
use Rattle.storm_replay.proofs.Naming.{named_within, each_named, verbs_are, limits_are}
use Rattle.world_model.specs.Stands.{WorldStands}
use Rattle.world_model.specs.declared.limits.Limits.{Limits}
use Rattle.world_model.specs.declared.world.World.{World}

-- ---- Numbers that rise
count_above : (m n k : ℕ) → m < n → AllByRecursion (λ y. nat_cmp m y ≡ Less) (counting n k)
unfolding counting
count_above m n zero lt = tt
count_above m n (suc k) lt = (grind (arith, nat_tests, lt), count_above m (n + 1) k (omega (arith, lt)))

count_sorted : (n k : ℕ) → IsStrictlySortedBy nat_cmp (counting n k)
unfolding counting IsStrictlySortedBy
count_sorted n zero = tt
count_sorted n (suc k) = (count_above n (n + 1) k (omega arith), count_sorted (n + 1) k)

count_has : (n k u : ℕ) → n ≤ u → u < n + k → is_member eqb (counting n k) u ≡ true
unfolding counting
count_has n zero u low high = absurd (omega (arith, low, high))
count_has n (suc k) u low high = elim (cases_eq u n) [
  | inl same ↦ ap (λ (b : Bool). b || is_member eqb (counting (n + 1) k) u) (eq-eqb u n same)
  | inr differ ↦ or_right (eqb u n) (is_member eqb (counting (n + 1) k) u) (count_has (n + 1) k u (omega (arith, low, differ)) (omega (arith, high)))
]

-- ---- The worlds of those units
turns_many : (before : List ScheduleEntry) (n k : ℕ) (ws : List World) → AreWorldsOf before (counting n k) ws → length ws ≡ k
unfolding counting
turns_many before n zero [] are = refl
turns_many before n zero (w ∷ ws) are = absurd are
turns_many before n (suc k) [] are = absurd are
turns_many before n (suc k) (w ∷ ws) are = let e = turns_many before (n + 1) k ws are.1 in omega (arith, e)

turns_each : (before : List ScheduleEntry) (n k : ℕ) (ws : List World) (i : ℕ) (world : World) → AreWorldsOf before (counting n k) ws → slice_get ws i ≡ Some world → IsWorldOf before (n + i) world
unfolding counting
turns_each before n k [] i world are at = absurd (none-some world (sym (slice_get_past [] i (omega arith)) ∙ at))
turns_each before n zero (w ∷ ws) i world are at = absurd are
turns_each before n (suc k) (w ∷ ws) zero world are at =
    let e : n ≡ n + 0 = omega arith in subst (λ (u : ℕ). IsWorldOf before u world) e (subst (IsWorldOf before n) (same_Some w world at) are.0)
turns_each before n (suc k) (w ∷ ws) (suc i) world are at =
    let e : (n + 1) + i ≡ n + suc i = omega arith in subst (λ (u : ℕ). IsWorldOf before u world) e (turns_each before (n + 1) k ws i world are.1 at)

-- ---- The worlds of a storm
-- a world in which a unit did its storm is the unit's after all lines
world_of : (number units steps unit : ℕ) (world : World) → 1 ≤ unit → unit ≤ units → IsUnitDone number steps unit world → IsWorldOf (reverse (storm_lines number units steps)) unit world
world_of number units steps unit world low high done =
    let course : List Verb = reverse (unit_course number unit steps) in
    let stands : WorldStands world unit (limits_of course) course = subst (λ (l : Limits). WorldStands world unit l course) (sym (limits_are number unit steps)) done in
    (each_named number units steps unit low high, subst (λ (d : List Verb). WorldStands world unit (limits_of d) d) (sym (verbs_are number units steps unit low high)) stands)

worlds_are : (number units steps n k : ℕ) (ws : List World) → 1 ≤ n → n + k ≤ units + 1 → AreUnitsDone number steps (counting n k) ws → AreWorldsOf (reverse (storm_lines number units steps)) (counting n k) ws
unfolding counting
worlds_are number units steps n zero [] low high are = tt
worlds_are number units steps n zero (w ∷ ws) low high are = absurd are
worlds_are number units steps n (suc k) [] low high are = absurd are
worlds_are number units steps n (suc k) (w ∷ ws) low high are =
    (world_of number units steps n w low (omega (arith, high)) are.0, worlds_are number units steps (n + 1) k ws (omega (arith, low)) (omega (arith, high)) are.1)

pub storm_worlds : (number units steps : ℕ) (worlds : List World) → AreUnitsDone number steps (counting 1 units) worlds → AreStormWorlds number units steps worlds
storm_worlds number units steps worlds are =
    let before = reverse (storm_lines number units steps) in
    let each = worlds_are number units steps 1 units worlds (omega arith) (omega arith) are in record {
      many = turns_many before 1 units worlds each;
      each = λ index world at. let e : 1 + index ≡ index + 1 = omega arith in subst (λ (u : ℕ). IsWorldOf before u world) e (turns_each before 1 units worlds index world each at);
    }

abbrev Read : Type 0
Read = Result (List (ℕ × (ℕ × Verb))) TextFault

-- the lines of the schedule's text are the storm's, by the law; so the worlds were run through it
pub storm_run : (number units steps : ℕ) (worlds : List World) → entries_of entry_grammar (storm_schedule number units steps) ≡ Ok (enumerate_from 1 (storm_entries number units steps))
    → AreUnitsDone number steps (counting 1 units) worlds → AreRunThrough (storm_schedule number units steps) worlds
storm_run number units steps worlds reads are = record {
  entries = storm_lines number units steps;
  read = ap (λ (r : Read). schedule_on r) reads;
  are = record {
    units = counting 1 units;
    rise = IsStrictlyIncreasing-from_sorted (counting 1 units) (count_sorted 1 units);
    all = λ unit named. let (low, high) = named_within number units steps unit named in count_has 1 units unit low (omega (arith, high));
    each = worlds_are number units steps 1 units worlds (omega arith) (omega arith) are;
  };
}
