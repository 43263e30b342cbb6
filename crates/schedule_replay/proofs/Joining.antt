-- The texts and the worlds of units, put together again.
use Rattle.std.proofs.Common.{◌≡◌, ◌≢◌, ℕ, zero, suc, ◌+◌, ◌<◌, ◌≤◌, inl, inr, Bool, true, false, cond, true≢false, eqb, List, [], ◌∷◌, ◌++◌, length, take, drop, map, reverse, Option, Some, None, Result, Vec, Global, Ok, Err, IfSome, refl, sym, ap, ◌∙◌, arith, append_assoc, subst}
use Rattle.std.proofs.Math.ListN.{set, length-set}
use Rattle.std.specs.List.{AllByRecursion, slice_get}
use Rattle.std.proofs.lemmas.Bool.{cases_Bool, cases_eq, cases_lt, eq-eqb, ne_eqb}
use Rattle.std.proofs.lemmas.Grind.{reverse_onto}
use Rattle.std.proofs.lemmas.List.{append-nil, drop-drop, drop_all}
use Rattle.std.proofs.lemmas.List.Elements.{filter-append}
use Rattle.std.proofs.lemmas.Option.{slice_get_past, same_Some}
use Rattle.pitch_fields.proofs.Lists.{get_set}
use Rattle.feed_lines.specs.Texts.{texts_after}
use Rattle.feed_lines.proofs.Texts.{texts_none, texts_first}
use Rattle.pitch_text.specs.declared.verb.ScheduleEntry.{ScheduleEntry}
use Rattle.pitch_text.specs.declared.verb.Verb.{Verb}
use Rattle.text_lines.specs.Text.{all_of}
use Rattle.text_lines.specs.declared.fault.TextError.{TextError}
use Rattle.text_lines.proofs.TextLemmas.{items_all}
use Rattle.pitch_text.specs.ScheduleGrammar.{entry, schedule_entry}
use Rattle.world_model.specs.Stands.{WorldStands}
use Rattle.world_model.specs.declared.world.World.{World}
use Rattle.schedule_replay.specs.layers.Merging.{own, first_piece}
use Rattle.schedule_replay.specs.Replay.{verbs_of, limits_of, replay_line, replay_of, replay_on, replay_text, schedule_of}
use Rattle.schedule_replay.specs.layers.Runs.{entries_among, without_fault, AreFilled, AreOf}
use Rattle.schedule_replay.specs.layers.Runs.{ArePartsOf, part_entries, part_texts, cut_by, Ran}
use Rattle.schedule_replay.specs.layers.Runs.{left_pieces, pieces_on, pieces_at, put_together}
use Rattle.schedule_replay.specs.layers.Runs.{AreRunsAt, is_filled, has_world}
use Rattle.schedule_replay.specs.layers.Stretches.{AreListed, IsCut, Owned, StretchPart, items_at, items_in}
use Rattle.schedule_replay.specs.layers.Stretches.{list_at, parts_of, stretches_of}
use Rattle.schedule_replay.specs.layers.Places.{AddsWorlds, IsPlace, ArePlaces, worlds_in}
use Rattle.schedule_replay.specs.declared.merging.Unmerged.{Unmerged}
use Rattle.schedule_replay.specs.declared.stretches.Stretch.{Stretch}
use Rattle.schedule_replay.specs.declared.units.UnitRun.{UnitRun}
use Rattle.schedule_replay.proofs.Places.{all_worlds_are}
use Rattle.schedule_replay.proofs.Reading.{said_all}
use Rattle.schedule_replay.proofs.Splitting.{own_same, own_other, verbs_own, lines_stand_apart}

abbrev Items : Type 0
Items = List (Result ScheduleEntry TextError)

-- ---- Places

slice_set_other : {X : Type 0} (xs : List X) (i j : ℕ) (y : X) → i ≢ j → slice_get (set xs i y) j ≡ slice_get xs j
slice_set_other [] i j y other = refl
slice_set_other (x ∷ xs) zero zero y other = absurd (other refl)
slice_set_other (x ∷ xs) zero (suc j) y other = refl
slice_set_other (x ∷ xs) (suc i) zero y other = refl
slice_set_other (x ∷ xs) (suc i) (suc j) y other = slice_set_other xs i j y (λ e. other (omega arith))

-- what is left of a run that was not put together yet
abbrev first_left : UnitRun → Unmerged
first_left run = record { text = run.text; lengths = run.lengths; next = 0; at = 0 }

-- a run at the place of its unit
run_put : (parts : List StretchPart) (places : List (Option World)) (lefts : List Unmerged) (run : UnitRun) → run.unit < length places → run.unit < length lefts → AreRunsAt parts places lefts → Ran parts run
    → AreRunsAt parts (set places run.unit run.world) (set lefts run.unit (first_left run))
run_put parts places lefts run low lower are ran = record {
  many = length-set places run.unit run.world ∙ are.many;
  texts = length-set lefts run.unit (first_left run) ∙ are.texts;
  each = λ unit world there. elim (cases_eq run.unit unit) [
    | inl same ↦
        let here : slice_get (set places run.unit run.world) run.unit ≡ Some (Some world) = ap (slice_get (set places run.unit run.world)) same ∙ there in
        let its : run.world ≡ Some world = same_Some run.world (Some world) (sym (get_set places run.unit run.world low) ∙ here) in
        record {
          are = subst (λ (u : ℕ). ArePartsOf u parts) same ran.are;
          done = subst (λ (w : Option World). IsPlace (reverse (part_entries unit parts)) unit w) its (subst (λ (u : ℕ). IsPlace (reverse (part_entries u parts)) u run.world) same ran.done);
          texts = ap (λ (u : ℕ). pieces_on (slice_get (set lefts run.unit (first_left run)) u)) (sym same) ∙ ap pieces_on (get_set lefts run.unit (first_left run) lower)
              ∙ ran.texts ∙ ap (λ (u : ℕ). part_texts u [] parts) same;
        }
    | inr other ↦
        let was : slice_get places unit ≡ Some (Some world) = sym (slice_set_other places run.unit unit run.world other) ∙ there in
        let its = are.each unit world was in
        record { are = its.are; done = its.done; texts = ap pieces_on (slice_set_other lefts run.unit unit (first_left run) other) ∙ its.texts }
  ];
}

-- the same, where the place and what is put there come under names of their own
pub puts_run : (parts : List StretchPart) (places : List (Option World)) (lefts : List Unmerged) (run : UnitRun) (place : ℕ) (world : Option World) (left : Unmerged) → place ≡ run.unit → world ≡ run.world → left ≡ record { text = run.text; lengths = run.lengths; next = 0; at = 0 }
    → place < length places → place < length lefts → AreRunsAt parts places lefts → Ran parts run → AreRunsAt parts (set places place world) (set lefts place left)
puts_run parts places lefts run place world left at is put low lower are ran =
    subst (λ (p : ℕ). AreRunsAt parts (set places p world) (set lefts p left)) (sym at)
    (subst (λ (w : Option World). AreRunsAt parts (set places run.unit w) (set lefts run.unit left)) (sym is)
    (subst (λ (l : Unmerged). AreRunsAt parts (set places run.unit run.world) (set lefts run.unit l)) (sym put)
    (run_put parts places lefts run (omega (arith, at, low)) (omega (arith, at, lower)) are ran)))

-- no runs yet
pub puts_none : (parts : List StretchPart) (places : List (Option World)) (lefts : List Unmerged) → ArePlaces [] places → length lefts ≡ 65 → AreRunsAt parts places lefts
puts_none parts places lefts none many = record {
  many = none.many;
  texts = many;
  each = λ unit world at. let named = (none.each unit (Some world) at).0 in absurd (omega (arith, named));
}

-- ---- All of a list, from its last element

pub all_at : {X : Type 0} (P : X → Type 0) (xs : List X) → ((n : ℕ) → IfSome (slice_get xs n) P) → AllByRecursion P xs
all_at P [] each = tt
all_at P (x ∷ xs) each = (each 0, all_at P xs (λ n. each (suc n)))

-- ---- The entries of all parts

pub all_entries : List StretchPart → List ScheduleEntry
all_entries [] = []
all_entries (p ∷ ps) = entries_among p.items ++ all_entries ps

abbrev AllParts : List StretchPart → Type 0
AllParts parts = AllByRecursion (λ (p : StretchPart). AreOf p.unit p.items) parts

-- each part is its unit's, where each unit's parts are
parts_each : (P : ℕ → Type 0) (ps : List StretchPart) → AllByRecursion (λ (p : StretchPart). P p.unit) ps → ((unit : ℕ) → P unit → ArePartsOf unit ps) → AllParts ps
parts_each P [] has are = tt
parts_each P (p ∷ ps) has are = ((are p.unit has.0).0 refl, parts_each P ps has.1 (λ unit it. (are unit it).1))

-- what is so of each unit that has a stretch is so of the unit of each part
parts_have : (P : ℕ → Type 0) (text : List ℕ) (all : List Owned) → ((unit : ℕ) → 0 < length (stretches_of unit all) → P unit) → AllByRecursion (λ (p : StretchPart). P p.unit) (parts_of text all)
parts_have P text [] has = tt
parts_have P text (o ∷ all) has =
    let first : 0 < length (stretches_of o.unit (o ∷ all)) =
    subst (λ (b : Bool). 0 < length (cond b (o.stretch ∷ stretches_of o.unit all) (stretches_of o.unit all))) (sym (eq-eqb o.unit o.unit refl)) (omega arith) in
    (has o.unit first, parts_have P text all (λ unit some. has unit (longer (eqb o.unit unit) o.stretch (stretches_of unit all) some)))
  where
    longer : (b : Bool) (s : Stretch) (list : List Stretch) → 0 < length list → 0 < length (cond b (s ∷ list) list)
    longer true s list some = omega arith
    longer false s list some = some

units_same : (text : List ℕ) (all : List Owned) → map (λ (p : StretchPart). p.unit) (parts_of text all) ≡ map (λ (o : Owned). o.unit) all
units_same text [] = refl
units_same text (o ∷ all) = ap (λ (us : List ℕ). o.unit ∷ us) (units_same text all)

good_append : (es fs : List ScheduleEntry) → without_fault (es ++ fs) ≡ without_fault es ++ without_fault fs
good_append [] fs = refl
good_append (e ∷ es) fs = ap (λ (xs : Items). Ok e ∷ xs) (good_append es fs)

all_good : (ps : List StretchPart) → AllParts ps → items_in ps ≡ without_fault (all_entries ps)
unfolding all_entries
all_good [] all = refl
all_good (p ∷ ps) all =
    ap (λ (xs : Items). xs ++ items_in ps) all.0.good ∙ ap (λ (xs : Items). without_fault (entries_among p.items) ++ xs) (all_good ps all.1) ∙ sym (good_append (entries_among p.items) (all_entries ps))

good_all : (es : List ScheduleEntry) → all_of (without_fault es) ≡ Ok es
good_all [] = refl
good_all (e ∷ es) = ap (λ (r : Result (List ScheduleEntry) TextError). with_one r) (good_all es)
  where
    with_one : Result (List ScheduleEntry) TextError → Result (List ScheduleEntry) TextError
    with_one (Ok xs) = Ok (e ∷ xs)
    with_one (Err f) = Err f

-- ---- The entries of a unit

abbrev Own : ℕ → List ScheduleEntry → Type 0
Own unit es = AllByRecursion (λ (e : ScheduleEntry). e.unit ≡ unit) es

own_append : (unit : ℕ) (es fs : List ScheduleEntry) → own unit (es ++ fs) ≡ own unit es ++ own unit fs
own_append unit es fs = filter-append (λ (e : ScheduleEntry). eqb e.unit unit) es fs

own_all : (unit : ℕ) (es : List ScheduleEntry) → Own unit es → own unit es ≡ es
own_all unit [] all = refl
own_all unit (e ∷ es) all = own_same unit e es (eq-eqb e.unit unit all.0) ∙ ap (λ (l : List ScheduleEntry). e ∷ l) (own_all unit es all.1)

own_none : (unit other : ℕ) (es : List ScheduleEntry) → other ≢ unit → Own other es → own unit es ≡ []
own_none unit other [] apart all = refl
own_none unit other (e ∷ es) apart all = own_other unit e es (ne_eqb e.unit unit (λ same. apart (sym all.0 ∙ same))) ∙ own_none unit other es apart all.1

own_turned : (b : Bool) (e : ScheduleEntry) (l : List ScheduleEntry) → reverse l ++ cond b (e ∷ []) [] ≡ reverse (cond b (e ∷ l) l)
own_turned true e l = sym (reverse_onto l e [])
own_turned false e l = append-nil (reverse l)

own_reverse : (unit : ℕ) (es : List ScheduleEntry) → own unit (reverse es) ≡ reverse (own unit es)
own_reverse unit [] = refl
own_reverse unit (e ∷ es) =
    ap (own unit) (reverse_onto es e []) ∙ own_append unit (reverse es) (e ∷ []) ∙ ap (λ (l : List ScheduleEntry). l ++ own unit (e ∷ [])) (own_reverse unit es)
    ∙ own_turned (eqb e.unit unit) e (own unit es)

own_parts : (unit : ℕ) (ps : List StretchPart) → AllParts ps → own unit (all_entries ps) ≡ part_entries unit ps
unfolding all_entries
own_parts unit [] all = refl
own_parts unit (p ∷ ps) all = elim (cases_eq p.unit unit) [
  | inl same ↦
      own_append unit (entries_among p.items) (all_entries ps)
      ∙ ap (λ (l : List ScheduleEntry). l ++ own unit (all_entries ps)) (own_all unit (entries_among p.items) (subst (λ (u : ℕ). Own u (entries_among p.items)) same all.0.own))
      ∙ ap (λ (l : List ScheduleEntry). entries_among p.items ++ l) (own_parts unit ps all.1)
      ∙ sym (ap (λ (b : Bool). cond b (entries_among p.items ++ part_entries unit ps) (part_entries unit ps)) (eq-eqb p.unit unit same))
  | inr other ↦
      own_append unit (entries_among p.items) (all_entries ps)
      ∙ ap (λ (l : List ScheduleEntry). l ++ own unit (all_entries ps)) (own_none unit p.unit (entries_among p.items) other all.0.own)
      ∙ own_parts unit ps all.1
      ∙ sym (ap (λ (b : Bool). cond b (entries_among p.items ++ part_entries unit ps) (part_entries unit ps)) (ne_eqb p.unit unit other))
]

no_parts : (P : ℕ → Type 0) (unit : ℕ) (ps : List StretchPart) → AllByRecursion (λ (p : StretchPart). P p.unit) ps → (P unit → ⊥) → part_entries unit ps ≡ []
no_parts P unit [] has none = refl
no_parts P unit (p ∷ ps) has none =
    ap (λ (b : Bool). cond b (entries_among p.items ++ part_entries unit ps) (part_entries unit ps)) (ne_eqb p.unit unit (λ same. none (subst P same has.0))) ∙ no_parts P unit ps has.1 none

-- ---- The texts

texts_append : (es fs before : List ScheduleEntry) → texts_after replay_line before (es ++ fs) ≡ texts_after replay_line before es ++ texts_after replay_line (reverse es ++ before) fs
texts_append [] fs before = sym (ap (λ (t : List ℕ). t ++ texts_after replay_line before fs) (texts_none replay_line before))
texts_append (e ∷ es) fs before =
    texts_first replay_line before e (es ++ fs)
    ∙ ap (λ (t : List ℕ). replay_line before e ++ t) (texts_append es fs (e ∷ before))
    ∙ sym (append_assoc (replay_line before e) (texts_after replay_line (e ∷ before) es) (texts_after replay_line (reverse es ++ (e ∷ before)) fs))
    ∙ ap (λ (t : List ℕ). t ++ texts_after replay_line (reverse es ++ (e ∷ before)) fs) (sym (texts_first replay_line before e es))
    ∙ ap (λ (l : List ScheduleEntry). texts_after replay_line before (e ∷ es) ++ texts_after replay_line l fs) (sym (ap (λ (l : List ScheduleEntry). l ++ before) (reverse_onto es e []) ∙ append_assoc (reverse es) (e ∷ []) before))

-- lines of a unit write after the lines of that unit alone what they write after all
texts_apart : (unit : ℕ) (es before : List ScheduleEntry) → Own unit es → texts_after replay_line before es ≡ texts_after replay_line (own unit before) es
texts_apart unit [] before all = texts_none replay_line before ∙ sym (texts_none replay_line (own unit before))
texts_apart unit (e ∷ es) before all =
    texts_first replay_line before e es
    ∙ ap (λ (t : List ℕ). t ++ texts_after replay_line (e ∷ before) es) (lines_stand_apart before e ∙ ap (λ (u : ℕ). replay_line (own u before) e) all.0)
    ∙ ap (λ (t : List ℕ). replay_line (own unit before) e ++ t) (texts_apart unit es (e ∷ before) all.1
    ∙ ap (λ (l : List ScheduleEntry). texts_after replay_line l es) (own_same unit e before (eq-eqb e.unit unit all.0)))
    ∙ sym (texts_first replay_line (own unit before) e es)

own_later_lines : (unit : ℕ) (es before : List ScheduleEntry) → Own unit es → own unit (reverse es ++ before) ≡ reverse es ++ own unit before
own_later_lines unit es before all =
    own_append unit (reverse es) before ∙ ap (λ (l : List ScheduleEntry). l ++ own unit before) (own_reverse unit es ∙ ap (λ (l : List ScheduleEntry). reverse l) (own_all unit es all))

own_others : (unit other : ℕ) (es before : List ScheduleEntry) → other ≢ unit → Own other es → own unit (reverse es ++ before) ≡ own unit before
own_others unit other es before apart all =
    own_append unit (reverse es) before ∙ ap (λ (l : List ScheduleEntry). l ++ own unit before) (own_reverse unit es ∙ ap (λ (l : List ScheduleEntry). reverse l) (own_none unit other es apart all))

joins : (P : ℕ → Type 0) (parts : List StretchPart) (pieces : ℕ → List (List ℕ)) (before : List ScheduleEntry) → AllByRecursion (λ (p : StretchPart). P p.unit) parts → AllParts parts
    → ((unit : ℕ) → P unit → pieces unit ≡ part_texts unit (own unit before) parts) → texts_after replay_line before (all_entries parts) ≡ put_together pieces (map (λ (p : StretchPart). p.unit) parts)
unfolding all_entries
joins P [] pieces before has all are = texts_none replay_line before
joins P (s ∷ ps) pieces before has all are =
    let es : List ScheduleEntry = entries_among s.items in
    let here : pieces s.unit ≡ texts_after replay_line (own s.unit before) es ∷ part_texts s.unit (reverse es ++ own s.unit before) ps =
    are s.unit has.0 ∙ ap (λ (b : Bool). cond b (texts_after replay_line (own s.unit before) es ∷ part_texts s.unit (reverse es ++ own s.unit before) ps) (part_texts s.unit (own s.unit before) ps)) (eq-eqb s.unit s.unit refl) in
    let first : texts_after replay_line before es ≡ first_piece (pieces s.unit) = texts_apart s.unit es before all.0.own ∙ sym (ap first_piece here) in
    let next : (unit : ℕ) → P unit → cond (eqb s.unit unit) (drop 1 (pieces unit)) (pieces unit) ≡ part_texts unit (own unit (reverse es ++ before)) ps = λ unit it. elim (cases_eq s.unit unit) [
      | inl same ↦
          ap (λ (b : Bool). cond b (drop 1 (pieces unit)) (pieces unit)) (eq-eqb s.unit unit same)
          ∙ ap (λ (u : ℕ). drop 1 (pieces u)) (sym same) ∙ ap (drop 1) here
          ∙ ap (λ (l : List ScheduleEntry). part_texts s.unit l ps) (sym (own_later_lines s.unit es before all.0.own))
          ∙ ap (λ (u : ℕ). part_texts u (own u (reverse es ++ before)) ps) same
      | inr other ↦
          ap (λ (b : Bool). cond b (drop 1 (pieces unit)) (pieces unit)) (ne_eqb s.unit unit other)
          ∙ are unit it
          ∙ ap (λ (b : Bool). cond b (texts_after replay_line (own unit before) es ∷ part_texts unit (reverse es ++ own unit before) ps) (part_texts unit (own unit before) ps)) (ne_eqb s.unit unit other)
          ∙ ap (λ (l : List ScheduleEntry). part_texts unit l ps) (sym (own_others unit s.unit es before other all.0.own))
    ] in
    texts_append es (all_entries ps) before
    ∙ ap (λ (t : List ℕ). t ++ texts_after replay_line (reverse es ++ before) (all_entries ps)) first
    ∙ ap (λ (t : List ℕ). first_piece (pieces s.unit) ++ t) (joins P ps (λ unit. cond (eqb s.unit unit) (drop 1 (pieces unit)) (pieces unit)) (reverse es ++ before) has.1 all.1 next)

-- ---- The whole

abbrev Filled : List (Option World) → ℕ → Type 0
Filled places unit = has_world places unit ≡ true

filled_cases : (o : Option (Option World)) → is_filled o ≡ true → (world : World) × (o ≡ Some (Some world))
filled_cases None h = absurd (true≢false (sym h))
filled_cases (Some None) h = absurd (true≢false (sym h))
filled_cases (Some (Some world)) h = (world, refl)

parts_at : (parts : List StretchPart) (places : List (Option World)) (lefts : List Unmerged) → AreRunsAt parts places lefts → (unit : ℕ) → Filled places unit
    → ArePartsOf unit parts × (pieces_at lefts unit ≡ part_texts unit [] parts)
parts_at parts places lefts are unit filled = let there = filled_cases (slice_get places unit) filled in let its = are.each unit there.0 there.1 in (its.are, its.texts)

place_by_verbs : (a b : List ScheduleEntry) (unit : ℕ) (place : Option World) → verbs_of unit a ≡ verbs_of unit b → IsPlace a unit place → IsPlace b unit place
place_by_verbs a b unit None same is = sym same ∙ is
place_by_verbs a b unit (Some world) same is = subst (λ (done : List Verb). (0 < length done) × WorldStands world unit (limits_of done) done) same is

verbs_by_own : (a b : List ScheduleEntry) (unit : ℕ) → own unit a ≡ own unit b → verbs_of unit a ≡ verbs_of unit b
verbs_by_own a b unit same = sym (verbs_own unit a) ∙ ap (verbs_of unit) same ∙ verbs_own unit b

own_again : (unit : ℕ) (es : List ScheduleEntry) → own unit (own unit es) ≡ own unit es
own_again unit [] = refl
own_again unit (e ∷ es) = elim (cases_Bool (eqb e.unit unit)) [
  | inl same ↦
      ap (own unit) (own_same unit e es same) ∙ own_same unit e (own unit es) same ∙ ap (λ (l : List ScheduleEntry). e ∷ l) (own_again unit es) ∙ sym (own_same unit e es same)
  | inr other ↦ ap (own unit) (own_other unit e es other) ∙ own_again unit es ∙ sym (own_other unit e es other)
]

-- what a unit's lines did, by the parts and by the whole
verbs_by_parts : (unit : ℕ) (ps : List StretchPart) → AllParts ps → verbs_of unit (reverse (part_entries unit ps)) ≡ verbs_of unit (reverse (all_entries ps))
verbs_by_parts unit ps all =
    let its : own unit (all_entries ps) ≡ part_entries unit ps = own_parts unit ps all in
    verbs_by_own (reverse (part_entries unit ps)) (reverse (all_entries ps)) unit
    (ap (λ (l : List ScheduleEntry). own unit (reverse l)) (sym its) ∙ own_reverse unit (own unit (all_entries ps)) ∙ ap (λ (l : List ScheduleEntry). reverse l) (own_again unit (all_entries ps)) ∙ sym (own_reverse unit (all_entries ps)))

-- every unit's place, by the whole
whole_places : (ps : List StretchPart) (places : List (Option World)) (lefts : List Unmerged) → AreRunsAt ps places lefts → AllByRecursion (λ (p : StretchPart). Filled places p.unit) ps → AllParts ps → ArePlaces (reverse (all_entries ps)) places
whole_places ps places lefts are has all = record {
  many = are.many;
  low = λ unit named. elim (cases_lt unit 65) [
    | inl low ↦ low
    | inr high ↦
        let none : slice_get places unit ≡ None = slice_get_past places unit (omega (arith, high, are.many)) in
        let empty = silent unit (λ filled. true≢false (sym (ap is_filled (sym none) ∙ filled))) in
        absurd (omega (arith, named, ap (λ (vs : List Verb). length vs) empty))
  ];
  each = λ unit place at. by unit place at;
}
  where
    silent : (unit : ℕ) → (Filled places unit → ⊥) → verbs_of unit (reverse (all_entries ps)) ≡ []
    silent unit none = sym (verbs_by_parts unit ps all) ∙ ap (λ (l : List ScheduleEntry). verbs_of unit (reverse l)) (no_parts (Filled places) unit ps has none)

    by : (unit : ℕ) (place : Option World) → slice_get places unit ≡ Some place → IsPlace (reverse (all_entries ps)) unit place
    by unit None at = silent unit (λ filled. true≢false (sym (ap is_filled (sym at) ∙ filled)))
    by unit (Some world) at = place_by_verbs (reverse (part_entries unit ps)) (reverse (all_entries ps)) unit (Some world) (verbs_by_parts unit ps all) (are.each unit world at).done

-- all units were run apart, and their texts joined
pub record RunsApart (text : List ℕ) (places : List (Option World)) (order : List ℕ) (lefts : List Unmerged) : Type 0 where
  pub entries : List ScheduleEntry
  pub read : schedule_of text ≡ Ok entries
  pub are : ArePlaces (reverse entries) places
  pub written : replay_text entries ≡ put_together (pieces_at lefts) order

pub runs_apart : (text order : List ℕ) (lists : List (Vec Stretch Global)) (places : List (Option World)) (lefts : List Unmerged) (cut : IsCut text order lists) → AreRunsAt (parts_of text cut.all) places lefts → AreFilled lists places
    → RunsApart text places order lefts
runs_apart text order lists places lefts cut are filled =
    let ps : List StretchPart = parts_of text cut.all in
    let have : AllByRecursion (λ (p : StretchPart). Filled places p.unit) ps =
    parts_have (Filled places) text cut.all (λ unit some. filled unit (subst (λ (list : List Stretch). 0 < length list) (sym (cut.each unit)) some)) in
    let all : AllParts ps = parts_each (Filled places) ps have (λ unit it. (parts_at ps places lefts are unit it).0) in
    let items : items_at 1 text ≡ without_fault (all_entries ps) = cut.said ∙ all_good ps all in
    record {
      entries = all_entries ps;
      read = said_all text (items_at 1 text) (all_entries ps) (items_all entry schedule_entry text) (ap (λ (xs : Items). all_of xs) items ∙ good_all (all_entries ps));
      are = whole_places ps places lefts are have all;
      written = joins (Filled places) ps (pieces_at lefts) [] have all (λ unit it. (parts_at ps places lefts are unit it).1)
          ∙ ap (put_together (pieces_at lefts)) (units_same text cut.all ∙ cut.whose);
    }

-- the units of a cut text were run from nothing, with its lists as they were lent
pub ran_apart : {text order : List ℕ} {lists lent : List (Vec Stretch Global)} {fresh places : List (Option World)} {empty lefts : List Unmerged} → IsCut text order lists → lent ≡ lists → ArePlaces [] fresh → length empty ≡ 65
    → ((all : List Owned) → AreListed all lent → AreRunsAt (parts_of text all) fresh empty → AreRunsAt (parts_of text all) places lefts) → AreFilled lent places → RunsApart text places order lefts
ran_apart {text} {order} {lists} {lent} {fresh} {places} {empty} {lefts} cut same none many ran filled =
    let listed : AreListed cut.all lent = λ unit. ap (λ (l : List (Vec Stretch Global)). list_at l unit) same ∙ cut.each unit in
    runs_apart text order lists places lefts cut (ran cut.all listed (puts_none (parts_of text cut.all) fresh empty none many))
    (subst (λ (l : List (Vec Stretch Global)). AreFilled l places) same filled)

-- then what was put together is what the text's replay writes
pub apart_written : {text order lent : List ℕ} {places : List (Option World)} {lefts : List Unmerged} (old new : List ℕ) → RunsApart text places order lefts → lent ≡ order → new ≡ old ++ put_together (pieces_at lefts) lent
    → (written : List ℕ) × (replay_of text ≡ Ok written) × (new ≡ old ++ written)
apart_written {text} {order} {lent} {places} {lefts} old new all same put = (
  replay_text all.entries,
  ap replay_on all.read,
  put ∙ ap (λ (l : List ℕ). old ++ put_together (pieces_at lefts) l) same ∙ ap (λ (t : List ℕ). old ++ t) (sym all.written),
)

-- and the worlds in the places were run through the text
pub apart_worlds : {text order : List ℕ} {places : List (Option World)} {lefts : List Unmerged} (old new : List World) → RunsApart text places order lefts → new ≡ old ++ worlds_in places → AddsWorlds text old new
apart_worlds {text} {order} {places} {lefts} old new all put =
    record { added = worlds_in places; appended = put; run = record { entries = all.entries; read = all.read; are = all_worlds_are places (reverse all.entries) all.are } }

-- ---- At each stretch the next text

drop_there : {X : Type 0} (xs : List X) (i : ℕ) (x : X) → slice_get xs i ≡ Some x → drop i xs ≡ x ∷ drop (i + 1) xs
drop_there {X} [] i x at = absurd (none_some (sym (slice_get_past [] i (omega arith)) ∙ at))
  where
    none_some : ◌≡◌ {A = Option X} None (Some x) → ⊥
    none_some h = cc
drop_there {X} (y ∷ xs) zero x at = ap (λ (z : X). z ∷ xs) (same_Some y x at)
drop_there {X} (y ∷ xs) (suc i) x at = let e : suc (i + 1) ≡ suc i + 1 = omega arith in drop_there xs i x at ∙ ap (λ (n : ℕ). x ∷ drop n (y ∷ xs)) e

-- the next text, and those after it
pub next_piece : (lengths text : List ℕ) (next at size : ℕ) → slice_get lengths next ≡ Some size
    → cut_by (drop next lengths) (drop at text) ≡ take size (drop at text) ∷ cut_by (drop (next + 1) lengths) (drop (at + size) text)
next_piece lengths text next at size there =
    ap (λ (ns : List ℕ). cut_by ns (drop at text)) (drop_there lengths next size there)
    ∙ ap (λ (t : List ℕ). take size (drop at text) ∷ cut_by (drop (next + 1) lengths) t) (drop-drop size at text)

joined_same : (ss : List ℕ) (p q : ℕ → List (List ℕ)) → ((unit : ℕ) → p unit ≡ q unit) → put_together p ss ≡ put_together q ss
joined_same [] p q same = refl
joined_same (s ∷ ss) p q same =
    ap (λ (ps : List (List ℕ)). first_piece ps ++ put_together (λ unit. cond (eqb s unit) (drop 1 (p unit)) (p unit)) ss) (same s)
    ∙ ap (λ (t : List ℕ). first_piece (q s) ++ t) (joined_same ss (λ unit. cond (eqb s unit) (drop 1 (p unit)) (p unit)) (λ unit. cond (eqb s unit) (drop 1 (q unit)) (q unit))
    (λ unit. ap (λ (ps : List (List ℕ)). cond (eqb s unit) (drop 1 ps) ps) (same unit)))

taken_at : (lefts : List Unmerged) (unit : ℕ) (left left' : Unmerged) → unit < length lefts → slice_get lefts unit ≡ Some left → left_pieces left' ≡ drop 1 (left_pieces left)
    → (v : ℕ) → cond (eqb unit v) (drop 1 (pieces_at lefts v)) (pieces_at lefts v) ≡ pieces_at (set lefts unit left') v
taken_at lefts unit left left' lt at taken v = elim (cases_eq unit v) [
  | inl same ↦
      ap (λ (b : Bool). cond b (drop 1 (pieces_at lefts v)) (pieces_at lefts v)) (eq-eqb unit v same)
      ∙ ap (λ (n : ℕ). drop 1 (pieces_at lefts n)) (sym same) ∙ ap (λ (o : Option Unmerged). drop 1 (pieces_on o)) at ∙ sym taken
      ∙ ap pieces_on (sym (get_set lefts unit left' lt)) ∙ ap (pieces_at (set lefts unit left')) same
  | inr other ↦
      ap (λ (b : Bool). cond b (drop 1 (pieces_at lefts v)) (pieces_at lefts v)) (ne_eqb unit v other) ∙ ap pieces_on (sym (slice_set_other lefts unit v left' other))
]

-- what was appended, and what is left, are the whole
pub Merging : List ℕ → ℕ → List Unmerged → List Unmerged → List ℕ → List ℕ → Type 0
Merging ss i first lefts old now = old ++ put_together (pieces_at first) ss ≡ now ++ put_together (pieces_at lefts) (drop i ss)

pub merging_none : (ss : List ℕ) (lefts : List Unmerged) (old : List ℕ) → Merging ss 0 lefts lefts old old
unfolding Merging
merging_none ss lefts old = refl

pub merging_more : (ss : List ℕ) (i : ℕ) (s : ℕ) (first lefts : List Unmerged) (old now new : List ℕ) (left left' : Unmerged) → slice_get ss i ≡ Some s → Merging ss i first lefts old now
    → s < length lefts → slice_get lefts s ≡ Some left → new ≡ now ++ first_piece (left_pieces left) → left_pieces left' ≡ drop 1 (left_pieces left) → Merging ss (i + 1) first (set lefts s left') old new
unfolding Merging
merging_more ss i s first lefts old now new left left' there so_far lt at text taken =
    so_far
    ∙ ap (λ (l : List ℕ). now ++ put_together (pieces_at lefts) l) (drop_there ss i s there)
    ∙ ap (λ (o : Option Unmerged). now ++ (first_piece (pieces_on o) ++ put_together (λ unit. cond (eqb s unit) (drop 1 (pieces_at lefts unit)) (pieces_at lefts unit)) (drop (i + 1) ss))) at
    ∙ ap (λ (t : List ℕ). now ++ (first_piece (left_pieces left) ++ t)) (joined_same (drop (i + 1) ss) (λ unit. cond (eqb s unit) (drop 1 (pieces_at lefts unit)) (pieces_at lefts unit)) (pieces_at (set lefts s left')) (taken_at lefts s left left' lt at taken))
    ∙ sym (append_assoc now (first_piece (left_pieces left)) (put_together (pieces_at (set lefts s left')) (drop (i + 1) ss)))
    ∙ ap (λ (t : List ℕ). t ++ put_together (pieces_at (set lefts s left')) (drop (i + 1) ss)) (sym text)

pub merging_end : (ss : List ℕ) (i : ℕ) (first lefts : List Unmerged) (old now : List ℕ) → length ss ≤ i → Merging ss i first lefts old now → now ≡ old ++ put_together (pieces_at first) ss
unfolding Merging
merging_end ss i first lefts old now end all =
    sym (append-nil now) ∙ ap (λ (l : List ℕ). now ++ put_together (pieces_at lefts) l) (sym (drop_all i ss end)) ∙ sym all
