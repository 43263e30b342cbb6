-- The units of a text run apart.
use Rattle.std.proofs.Common.{◌≡◌, ◌≢◌, ℕ, zero, suc, ◌+◌, ◌-◌, ◌≤◌, inl, inr, Bool, true, false, cond, eqb, List, [], ◌∷◌, ◌++◌, length, length-append, take, drop, map, reverse, Option, Some, None, Result, Vec, Global, IfOk, Ok, Err, refl, sym, ap, ◌∙◌, arith, append_assoc, subst}
use Rattle.std.specs.Prelude.{option_map}
use Rattle.std.specs.List.{cons_option, AllByRecursion, slice_get}
use Rattle.std.proofs.lemmas.Bool.{cases_eq, eq-eqb, ne_eqb}
use Rattle.std.proofs.lemmas.List.{append-nil, reverse-append, take_all, take-append-le, drop-append-le, length-drop, nil_from_length, map_push}
use Rattle.std.proofs.lemmas.Option.{slice_get_past}
use Rattle.pitch_fields.proofs.Lists.{all_push}
use Rattle.feed_lines.specs.Texts.{texts_after}
use Rattle.feed_lines.proofs.Texts.{texts_none, texts_more, reverse_more}
use Rattle.pitch_text.specs.ScheduleGrammar.{entry, schedule_entry}
use Rattle.pitch_text.specs.WellFormed.{IsWellFormed, AreWellFormed}
use Rattle.pitch_text.specs.declared.verb.ScheduleEntry.{ScheduleEntry}
use Rattle.pitch_text.specs.declared.verb.Verb.{Verb}
use Rattle.text_lines.specs.Text.{TextFault, said_on, said_from, line_of, lines_of}
use Rattle.text_lines.specs.Items.{item_of}
use Rattle.text_lines.specs.declared.fault.Fault.{Fault}
use Rattle.text_lines.specs.declared.fault.TextError.{TextError}
use Rattle.text_lines.specs.declared.fault.TextError.TheVariants as errors
use Rattle.world_model.specs.declared.world.World.{World}
use Rattle.schedule_replay.specs.Replay.{replay_line}
use Rattle.schedule_replay.specs.layers.Runs.{later, entries_among, without_fault, AreOf}
use Rattle.schedule_replay.specs.layers.Runs.{ArePartsOf, part_entries, part_texts, RunsLines}
use Rattle.schedule_replay.specs.layers.Runs.{cut_by, lengths_total, Ran}
use Rattle.schedule_replay.specs.layers.Stretches.{AreListed, Owned, StretchPart, items_at, list_at}
use Rattle.schedule_replay.specs.layers.Stretches.{part_at, parts_of, stretches_of, unit_parts}
use Rattle.schedule_replay.specs.layers.Places.{IsPlace}
use Rattle.schedule_replay.specs.declared.stretches.Stretch.{Stretch}
use Rattle.schedule_replay.specs.declared.units.UnitRun.{UnitRun}
use Rattle.schedule_replay.specs.declared.unrun.CantRunApart.{CantRunApart}

abbrev Items : Type 0
Items = List (Result ScheduleEntry TextError)

-- ---- Lines that stand later

later_item : ℕ → Result ScheduleEntry TextError → Result ScheduleEntry TextError
later_item k (Ok e) = Ok (later k e)
later_item k (Err (errors.Bad line column cause)) = Err (errors.Bad (line + k) column cause)
later_item k (Err errors.OutOfMemory) = Err errors.OutOfMemory

item_front : (o : Option (Result (ℕ × (ℕ × Verb)) TextFault)) (said : List (Result (ℕ × (ℕ × Verb)) TextFault)) → map (item_of schedule_entry) (cons_option o said) ≡ cons_option (option_map (item_of schedule_entry) o) (map (item_of schedule_entry) said)
item_front None said = refl
item_front (Some x) said = refl

item_later : (read : Result (Option (ℕ × Verb)) Fault) (n k : ℕ) (rest : Items)
    → cons_option (option_map (item_of schedule_entry) (said_on (n + k) read)) (map (later_item k) rest) ≡ map (later_item k) (cons_option (option_map (item_of schedule_entry) (said_on n read)) rest)
unfolding later_item
item_later (Err f) n k rest = refl
item_later (Ok None) n k rest = refl
item_later (Ok (Some x)) n k rest = refl

lines_later : (ls : List (List ℕ)) (n k : ℕ) → map (item_of schedule_entry) (said_from entry (n + k) ls) ≡ map (later_item k) (map (item_of schedule_entry) (said_from entry n ls))
lines_later [] n k = refl
lines_later (l ∷ ls) n k =
    let e : n + k + 1 ≡ n + 1 + k = omega arith in
    item_front (said_on (n + k) (line_of entry l)) (said_from entry (n + k + 1) ls)
    ∙ ap (λ (m : ℕ). cons_option (option_map (item_of schedule_entry) (said_on (n + k) (line_of entry l))) (map (item_of schedule_entry) (said_from entry m ls))) e
    ∙ ap (λ (xs : Items). cons_option (option_map (item_of schedule_entry) (said_on (n + k) (line_of entry l))) xs) (lines_later ls (n + 1) k)
    ∙ item_later (line_of entry l) n k (map (item_of schedule_entry) (said_from entry (n + 1) ls))
    ∙ ap (λ (xs : Items). map (later_item k) xs) (sym (item_front (said_on n (line_of entry l)) (said_from entry (n + 1) ls)))

good_later : (k : ℕ) (es : List ScheduleEntry) → map (later_item k) (without_fault es) ≡ without_fault (map (later k) es)
unfolding later_item
good_later k [] = refl
good_later k (e ∷ es) = ap (λ (xs : Items). Ok (later k e) ∷ xs) (good_later k es)

entries_of_good : (es : List ScheduleEntry) → entries_among (without_fault es) ≡ es
entries_of_good [] = refl
entries_of_good (e ∷ es) = ap (λ (l : List ScheduleEntry). e ∷ l) (entries_of_good es)

good_more : (es : List ScheduleEntry) (e : ScheduleEntry) (more : Items) → without_fault es ++ Ok e ∷ more ≡ without_fault (es ++ e ∷ []) ++ more
good_more [] e more = refl
good_more (x ∷ es) e more = ap (λ (xs : Items). Ok x ∷ xs) (good_more es e more)

-- ---- All of a list

own_later : (unit k : ℕ) (es : List ScheduleEntry) → AllByRecursion (λ (e : ScheduleEntry). e.unit ≡ unit) es → AllByRecursion (λ (e : ScheduleEntry). e.unit ≡ unit) (map (later k) es)
own_later unit k [] all = tt
own_later unit k (e ∷ es) all = (all.0, own_later unit k es all.1)

-- ---- The lines of a stretch

-- the lines so far were done
pub record Going (unit lines : ℕ) (items left : Items) (first place : Option World) (old new : List ℕ) : Type 0 where
  pub passed : List ScheduleEntry
  pub split : items ≡ without_fault passed ++ left
  pub formed : AreWellFormed left
  pub own : AllByRecursion (λ (e : ScheduleEntry). e.unit ≡ unit) passed
  pub goes : (before : List ScheduleEntry) → IsPlace before unit first → IsPlace (reverse (map (later lines) passed) ++ before) unit place × (new ≡ old ++ texts_after replay_line before (map (later lines) passed))

pub goes_none : (unit lines : ℕ) (items : Items) (first : Option World) (old : List ℕ) → AreWellFormed items → Going unit lines items items first first old old
goes_none unit lines items first old formed = record {
  passed = [];
  split = refl;
  formed = formed;
  own = tt;
  goes = λ before is. (is, sym (ap (λ (t : List ℕ). old ++ t) (texts_none replay_line before) ∙ append-nil old));
}

pub formed_next : (unit lines : ℕ) (items left more : Items) (item : Result ScheduleEntry TextError) (e : ScheduleEntry) (first place : Option World) (old new : List ℕ) → left ≡ item ∷ more → item ≡ Ok e
    → Going unit lines items left first place old new → IsWellFormed e.unit e.verb
formed_next unit lines items left more item e first place old new at is g = (subst AreWellFormed (at ∙ ap (λ (i : Result ScheduleEntry TextError). i ∷ more) is) g.formed).0

pub goes_more : (unit lines : ℕ) (items left more : Items) (item : Result ScheduleEntry TextError) (e : ScheduleEntry) (first place place' : Option World) (old new new' : List ℕ) → left ≡ item ∷ more → item ≡ Ok e
    → e.unit ≡ unit → ((before : List ScheduleEntry) → IsPlace before e.unit place → IsPlace (later lines e ∷ before) e.unit place') → ((before : List ScheduleEntry) → IsPlace before e.unit place → new' ≡ new ++ replay_line before (later lines e))
    → Going unit lines items left first place old new → Going unit lines items more first place' old new'
goes_more unit lines items left more item e first place place' old new new' at is own place_goes text_goes g =
    let front : left ≡ Ok e ∷ more = at ∙ ap (λ (i : Result ScheduleEntry TextError). i ∷ more) is in
    let grown : map (later lines) (g.passed ++ e ∷ []) ≡ map (later lines) g.passed ++ later lines e ∷ [] = map_push (later lines) g.passed e in
    record {
      passed = g.passed ++ e ∷ [];
      split = g.split ∙ ap (λ (l : Items). without_fault g.passed ++ l) front ∙ good_more g.passed e more;
      formed = (subst AreWellFormed front g.formed).1;
      own = all_push (λ (x : ScheduleEntry). x.unit ≡ unit) g.passed e g.own own;
      goes = λ before first_is.
          let so_far = g.goes before first_is in
          let lines_before : List ScheduleEntry = reverse (map (later lines) g.passed) ++ before in
          let here : IsPlace lines_before e.unit place = subst (λ (u : ℕ). IsPlace lines_before u place) (sym own) so_far.0 in
          let turned : later lines e ∷ lines_before ≡ reverse (map (later lines) (g.passed ++ e ∷ [])) ++ before =
          ap (λ (l : List ScheduleEntry). l ++ before) (sym (ap (λ (l : List ScheduleEntry). reverse l) grown ∙ reverse_more (map (later lines) g.passed) (later lines e))) in (
            subst (λ (u : ℕ). IsPlace (reverse (map (later lines) (g.passed ++ e ∷ [])) ++ before) u place') own (subst (λ (l : List ScheduleEntry). IsPlace l e.unit place') turned (place_goes lines_before here)),
            text_goes lines_before here ∙ ap (λ (t : List ℕ). t ++ replay_line lines_before (later lines e)) so_far.1
                ∙ append_assoc old (texts_after replay_line before (map (later lines) g.passed)) (replay_line lines_before (later lines e))
                ∙ ap (λ (t : List ℕ). old ++ t) (sym (ap (λ (l : List ScheduleEntry). texts_after replay_line before l) grown ∙ texts_more replay_line before (map (later lines) g.passed) (later lines e))),
          );
    }

pub goes_all : (unit lines : ℕ) (bytes : List ℕ) (left : Items) (first place : Option World) (old new : List ℕ) → left ≡ [] → Going unit lines (items_at 1 bytes) left first place old new
    → (before : List ScheduleEntry) → IsPlace before unit first → RunsLines unit (items_at (lines + 1) bytes) before place old new
goes_all unit lines bytes left first place old new none g before first_is =
    let n : lines + 1 ≡ 1 + lines = omega arith in
    let all : items_at 1 bytes ≡ without_fault g.passed = g.split ∙ ap (λ (l : Items). without_fault g.passed ++ l) none ∙ append-nil (without_fault g.passed) in
    let are : items_at (lines + 1) bytes ≡ without_fault (map (later lines) g.passed) =
    ap (λ (m : ℕ). items_at m bytes) n ∙ lines_later (lines_of bytes) 1 lines ∙ ap (λ (xs : Items). map (later_item lines) xs) all ∙ good_later lines g.passed in
    let entries : entries_among (items_at (lines + 1) bytes) ≡ map (later lines) g.passed = ap (λ (xs : Items). entries_among xs) are ∙ entries_of_good (map (later lines) g.passed) in
    let so_far = g.goes before first_is in
    record {
      are = record {
        good = are ∙ ap (λ (es : List ScheduleEntry). without_fault es) (sym entries);
        own = subst (λ (es : List ScheduleEntry). AllByRecursion (λ (e : ScheduleEntry). e.unit ≡ unit) es) (sym entries) (own_later unit lines g.passed g.own);
      };
      done = subst (λ (es : List ScheduleEntry). IsPlace (reverse es ++ before) unit place) (sym entries) so_far.0;
      written = so_far.1 ∙ ap (λ (es : List ScheduleEntry). old ++ texts_after replay_line before es) (sym entries);
    }

-- ---- One part more

parts_are_more : (unit : ℕ) (ps : List StretchPart) (p : StretchPart) → ArePartsOf unit ps → (p.unit ≡ unit → AreOf unit p.items) → ArePartsOf unit (ps ++ p ∷ [])
parts_are_more unit [] p all here = (here, tt)
parts_are_more unit (q ∷ ps) p all here = (all.0, parts_are_more unit ps p all.1 here)

entries_cases : (b : Bool) (es l : List ScheduleEntry) (add : List ScheduleEntry) → cond b (es ++ (l ++ add)) (l ++ add) ≡ cond b (es ++ l) l ++ add
entries_cases true es l add = sym (append_assoc es l add)
entries_cases false es l add = refl

entries_more : (unit : ℕ) (ps : List StretchPart) (p : StretchPart) → part_entries unit (ps ++ p ∷ []) ≡ part_entries unit ps ++ part_entries unit (p ∷ [])
entries_more unit [] p = refl
entries_more unit (q ∷ ps) p =
    ap (λ (l : List ScheduleEntry). cond (eqb q.unit unit) (entries_among q.items ++ l) l) (entries_more unit ps p)
    ∙ entries_cases (eqb q.unit unit) (entries_among q.items) (part_entries unit ps) (part_entries unit (p ∷ []))

entry_same : (unit : ℕ) (p : StretchPart) → p.unit ≡ unit → part_entries unit (p ∷ []) ≡ entries_among p.items
entry_same unit p same = ap (λ (b : Bool). cond b (entries_among p.items ++ []) []) (eq-eqb p.unit unit same) ∙ append-nil (entries_among p.items)

reverse_front : (es l before : List ScheduleEntry) → reverse l ++ (reverse es ++ before) ≡ reverse (es ++ l) ++ before
reverse_front es l before = sym (append_assoc (reverse l) (reverse es) before) ∙ ap (λ (r : List ScheduleEntry). r ++ before) (sym (reverse-append es l))

texts_cases : (b : Bool) (q : StretchPart) (unit : ℕ) (before : List ScheduleEntry) (ps : List StretchPart) (p : StretchPart)
    → ((more : List ScheduleEntry) → part_texts unit more (ps ++ p ∷ []) ≡ part_texts unit more ps ++ part_texts unit (reverse (part_entries unit ps) ++ more) (p ∷ []))
    → cond b (texts_after replay_line before (entries_among q.items) ∷ part_texts unit (reverse (entries_among q.items) ++ before) (ps ++ p ∷ [])) (part_texts unit before (ps ++ p ∷ []))
    ≡ cond b (texts_after replay_line before (entries_among q.items) ∷ part_texts unit (reverse (entries_among q.items) ++ before) ps) (part_texts unit before ps)
    ++ part_texts unit (reverse (cond b (entries_among q.items ++ part_entries unit ps) (part_entries unit ps)) ++ before) (p ∷ [])
texts_cases true q unit before ps p rest =
    ap (λ (ts : List (List ℕ)). texts_after replay_line before (entries_among q.items) ∷ ts) (rest (reverse (entries_among q.items) ++ before)
    ∙ ap (λ (l : List ScheduleEntry). part_texts unit (reverse (entries_among q.items) ++ before) ps ++ part_texts unit l (p ∷ [])) (reverse_front (entries_among q.items) (part_entries unit ps) before))
texts_cases false q unit before ps p rest = rest before

parts_texts_more : (unit : ℕ) (before : List ScheduleEntry) (ps : List StretchPart) (p : StretchPart) → part_texts unit before (ps ++ p ∷ []) ≡ part_texts unit before ps ++ part_texts unit (reverse (part_entries unit ps) ++ before) (p ∷ [])
parts_texts_more unit before [] p = refl
parts_texts_more unit before (q ∷ ps) p = texts_cases (eqb q.unit unit) q unit before ps p (λ more. parts_texts_more unit more ps p)

text_same : (unit : ℕ) (before : List ScheduleEntry) (p : StretchPart) → p.unit ≡ unit → part_texts unit before (p ∷ []) ≡ texts_after replay_line before (entries_among p.items) ∷ []
text_same unit before p same = ap (λ (b : Bool). cond b (texts_after replay_line before (entries_among p.items) ∷ []) []) (eq-eqb p.unit unit same)

-- ---- Texts end to end, cut by their lengths

total_more : (ns : List ℕ) (n : ℕ) → lengths_total (ns ++ n ∷ []) ≡ lengths_total ns + n
total_more [] n = omega arith
total_more (m ∷ ns) n = omega (arith, total_more ns n)

cut_more : (ns : List ℕ) (text piece : List ℕ) (n : ℕ) → lengths_total ns ≡ length text → n ≡ length piece → cut_by (ns ++ n ∷ []) (text ++ piece) ≡ cut_by ns text ++ piece ∷ []
cut_more [] text piece n all is =
    let none : text ≡ [] = nil_from_length text (sym all) in
    ap (λ (t : List ℕ). take n (t ++ piece) ∷ []) none ∙ ap (λ (t : List ℕ). t ∷ []) (take_all n piece (omega (arith, is)))
cut_more (m ∷ ns) text piece n all is =
    let le : m ≤ length text = omega (arith, all) in
    let left : lengths_total ns ≡ length (drop m text) = omega (arith, all, length-drop m text) in
    ap (λ (t : List ℕ). t ∷ cut_by (ns ++ n ∷ []) (drop m (text ++ piece))) (take-append-le m text piece le)
    ∙ ap (λ (t : List ℕ). take m text ∷ cut_by (ns ++ n ∷ []) t) (drop-append-le m text piece le)
    ∙ ap (λ (ps : List (List ℕ)). take m text ∷ ps) (cut_more ns (drop m text) piece n left is)

-- ---- A unit's run

pub ran_none : (unit : ℕ) (run : UnitRun) → run.world ≡ None → run.text.items ≡ [] → run.lengths.items ≡ [] → Ran [] run
ran_none unit run world text lengths = record {
  are = tt;
  done = subst (λ (w : Option World). IsPlace [] run.unit w) (sym world) refl;
  texts = ap (λ (ns : List ℕ). cut_by ns run.text.items) lengths;
  whole = ap (λ (ns : List ℕ). lengths_total ns) lengths ∙ sym (ap (λ (t : List ℕ). length t) text);
}

pub ran_more : (parts : List StretchPart) (unit : ℕ) (items : Items) (run run' : UnitRun) (n : ℕ) → unit ≡ run.unit → run'.unit ≡ run.unit
    → ((before : List ScheduleEntry) → IsPlace before unit run.world → RunsLines unit items before run'.world run.text.items run'.text.items)
    → n ≡ length run'.text.items - length run.text.items → run'.lengths.items ≡ run.lengths.items ++ n ∷ [] → Ran parts run → Ran (parts ++ record { unit = unit; items = items } ∷ []) run'
ran_more parts unit items run run' n own same runs size grown ran =
    let p : StretchPart = record { unit = unit; items = items } in
    let back : run.unit ≡ unit = sym own in
    let u : run'.unit ≡ unit = same ∙ back in
    let before : List ScheduleEntry = reverse (part_entries unit parts) in
    let were : ArePartsOf unit parts = subst (λ (v : ℕ). ArePartsOf v parts) back ran.are in
    let place : IsPlace before unit run.world = subst (λ (v : ℕ). IsPlace (reverse (part_entries v parts)) v run.world) back ran.done in
    let texts : cut_by run.lengths.items run.text.items ≡ part_texts unit [] parts = ran.texts ∙ ap (λ (v : ℕ). part_texts v [] parts) back in
    let new = runs before place in
    let piece : List ℕ = texts_after replay_line before (entries_among items) in
    let long : n ≡ length piece = omega (arith, size, ap (λ (t : List ℕ). length t) new.written, length-append run.text.items piece) in
    let entries : part_entries unit (parts ++ p ∷ []) ≡ part_entries unit parts ++ entries_among items = entries_more unit parts p ∙ ap (λ (l : List ScheduleEntry). part_entries unit parts ++ l) (entry_same unit p refl) in
    let turned : reverse (entries_among items) ++ before ≡ reverse (part_entries unit (parts ++ p ∷ [])) =
    sym (reverse-append (part_entries unit parts) (entries_among items)) ∙ ap (λ (l : List ScheduleEntry). reverse l) (sym entries) in
    let cuts : cut_by run'.lengths.items run'.text.items ≡ part_texts unit [] (parts ++ p ∷ []) =
    ap (λ (ns : List ℕ). cut_by ns run'.text.items) grown ∙ ap (cut_by (run.lengths.items ++ n ∷ [])) new.written ∙ cut_more run.lengths.items run.text.items piece n ran.whole long
    ∙ ap (λ (ts : List (List ℕ)). ts ++ piece ∷ []) texts
    ∙ ap (λ (l : List ScheduleEntry). part_texts unit [] parts ++ texts_after replay_line l (entries_among items) ∷ []) (sym (append-nil before))
    ∙ ap (λ (ts : List (List ℕ)). part_texts unit [] parts ++ ts) (sym (text_same unit (before ++ []) p refl))
    ∙ sym (parts_texts_more unit [] parts p) in
    record {
      are = subst (λ (v : ℕ). ArePartsOf v (parts ++ p ∷ [])) (sym u) (parts_are_more unit parts p were (λ e. new.are));
      done = subst (λ (v : ℕ). IsPlace (reverse (part_entries v (parts ++ p ∷ []))) v run'.world) (sym u) (subst (λ (l : List ScheduleEntry). IsPlace l unit run'.world) turned new.done);
      texts = cuts ∙ ap (λ (v : ℕ). part_texts v [] (parts ++ p ∷ [])) (sym u);
      whole = ap (λ (ns : List ℕ). lengths_total ns) grown ∙ total_more run.lengths.items n ∙ (omega (arith, ran.whole, long, ap (λ (t : List ℕ). length t) new.written, length-append run.text.items piece));
    }

-- ---- A unit's stretches, among all

part_same : (unit : ℕ) (o : Owned) (all : List Owned) → o.unit ≡ unit → stretches_of unit (o ∷ all) ≡ o.stretch ∷ stretches_of unit all
part_same unit o all same = ap (λ (b : Bool). cond b (o.stretch ∷ stretches_of unit all) (stretches_of unit all)) (eq-eqb o.unit unit same)

part_other : (unit : ℕ) (o : Owned) (all : List Owned) → o.unit ≢ unit → stretches_of unit (o ∷ all) ≡ stretches_of unit all
part_other unit o all other = ap (λ (b : Bool). cond b (o.stretch ∷ stretches_of unit all) (stretches_of unit all)) (ne_eqb o.unit unit other)

-- the unit's own parts are its parts among all
own_are : (text : List ℕ) (unit : ℕ) (all : List Owned) → ArePartsOf unit (unit_parts text unit (stretches_of unit all)) → ArePartsOf unit (parts_of text all)
own_are text unit [] are = tt
own_are text unit (o ∷ all) are = elim (cases_eq o.unit unit) [
  | inl same ↦
      let its : ArePartsOf unit (unit_parts text unit (o.stretch ∷ stretches_of unit all)) = subst (λ (list : List Stretch). ArePartsOf unit (unit_parts text unit list)) (part_same unit o all same) are in
      (λ e. its.0 refl, own_are text unit all its.1)
  | inr other ↦ (λ e. absurd (other e), own_are text unit all (subst (λ (list : List Stretch). ArePartsOf unit (unit_parts text unit list)) (part_other unit o all other) are))
]

own_entries : (text : List ℕ) (unit : ℕ) (all : List Owned) → part_entries unit (unit_parts text unit (stretches_of unit all)) ≡ part_entries unit (parts_of text all)
own_entries text unit [] = refl
own_entries text unit (o ∷ all) =
    let p : StretchPart = part_at text o.unit o.stretch in
    let mine : List ScheduleEntry = part_entries unit (unit_parts text unit (stretches_of unit all)) in
    let rest : List ScheduleEntry = part_entries unit (parts_of text all) in
    elim (cases_eq o.unit unit) [
      | inl same ↦
          ap (λ (list : List Stretch). part_entries unit (unit_parts text unit list)) (part_same unit o all same)
          ∙ ap (λ (b : Bool). cond b (entries_among p.items ++ mine) mine) (eq-eqb unit unit refl)
          ∙ ap (λ (l : List ScheduleEntry). entries_among p.items ++ l) (own_entries text unit all)
          ∙ sym (ap (λ (b : Bool). cond b (entries_among p.items ++ rest) rest) (eq-eqb o.unit unit same))
      | inr other ↦
          ap (λ (list : List Stretch). part_entries unit (unit_parts text unit list)) (part_other unit o all other)
          ∙ own_entries text unit all
          ∙ sym (ap (λ (b : Bool). cond b (entries_among p.items ++ rest) rest) (ne_eqb o.unit unit other))
    ]

own_texts : (text : List ℕ) (unit : ℕ) (before : List ScheduleEntry) (all : List Owned) → part_texts unit before (unit_parts text unit (stretches_of unit all)) ≡ part_texts unit before (parts_of text all)
own_texts text unit before [] = refl
own_texts text unit before (o ∷ all) =
    let p : StretchPart = part_at text o.unit o.stretch in
    let mine : List StretchPart = unit_parts text unit (stretches_of unit all) in
    let rest : List StretchPart = parts_of text all in
    let here : List ℕ = texts_after replay_line before (entries_among p.items) in
    let later_lines : List ScheduleEntry = reverse (entries_among p.items) ++ before in
    elim (cases_eq o.unit unit) [
      | inl same ↦
          ap (λ (list : List Stretch). part_texts unit before (unit_parts text unit list)) (part_same unit o all same)
          ∙ ap (λ (b : Bool). cond b (here ∷ part_texts unit later_lines mine) (part_texts unit before mine)) (eq-eqb unit unit refl)
          ∙ ap (λ (ts : List (List ℕ)). here ∷ ts) (own_texts text unit later_lines all)
          ∙ sym (ap (λ (b : Bool). cond b (here ∷ part_texts unit later_lines rest) (part_texts unit before rest)) (eq-eqb o.unit unit same))
      | inr other ↦
          ap (λ (list : List Stretch). part_texts unit before (unit_parts text unit list)) (part_other unit o all other)
          ∙ own_texts text unit before all
          ∙ sym (ap (λ (b : Bool). cond b (here ∷ part_texts unit later_lines rest) (part_texts unit before rest)) (ne_eqb o.unit unit other))
    ]

-- a run of the unit's own parts is one of all parts
pub ran_whole : (text : List ℕ) (unit : ℕ) (list : List Stretch) (all : List Owned) (run : UnitRun) → run.unit ≡ unit → list ≡ stretches_of unit all → Ran (unit_parts text unit list) run → Ran (parts_of text all) run
ran_whole text unit list all run whose listed ran =
    let mine : List StretchPart = unit_parts text unit (stretches_of unit all) in
    let its : Ran mine run = subst (λ (l : List Stretch). Ran (unit_parts text unit l) run) listed ran in
    let back : unit ≡ run.unit = sym whose in
    record {
      are = subst (λ (u : ℕ). ArePartsOf u (parts_of text all)) back (own_are text unit all (subst (λ (u : ℕ). ArePartsOf u mine) whose its.are));
      done = subst (λ (u : ℕ). IsPlace (reverse (part_entries u (parts_of text all))) u run.world) back
          (subst (λ (l : List ScheduleEntry). IsPlace (reverse l) unit run.world) (own_entries text unit all) (subst (λ (u : ℕ). IsPlace (reverse (part_entries u mine)) u run.world) whose its.done));
      texts = its.texts ∙ ap (λ (u : ℕ). part_texts u [] mine) whose ∙ own_texts text unit [] all ∙ ap (λ (u : ℕ). part_texts u [] (parts_of text all)) back;
      whole = its.whole;
    }

-- the same of what came of a unit by its list
pub listed_run : (text : List ℕ) (unit : ℕ) (lists : List (Vec Stretch Global)) (list : List Stretch) (result : Result UnitRun CantRunApart) → list ≡ list_at lists unit → IfOk result (λ run. run.unit ≡ unit) → IfOk result (λ run. Ran (unit_parts text unit list) run)
    → IfOk result (λ run. (all : List Owned) → AreListed all lists → Ran (parts_of text all) run)
listed_run text unit lists list (Ok run) is whose ran = λ all listed. ran_whole text unit list all run whose (is ∙ listed unit) ran
listed_run text unit lists list (Err why) is whose ran = tt

-- ---- All stretches of a unit

-- the stretches so far were done
pub Walking : List ℕ → ℕ → List Stretch → ℕ → UnitRun → UnitRun → Type 0
Walking text unit list i first run = (run.unit ≡ unit) × (Ran [] first → Ran (unit_parts text unit (take i list)) run)

pub walks_none : (text : List ℕ) (list : List Stretch) (run : UnitRun) → Walking text run.unit list 0 run run
unfolding Walking
walks_none text list run = (refl, λ ran. ran)

pub walks_unit : (text : List ℕ) (unit : ℕ) (list : List Stretch) (i : ℕ) (first run : UnitRun) → Walking text unit list i first run → run.unit ≡ unit
unfolding Walking
walks_unit text unit list i first run w = w.0

take_there : {X : Type 0} (xs : List X) (i : ℕ) (x : X) → slice_get xs i ≡ Some x → take (i + 1) xs ≡ take i xs ++ x ∷ []
take_there {X} [] i x at = absurd (none_some (sym (slice_get_past [] i (omega arith)) ∙ at))
  where
    none_some : ◌≡◌ {A = Option X} None (Some x) → ⊥
    none_some h = cc
take_there {X} (y ∷ xs) zero x at = ap (λ (z : X). z ∷ []) (some_one at)
  where
    some_one : ◌≡◌ {A = Option X} (Some y) (Some x) → y ≡ x
    some_one h = cc
take_there {X} (y ∷ xs) (suc i) x at =
    let e : suc i + 1 ≡ suc (i + 1) = omega arith in
    ap (λ (n : ℕ). take n (y ∷ xs)) e ∙ ap (λ (l : List X). y ∷ l) (take_there xs i x at)

pub walks_more : (text : List ℕ) (unit : ℕ) (list : List Stretch) (i : ℕ) (s : Stretch) (part : List ℕ) (first run run' : UnitRun) → slice_get list i ≡ Some s → part ≡ take s.size (drop s.at text) → run'.unit ≡ run.unit
    → ((parts : List StretchPart) → Ran parts run → Ran (parts ++ record { unit = run.unit; items = items_at (s.before + 1) part } ∷ []) run') → Walking text unit list i first run → Walking text unit list (i + 1) first run'
unfolding Walking
walks_more text unit list i s part first run run' at is same goes w =
    let grown : unit_parts text unit (take (i + 1) list) ≡ unit_parts text unit (take i list) ++ part_at text unit s ∷ [] =
    ap (unit_parts text unit) (take_there list i s at) ∙ map_push (part_at text unit) (take i list) s in (
      same ∙ w.0,
      λ start.
          let here : Ran (unit_parts text unit (take i list) ++ record { unit = run.unit; items = items_at (s.before + 1) part } ∷ []) run' = goes (unit_parts text unit (take i list)) (w.1 start) in
          let named : Ran (unit_parts text unit (take i list) ++ record { unit = unit; items = items_at (s.before + 1) part } ∷ []) run' =
          subst (λ (u : ℕ). Ran (unit_parts text unit (take i list) ++ record { unit = u; items = items_at (s.before + 1) part } ∷ []) run') w.0 here in
          subst (λ (ps : List StretchPart). Ran ps run') (sym grown) (subst (λ (b : List ℕ). Ran (unit_parts text unit (take i list) ++ record { unit = unit; items = items_at (s.before + 1) b } ∷ []) run') is named),
    )

pub walks_all : (text : List ℕ) (unit : ℕ) (list : List Stretch) (i : ℕ) (first run : UnitRun) → length list ≤ i → Walking text unit list i first run → Ran [] first → Ran (unit_parts text unit list) run
unfolding Walking
walks_all text unit list i first run end w start = subst (λ (l : List Stretch). Ran (unit_parts text unit l) run) (take_all i list end) (w.1 start)
