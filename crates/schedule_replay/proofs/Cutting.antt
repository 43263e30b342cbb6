-- A text in stretches of lines.
use Rattle.std.proofs.Common.{◌≡◌, ◌≢◌, ℕ, zero, suc, ◌+◌, ◌-◌, ◌<◌, ◌≤◌, inl, inr, Bool, true, false, not, cond, eqb, List, [], ◌∷◌, ◌++◌, length, take, drop, map, Option, Some, None, Result, Vec, Global, refl, sym, ap, ◌∙◌, arith, append_assoc, subst}
use Rattle.std.specs.Prelude.{option_map, min}
use Rattle.std.proofs.Math.ListN.{set}
use Rattle.std.specs.List.{position_or_len, cons_option, slice_get}
use Rattle.std.specs.Str.Lines.{strip_carriage_return}
use Rattle.std.proofs.lemmas.Bool.{cases_eq, cases_lt, eq-eqb, ne_eqb}
use Rattle.std.proofs.lemmas.List.{append-nil, length-drop, drop-drop, take_all, drop_all, take_at, drop_at, take-append-drop}
use Rattle.std.proofs.Math.Seq.{take-add}
use Rattle.pitch_text.specs.ScheduleGrammar.{entry, schedule_entry}
use Rattle.pitch_text.specs.declared.verb.ScheduleEntry.{ScheduleEntry}
use Rattle.text_lines.specs.declared.fault.TextError.{TextError}
use Rattle.text_lines.specs.Text.{said_on, line_of, lines_of}
use Rattle.text_lines.specs.Items.{item_of}
use Rattle.text_lines.proofs.FieldLemmas.{split_first, parts_after}
use Rattle.text_lines.proofs.TextLemmas.{is_feed, items_first}
use Rattle.schedule_replay.specs.layers.Stretches.{AreListed, AreWholeLines, IsCut, Owned, Splits}
use Rattle.schedule_replay.specs.layers.Stretches.{StretchPart, items_at, items_in, list_at}
use Rattle.schedule_replay.specs.layers.Stretches.{list_on, part_at, parts_of, stretches_of}
use Rattle.schedule_replay.specs.declared.stretches.Stretch.{Stretch}

abbrev Items : Type 0
Items = List (Result ScheduleEntry TextError)

-- ---- One line

-- a line feed at its first place
feed_at : (l after : List ℕ) → Type 0
feed_at l after = position_or_len is_feed (l ++ 10 ∷ after) ≡ length l

feed_first : (l after : List ℕ) → feed_at l after → lines_of (l ++ 10 ∷ after) ≡ strip_carriage_return l ∷ lines_of after
unfolding feed_at
feed_first l after at =
    ap (λ (parts : List (List ℕ)). map strip_carriage_return parts) (split_first is_feed (l ++ 10 ∷ after))
    ∙ ap (λ (k : ℕ). map strip_carriage_return (take k (l ++ 10 ∷ after) ∷ parts_after is_feed (drop k (l ++ 10 ∷ after)))) at
    ∙ ap (λ (line : List ℕ). map strip_carriage_return (line ∷ parts_after is_feed (drop (length l) (l ++ 10 ∷ after)))) (take_at l (10 ∷ after) (length l) refl)
    ∙ ap (λ (rest : List ℕ). map strip_carriage_return (l ∷ parts_after is_feed rest)) (drop_at l (10 ∷ after) (length l) refl)

none_left : (n : ℕ) → items_at n [] ≡ []
none_left n = refl

option_front : (o : Option (Result ScheduleEntry TextError)) (xs : Items) → cons_option o xs ≡ cons_option o [] ++ xs
option_front None xs = refl
option_front (Some x) xs = refl

feed_whole : (l : List ℕ) → ((after : List ℕ) → feed_at l after) → AreWholeLines 1 (l ++ 10 ∷ [])
feed_whole l at n after =
    let first : Option (Result ScheduleEntry TextError) = option_map (item_of schedule_entry) (said_on n (line_of entry (strip_carriage_return l))) in
    ap (items_at n) (append_assoc l (10 ∷ []) after)
    ∙ items_first entry schedule_entry n (l ++ 10 ∷ after) (strip_carriage_return l) after (inl (feed_first l after (at after)))
    ∙ option_front first (items_at (n + 1) after)
    ∙ ap (λ (xs : Items). xs ++ items_at (n + 1) after) (sym (items_first entry schedule_entry n (l ++ 10 ∷ []) (strip_carriage_return l) [] (inl (feed_first l [] (at [])))
    ∙ ap (cons_option first) (none_left (n + 1))))

record Fed (text : List ℕ) (k : ℕ) : Type 0 where
  line : List ℕ
  front : take (k + 1) text ≡ line ++ 10 ∷ []
  at : (after : List ℕ) → feed_at line after

fed_here : (b : ℕ) (bs : List ℕ) → eqb b 10 ≡ true → Fed (b ∷ bs) 0
unfolding feed_at
fed_here b bs is = let e : b ≡ 10 = grind (arith, is) in record { line = []; front = ap (λ (x : ℕ). x ∷ []) e; at = λ after. refl }

fed_later : (b : ℕ) (bs : List ℕ) (k : ℕ) → eqb b 10 ≡ false → Fed bs k → Fed (b ∷ bs) (1 + k)
unfolding feed_at
fed_later b bs k not fed =
    let e : 1 + k + 1 ≡ suc (k + 1) = omega arith in
    record {
      line = b ∷ fed.line;
      front = ap (λ (n : ℕ). take n (b ∷ bs)) e ∙ ap (λ (l : List ℕ). b ∷ l) fed.front;
      at = λ after. rw not (let one : 1 + length fed.line ≡ suc (length fed.line) = omega arith in ap (λ (n : ℕ). 1 + n) (fed.at after) ∙ one);
    }

fed_cases : (b : ℕ) (bs : List ℕ) (s : Bool) → eqb b 10 ≡ s → (position_or_len is_feed bs < length bs → Fed bs (position_or_len is_feed bs)) → position_or_len is_feed (b ∷ bs) < length (b ∷ bs) → Fed (b ∷ bs) (position_or_len is_feed (b ∷ bs))
fed_cases b bs true is later lt = rw is (fed_here b bs is)
fed_cases b bs false is later lt =
    let less : 1 + position_or_len is_feed bs < suc (length bs) = subst (λ (s : Bool). cond (not s) (1 + position_or_len is_feed bs) 0 < suc (length bs)) is lt in
    rw is (fed_later b bs (position_or_len is_feed bs) is (later (omega arith)))

fed : (text : List ℕ) → position_or_len is_feed text < length text → Fed text (position_or_len is_feed text)
fed [] lt = absurd (omega arith)
fed (b ∷ bs) lt = fed_cases b bs (eqb b 10) refl (fed bs) lt

pub line_is_whole : (text : List ℕ) (k : ℕ) → k ≡ position_or_len is_feed text → min (k + 1) (length text) < length text → AreWholeLines 1 (take (min (k + 1) (length text)) text)
line_is_whole text k is lt =
    let small : min (k + 1) (length text) ≡ k + 1 = omega arith in
    let f = fed text (omega (arith, is, lt, small)) in
    subst (λ (bytes : List ℕ). AreWholeLines 1 bytes) (sym (ap (λ (m : ℕ). take m text) (small ∙ ap (λ (m : ℕ). m + 1) is) ∙ f.front)) (feed_whole f.line f.at)

-- ---- Many lines

pub whole_more : (lines more : ℕ) (bytes others : List ℕ) → AreWholeLines lines bytes → AreWholeLines more others → AreWholeLines (lines + more) (bytes ++ others)
whole_more lines more bytes others a b n after =
    let e : n + lines + more ≡ n + (lines + more) = omega arith in
    ap (items_at n) (append_assoc bytes others after) ∙ a n (others ++ after)
    ∙ ap (λ (xs : Items). items_at n bytes ++ xs) (b (n + lines) after)
    ∙ sym (append_assoc (items_at n bytes) (items_at (n + lines) others) (items_at (n + lines + more) after))
    ∙ ap (λ (xs : Items). xs ++ items_at (n + lines + more) after) (sym (a n others))
    ∙ ap (λ (m : ℕ). items_at n (bytes ++ others) ++ items_at m after) e

-- the rest of a slice
pub rest_is : (n m : ℕ) (xs : List ℕ) → m ≡ length xs → take (m - n) (drop n xs) ≡ drop n xs
rest_is n m xs is = take_all (m - n) (drop n xs) (omega (arith, is, length-drop n xs))

-- what is known of a stretch while it grows
pub record GrowingStretch (lines size : ℕ) (text : List ℕ) : Type 0 where
  pub some : 0 < size
  pub within : size ≤ length text
  pub few : lines ≤ size
  pub whole : size < length text → AreWholeLines lines (take size text)

pub grows_first : (text : List ℕ) (size : ℕ) → 0 < size → size ≤ length text → (size < length text → AreWholeLines 1 (take size text)) → GrowingStretch 1 size text
grows_first text size some within whole = record { some = some; within = within; few = omega arith; whole = whole }

pub grows_more : (lines size more : ℕ) (text rest : List ℕ) → rest ≡ drop size text → GrowingStretch lines size text → 0 < more → more ≤ length rest → (more < length rest → AreWholeLines 1 (take more rest)) → size < length text
    → GrowingStretch (lines + 1) (size + more) text
grows_more lines size more text rest is g some within whole left =
    let long : length rest ≡ length text - size = ap (λ (l : List ℕ). length l) is ∙ length-drop size text in
    record {
      some = omega arith;
      within = omega (arith, long, within, left);
      few = omega (arith, g.few, some);
      whole = λ lt. subst (λ (bytes : List ℕ). AreWholeLines (lines + 1) bytes) (ap (λ (l : List ℕ). take size text ++ take more l) is ∙ sym (take-add size more text))
          (whole_more lines 1 (take size text) (take more rest) (g.whole left) (whole (omega (arith, long, lt))));
    }

pub splits : (lines size : ℕ) (text : List ℕ) → GrowingStretch lines size text → Splits lines size text
splits lines size text g n = elim (cases_lt size (length text)) [
  | inl lt ↦ ap (items_at n) (sym (take-append-drop size text)) ∙ g.whole lt n (drop size text)
  | inr le ↦ sym (ap (λ (l : List ℕ). items_at n l ++ items_at (n + lines) (drop size text)) (take_all size text le) ∙ ap (λ (l : List ℕ). items_at n text ++ items_at (n + lines) l) (drop_all size text le)
      ∙ append-nil (items_at n text))
]

-- ---- All stretches

abbrev mark : ℕ → Stretch → Owned
mark unit s = record { unit = unit; stretch = s }

parts_snoc : (text : List ℕ) (all : List Owned) (unit : ℕ) (s : Stretch) → parts_of text (all ++ mark unit s ∷ []) ≡ parts_of text all ++ part_at text unit s ∷ []
parts_snoc text [] unit s = refl
parts_snoc text (o ∷ all) unit s = ap (λ (ps : List StretchPart). part_at text o.unit o.stretch ∷ ps) (parts_snoc text all unit s)

whose_snoc : (all : List Owned) (unit : ℕ) (s : Stretch) → map (λ (o : Owned). o.unit) (all ++ mark unit s ∷ []) ≡ map (λ (o : Owned). o.unit) all ++ unit ∷ []
whose_snoc [] unit s = refl
whose_snoc (o ∷ all) unit s = ap (λ (us : List ℕ). o.unit ∷ us) (whose_snoc all unit s)

listed_cases : (b c : Bool) (x s : Stretch) (list : List Stretch) → cond b (x ∷ cond c (list ++ s ∷ []) list) (cond c (list ++ s ∷ []) list) ≡ cond c (cond b (x ∷ list) list ++ s ∷ []) (cond b (x ∷ list) list)
listed_cases true true x s list = refl
listed_cases true false x s list = refl
listed_cases false true x s list = refl
listed_cases false false x s list = refl

listed_snoc : (all : List Owned) (unit : ℕ) (s : Stretch) (other : ℕ) → stretches_of other (all ++ mark unit s ∷ []) ≡ cond (eqb unit other) (stretches_of other all ++ s ∷ []) (stretches_of other all)
listed_snoc [] unit s other = refl
listed_snoc (o ∷ all) unit s other =
    ap (λ (list : List Stretch). cond (eqb o.unit other) (o.stretch ∷ list) list) (listed_snoc all unit s other)
    ∙ listed_cases (eqb o.unit other) (eqb unit other) o.stretch s (stretches_of other all)

items_append : (ps qs : List StretchPart) → items_in (ps ++ qs) ≡ items_in ps ++ items_in qs
items_append [] qs = refl
items_append (p ∷ ps) qs = ap (λ (xs : Items). p.items ++ xs) (items_append ps qs) ∙ sym (append_assoc p.items (items_in ps) (items_in qs))

-- the stretches that were cut off, before a byte and a line
pub record Cutting (text : List ℕ) (at before : ℕ) (order : List ℕ) (lists : List (Vec Stretch Global)) : Type 0 where
  pub all : List Owned
  pub within : at ≤ length text
  pub few : before ≤ at
  pub said : items_at 1 text ≡ items_in (parts_of text all) ++ items_at (before + 1) (drop at text)
  pub whose : map (λ (o : Owned). o.unit) all ≡ order
  pub each : AreListed all lists

pub cuts_none : (text order : List ℕ) (lists : List (Vec Stretch Global)) → order ≡ [] → ((unit : ℕ) → list_at lists unit ≡ []) → Cutting text 0 0 order lists
cuts_none text order lists none empty = record {
  all = [];
  within = omega arith;
  few = omega arith;
  said = refl;
  whose = sym none;
  each = empty;
}

pub cuts_more : (text rest order order' : List ℕ) (lists lists' : List (Vec Stretch Global)) (unit lines at' before' : ℕ) (s : Stretch) → rest ≡ drop s.at text → Splits lines s.size rest → s.size ≤ length rest → lines ≤ s.size
    → at' ≡ s.at + s.size → before' ≡ s.before + lines → order' ≡ order ++ unit ∷ [] → ((other : ℕ) → list_at lists' other ≡ cond (eqb unit other) (list_at lists other ++ s ∷ []) (list_at lists other))
    → Cutting text s.at s.before order lists → Cutting text at' before' order' lists'
cuts_more text rest order order' lists lists' unit lines at' before' s is split size few next counted ordered listed c =
    let n : ℕ = s.before + 1 in
    let more : n + lines ≡ before' + 1 = omega (arith, counted) in
    let parts : items_in (parts_of text (c.all ++ mark unit s ∷ [])) ≡ items_in (parts_of text c.all) ++ items_at n (take s.size rest) =
    ap (λ (ps : List StretchPart). items_in ps) (parts_snoc text c.all unit s) ∙ items_append (parts_of text c.all) (part_at text unit s ∷ [])
    ∙ ap (λ (xs : Items). items_in (parts_of text c.all) ++ xs) (append-nil (items_at n (take s.size (drop s.at text))))
    ∙ ap (λ (l : List ℕ). items_in (parts_of text c.all) ++ items_at n (take s.size l)) (sym is) in
    let later : drop s.size rest ≡ drop at' text = ap (drop s.size) is ∙ drop-drop s.size s.at text ∙ ap (λ (k : ℕ). drop k text) (sym next) in
    record {
      all = c.all ++ mark unit s ∷ [];
      within = omega (arith, c.within, size, next, ap (λ (l : List ℕ). length l) is, length-drop s.at text);
      few = omega (arith, c.few, few, next, counted);
      said = c.said ∙ ap (λ (l : List ℕ). items_in (parts_of text c.all) ++ items_at n l) (sym is)
          ∙ ap (λ (xs : Items). items_in (parts_of text c.all) ++ xs) (split n)
          ∙ sym (append_assoc (items_in (parts_of text c.all)) (items_at n (take s.size rest)) (items_at (n + lines) (drop s.size rest)))
          ∙ ap (λ (xs : Items). xs ++ items_at (n + lines) (drop s.size rest)) (sym parts)
          ∙ ap (λ (m : ℕ). items_in (parts_of text (c.all ++ mark unit s ∷ [])) ++ items_at m (drop s.size rest)) more
          ∙ ap (λ (l : List ℕ). items_in (parts_of text (c.all ++ mark unit s ∷ [])) ++ items_at (before' + 1) l) later;
      whose = whose_snoc c.all unit s ∙ ap (λ (us : List ℕ). us ++ unit ∷ []) c.whose ∙ sym ordered;
      each = λ other. listed other ∙ ap (λ (list : List Stretch). cond (eqb unit other) (list ++ s ∷ []) list) (c.each other) ∙ sym (listed_snoc c.all unit s other);
    }

pub cuts_all : (text : List ℕ) (at before : ℕ) (order : List ℕ) (lists : List (Vec Stretch Global)) → length text ≤ at → Cutting text at before order lists → IsCut text order lists
cuts_all text at before order lists end c = record {
  all = c.all;
  said = c.said ∙ ap (λ (l : List ℕ). items_in (parts_of text c.all) ++ items_at (before + 1) l) (drop_all at text end) ∙ ap (λ (xs : Items). items_in (parts_of text c.all) ++ xs) (none_left (before + 1)) ∙ append-nil (items_in (parts_of text c.all));
  whose = c.whose;
  each = c.each;
}

-- ---- One list of each unit

pub no_list_more : (lists : List (Vec Stretch Global)) (list : Vec Stretch Global) → list.items ≡ [] → ((unit : ℕ) → list_at lists unit ≡ []) → (unit : ℕ) → list_at (lists ++ list ∷ []) unit ≡ []
no_list_more [] list empty none zero = empty
no_list_more [] list empty none (suc unit) = refl
no_list_more (x ∷ lists) list empty none zero = none 0
no_list_more (x ∷ lists) list empty none (suc unit) = no_list_more lists list empty (λ u. none (suc u)) unit

list_set_same : (lists : List (Vec Stretch Global)) (unit : ℕ) (list : Vec Stretch Global) → unit < length lists → list_at (set lists unit list) unit ≡ list.items
list_set_same [] unit list lt = absurd (omega arith)
list_set_same (x ∷ lists) zero list lt = refl
list_set_same (x ∷ lists) (suc unit) list lt = list_set_same lists unit list (omega arith)

list_set_other : (lists : List (Vec Stretch Global)) (unit other : ℕ) (list : Vec Stretch Global) → unit ≢ other → list_at (set lists unit list) other ≡ list_at lists other
list_set_other [] unit other list apart = refl
list_set_other (x ∷ lists) zero zero list apart = absurd (apart refl)
list_set_other (x ∷ lists) zero (suc other) list apart = refl
list_set_other (x ∷ lists) (suc unit) zero list apart = refl
list_set_other (x ∷ lists) (suc unit) (suc other) list apart = list_set_other lists unit other list (λ e. apart (omega arith))

-- a stretch more in a unit's list
pub list_more : (lists : List (Vec Stretch Global)) (unit : ℕ) (old new : Vec Stretch Global) (s : Stretch) → unit < length lists → slice_get lists unit ≡ Some old → new.items ≡ old.items ++ s ∷ []
    → (other : ℕ) → list_at (set lists unit new) other ≡ cond (eqb unit other) (list_at lists other ++ s ∷ []) (list_at lists other)
list_more lists unit old new s lt at grown other = elim (cases_eq unit other) [
  | inl same ↦
      ap (list_at (set lists unit new)) (sym same) ∙ list_set_same lists unit new lt ∙ grown
      ∙ ap (λ (o : Option (Vec Stretch Global)). list_on o ++ s ∷ []) (sym at)
      ∙ ap (λ (u : ℕ). list_at lists u ++ s ∷ []) same
      ∙ sym (ap (λ (b : Bool). cond b (list_at lists other ++ s ∷ []) (list_at lists other)) (eq-eqb unit other same))
  | inr apart ↦
      list_set_other lists unit other new apart
      ∙ sym (ap (λ (b : Bool). cond b (list_at lists other ++ s ∷ []) (list_at lists other)) (ne_eqb unit other apart))
]
