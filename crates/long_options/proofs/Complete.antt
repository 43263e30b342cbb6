-- Words that are written as options are taken by clap.
use Rattle.std.proofs.Common.{◌≡◌, ◌∙◌, not, Bool, cond, true, false, refl, sym, ap, subst, List, [], ◌∷◌, ◌++◌, Some, None, option_map, true≢false, is_some, Option, append_assoc, append-nil, inl, inr}
use Rattle.std.proofs.lemmas.Bool.{not-true}
use Rattle.std.specs.List.{list_all}
use Rattle.std.specs.Str.{bytes_eq}
use Rattle.clap.specs.Lexer.{long_of}
use Rattle.clap.specs.Walk.{Held, Row, Rule, Walk, arg_by_long, idle, option, reacted, settled, used, walked}
use Rattle.clap.specs.Simple.{Shape}
use Rattle.clap.specs.Faults.{settle_fault, turn_fault, use_fault, walk_fault}
use Rattle.clap.specs.Kinds.{or_else}
use Rattle.clap.proofs.WalkLemmas.{both}
use Rattle.long_options.specs.Words.{AreListed, Given, IsApart, IsWritten, Listed, Once, Text}
use Rattle.long_options.specs.Words.{Writes, long_flag, has_name, listed}
use Rattle.long_options.specs.Plain.{is_plain_name}
use Rattle.long_options.proofs.Apart.{no_option}
use Rattle.long_options.proofs.LongWords.{long_of-attached, long_of-long_flag}
use Rattle.long_options.proofs.Rows.{built_rule, built_rules, by_long, given_rows, left_fault, left_of, left_rows, listed_name, switch, switch_passes, use_passes, used_given, used_switch, valued}
use Rattle.long_options.proofs.Turns.{both_none, built_shape, flag_next, flag_turn, plain_next, plain_turn, value_next, walk_at}
use Rattle.long_options.proofs.Sound.{end_of, ending}

abbrev pub plain_names : List Listed → Bool
plain_names options = list_all (λ o. is_plain_name o.0) options

pub name_flag : (n : Text) → is_plain_name n ≡ true → long_of (long_flag n) ≡ Some (n, None)
name_flag [] e = absurd (true≢false (sym e))
name_flag (n ∷ ns) e = long_of-long_flag n ns (not-true _ e)

pub name_attached : (n v : Text) → is_plain_name n ≡ true → long_of (long_flag n ++ 61 ∷ v) ≡ Some (n, Some v)
name_attached [] v e = absurd (true≢false (sym e))
name_attached (n ∷ ns) v e = long_of-attached n ns v (not-true _ e)

pub listed_plain : (options : List Listed) (n : Text) (o : Listed) → plain_names options ≡ true → listed options n ≡ Some o → is_plain_name o.0 ≡ true
listed_plain [] n o p e = cc
listed_plain (x ∷ xs) n o p e = go (bytes_eq x.0 n) e (listed_plain xs n o (both (is_plain_name x.0) _ p).1)
  where
    go : (b : Bool) → cond b (Some x) (listed xs n) ≡ Some o → (listed xs n ≡ Some o → is_plain_name o.0 ≡ true) → is_plain_name o.0 ≡ true
    go true e ih = let same : x ≡ o = cc in ap (λ (y : Listed). is_plain_name y.0) (sym same) ∙ (both (is_plain_name x.0) _ p).0
    go false e ih = ih e

module _ (c : Text × List Listed) (names_plain : plain_names c.1 ≡ true) where
  abbrev pub R : List Rule
  R = built_rules c.1

  abbrev pub S : Shape
  S = built_shape c

  -- the walk passes, and leaves these rows
  abbrev pub Leaves : Walk → List Text → List Row → Type 0
  Leaves w words rows = (ending c w words ≡ []) × ((settled R (end_of c w words)).rows ≡ rows)

  step_back : (w after : Walk) (word : Text) (words : List Text) (rows : List Row) → turn_fault S [] w word ≡ [] → walked R [] w word ≡ after → Leaves after words rows → Leaves w (word ∷ words) rows
  unfolding walk_fault
  step_back w after word words rows passes is leaves =
      let rest = subst (λ (x : Walk). Leaves x words rows) (sym is) leaves in
      (ap (λ k. or_else (or_else k (walk_fault S [] (walked R [] w word) words)) (settle_fault R false (end_of c (walked R [] w word) words))) passes ∙ rest.0, rest.1)

  abbrev pub Ready : List Given → Held → Type 0
  Ready before h = (h.skip ≡ 0) × (settle_fault R false h ≡ []) × ((settled R h).rows ≡ given_rows before)

  abbrev Rest : List Given → Type 0
  Rest more = (words : List Text) (before : List Given) (h : Held) → Ready before h → Writes more words → Once before more → AreListed c.1 more
      → Leaves (walk_at idle h) words (given_rows (before ++ more))

  module _ (more : List Given) (ih : Rest more) (o : Text × Bool) (v : Text) (is : listed c.1 o.0 ≡ Some (valued o)) (rest : List Text) (before : List Given) (h : Held) (ready : Ready before h) (writes : Writes more rest)
      (new : has_name o.0 before ≡ false) (once : Once (before ++ (o.0, Some v) ∷ []) more) (known : AreListed c.1 more) where
    by : arg_by_long R o.0 ≡ Some (built_rule (valued o))
    by = by_long c.1 o.0 ∙ ap (option_map built_rule) is

    name_is : is_plain_name o.0 ≡ true
    name_is = listed_plain c.1 o.0 (valued o) names_plain is

    -- `--name value`
    apart : IsApart v → Leaves (walk_at idle h) (long_flag o.0 ∷ v ∷ rest) (given_rows (before ++ (o.0, Some v) ∷ more))
    apart alone =
        let (d, no_long, no_short) = no_option v alone in
        let l = name_flag o.0 name_is in
        let same : ◌≡◌ {A = Held} (record (settled R h) { pending = Some (o.0, []) }) (left_of before o []) =
        λ i. record { rows = (ready.2) i; pending = Some (o.0, []); skip = ready.0 i } in
        let one : turn_fault S [] (walk_at idle h) (long_flag o.0) ≡ [] = flag_turn c false [] idle h (long_flag o.0) refl o.0 None (Some (built_rule (valued o))) l by ∙ both_none _ _ ready.1 refl in
        let moved : walked R [] (walk_at idle h) (long_flag o.0) ≡ walk_at (option o.0) (left_of before o []) =
        flag_next c false [] idle h (long_flag o.0) refl o.0 None (Some (built_rule (valued o))) l by ∙ ap (walk_at (option o.0)) same in
        let two : turn_fault S [] (walk_at (option o.0) (left_of before o [])) v ≡ [] = plain_turn c false [] (option o.0) (left_of before o []) v refl d no_long no_short in
        let then_moved : walked R [] (walk_at (option o.0) (left_of before o [])) v ≡ walk_at idle (left_of before o (v ∷ [])) =
        plain_next c false [] (option o.0) (left_of before o []) v refl d no_long no_short ∙ value_next c o before v is in
        let again : Ready (before ++ (o.0, Some v) ∷ []) (left_of before o (v ∷ [])) =
        (refl, left_fault c.1 o is before (v ∷ []) ∙ use_passes o v before new, left_rows c.1 o is before (v ∷ []) ∙ used_given o v before new) in
        let last = subst (λ gs. Leaves (walk_at idle (left_of before o (v ∷ []))) rest (given_rows gs)) (append_assoc before ((o.0, Some v) ∷ []) more)
        (ih rest (before ++ (o.0, Some v) ∷ []) (left_of before o (v ∷ [])) again writes once known) in
        step_back _ _ (long_flag o.0) (v ∷ rest) _ one moved (step_back _ _ v rest _ two then_moved last)

    -- `--name=value`
    attached : Leaves (walk_at idle h) ((long_flag o.0 ++ 61 ∷ v) ∷ rest) (given_rows (before ++ (o.0, Some v) ∷ more))
    attached =
        let l = name_attached o.0 v name_is in
        let after = reacted R (built_rule (valued o)) (v ∷ []) h in
        let uses : use_fault false (built_rule (valued o)) (v ∷ []) (settled R h).rows ≡ [] = ap (use_fault false (built_rule (valued o)) (v ∷ [])) ready.2 ∙ use_passes o v before new in
        let one : turn_fault S [] (walk_at idle h) (long_flag o.0 ++ 61 ∷ v) ≡ [] =
        flag_turn c false [] idle h (long_flag o.0 ++ 61 ∷ v) refl o.0 (Some v) (Some (built_rule (valued o))) l by ∙ both_none _ _ (both_none _ _ ready.1 uses) refl in
        let moved : walked R [] (walk_at idle h) (long_flag o.0 ++ 61 ∷ v) ≡ walk_at idle after = flag_next c false [] idle h (long_flag o.0 ++ 61 ∷ v) refl o.0 (Some v) (Some (built_rule (valued o))) l by in
        let again : Ready (before ++ (o.0, Some v) ∷ []) after = (ready.0, refl, ap (used (built_rule (valued o)) (v ∷ [])) ready.2 ∙ used_given o v before new) in
        let last = subst (λ gs. Leaves (walk_at idle after) rest (given_rows gs)) (append_assoc before ((o.0, Some v) ∷ []) more)
        (ih rest (before ++ (o.0, Some v) ∷ []) after again writes once known) in
        step_back _ _ (long_flag o.0 ++ 61 ∷ v) rest _ one moved last

  module _ (more : List Given) (ih : Rest more) (o : Text × Bool) (is : listed c.1 o.0 ≡ Some (switch o)) (rest : List Text) (before : List Given) (h : Held) (ready : Ready before h) (writes : Writes more rest)
      (new : has_name o.0 before ≡ false) (once : Once (before ++ (o.0, None) ∷ []) more) (known : AreListed c.1 more) where
    -- `--name` alone
    alone : Leaves (walk_at idle h) (long_flag o.0 ∷ rest) (given_rows (before ++ (o.0, None) ∷ more))
    alone =
        let by : arg_by_long R o.0 ≡ Some (built_rule (switch o)) = by_long c.1 o.0 ∙ ap (option_map built_rule) is in
        let l = name_flag o.0 (listed_plain c.1 o.0 (switch o) names_plain is) in
        let after = reacted R (built_rule (switch o)) [] h in
        let uses : use_fault false (built_rule (switch o)) [] (settled R h).rows ≡ [] = ap (use_fault false (built_rule (switch o)) []) ready.2 ∙ switch_passes o before new in
        let one : turn_fault S [] (walk_at idle h) (long_flag o.0) ≡ [] =
        flag_turn c false [] idle h (long_flag o.0) refl o.0 None (Some (built_rule (switch o))) l by ∙ both_none _ _ (both_none _ _ ready.1 uses) refl in
        let moved : walked R [] (walk_at idle h) (long_flag o.0) ≡ walk_at idle after = flag_next c false [] idle h (long_flag o.0) refl o.0 None (Some (built_rule (switch o))) l by in
        let again : Ready (before ++ (o.0, None) ∷ []) after = (ready.0, refl, ap (used (built_rule (switch o)) []) ready.2 ∙ used_switch o before new) in
        let last = subst (λ gs. Leaves (walk_at idle after) rest (given_rows gs)) (append_assoc before ((o.0, None) ∷ []) more)
        (ih rest (before ++ (o.0, None) ∷ []) after again writes once known) in
        step_back _ _ (long_flag o.0) rest _ one moved last

  -- one option, of the name that the command has
  abbrev First : List Given → Text → Option Text → List Text → List Text → List Given → Held → Type 0
  First more n v words rest before h = (has_name n before ≡ false) → Once (before ++ (n, v) ∷ []) more → IsWritten n v words rest → Leaves (walk_at idle h) words (given_rows (before ++ (n, v) ∷ more))

  first : (more : List Given) (ih : Rest more) (o : Listed) (v : Option Text) (words rest : List Text) (before : List Given) (h : Held) → listed c.1 o.0 ≡ Some o → o.2 ≡ not (is_some v) → Ready before h → Writes more rest
      → AreListed c.1 more → First more o.0 v words rest before h
  first more ih o (Some v) words rest before h is takes ready writes known new once form =
      let at_o : listed c.1 o.0 ≡ Some (o.0, o.1, false) = is ∙ (λ i. Some (o.0, o.1, takes i)) in
      elim form [
        | inl e ↦ subst (λ ws. Leaves (walk_at idle h) ws (given_rows (before ++ (o.0, Some v) ∷ more))) (sym e.0) (apart more ih (o.0, o.1) v at_o rest before h ready writes new once known e.1)
        | inr e ↦ subst (λ ws. Leaves (walk_at idle h) ws (given_rows (before ++ (o.0, Some v) ∷ more))) (sym e) (attached more ih (o.0, o.1) v at_o rest before h ready writes new once known)
      ]
  first more ih o None words rest before h is takes ready writes known new once form =
      let at_o : listed c.1 o.0 ≡ Some (o.0, o.1, true) = is ∙ (λ i. Some (o.0, o.1, takes i)) in
      subst (λ ws. Leaves (walk_at idle h) ws (given_rows (before ++ (o.0, None) ∷ more))) (sym form) (alone more ih (o.0, o.1) at_o rest before h ready writes new once known)

  pub complete : (more : List Given) → Rest more
  unfolding walk_fault
  complete [] words before h ready writes once known =
      subst (λ ws. Leaves (walk_at idle h) ws (given_rows (before ++ []))) (sym writes) (ready.1, ready.2 ∙ ap given_rows (sym (append-nil before)))
  complete (g ∷ more) words before h ready (rest, writes, form) once known =
      let o = known.0.0 in
      let name : o.0 ≡ g.0 = listed_name c.1 g.0 o known.0.1 in
      let at_o : listed c.1 o.0 ≡ Some o = ap (listed c.1) name ∙ known.0.1 in
      subst (λ (n : Text). First more n g.1 words rest before h) name (first more (complete more) o g.1 words rest before h at_o known.0.2 ready writes known.1) once.0 once.1 form
