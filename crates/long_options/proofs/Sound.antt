-- Words that clap takes are written as options.
use Rattle.std.proofs.Common.{◌≡◌, ◌∙◌, Bool, true, false, suc, arith, refl, sym, ap, ap₂, List, [], ◌∷◌, ◌++◌, Option, Some, None, option_map, append_assoc, append-nil, inl, inr}
use Rattle.std.proofs.lemmas.Bool.{or_parts}
use Rattle.std.specs.List.{All, fold}
use Rattle.std.specs.Str.{IsUtf8, bytes_eq}
use Rattle.clap.specs.Lexer.{long_of}
use Rattle.clap.specs.Walk.{Held, Rule, Walk, arg_by_long, idle, option, reacted, settled, used, walked}
use Rattle.clap.specs.Simple.{Shape}
use Rattle.clap.specs.Faults.{long_fault, react_fault, settle_fault, turn_fault, use_fault, walk_fault}
use Rattle.clap.specs.Kinds.{Kinds, or_else}
use Rattle.long_options.specs.Words.{AreListed, Given, IsApart, Listed, Once, Text, Writes}
use Rattle.long_options.specs.Words.{long_flag, has_name, listed}
use Rattle.long_options.specs.Plain.{dashes, has_dashes}
use Rattle.long_options.proofs.Apart.{apart_of}
use Rattle.long_options.proofs.LongWords.{word_of}
use Rattle.long_options.proofs.Rows.{built_rule, built_rules, by_long, given_rows, left_fault, left_of, left_rows, listed_name, switch, switch_was_first, use_was_first, used_given, used_switch, valued}
use Rattle.long_options.proofs.Turns.{built_shape, fault_of_step, met_long, flag_next, flag_turn, left_none, no_flags, other_passes, right_none, some_fault, stray_turn, value_next, walk_at}

pub all_rest : (P : Text → Type 0) (w : Text) (ws : List Text) → All P (w ∷ ws) → All P ws
all_rest P w ws all k d in_rest = all (suc k) d (omega arith)

module _ (c : Text × List Listed) where
  abbrev pub R : List Rule
  R = built_rules c.1

  abbrev pub S : Shape
  S = built_shape c

  abbrev pub end_of : Walk → List Text → Held
  end_of w words = (fold (walked R []) w words).held

  -- what is wrong with the words from here on
  abbrev pub ending : Walk → List Text → Kinds
  ending w words = or_else (walk_fault S [] w words) (settle_fault R false (end_of w words))

  pub ending_more : (w : Walk) (word : Text) (words : List Text) → ending w (word ∷ words) ≡ [] → (turn_fault S [] w word ≡ []) × (ending (walked R [] w word) words ≡ [])
  unfolding walk_fault
  ending_more w word words e =
      let here = left_none _ _ (left_none _ _ e) in
      let rest = right_none _ _ (left_none _ _ e) in
      let last = right_none _ _ e in
      (here, ap (λ k. or_else k (settle_fault R false (end_of (walked R [] w word) words))) rest ∙ last)

  pub record Reads (before : List Given) (h : Held) (words : List Text) (end : Held) : Type 0 where
    pub fault : settle_fault R false h ≡ []
    pub more : List Given
    pub writes : Writes more words
    pub once : Once before more
    pub are_listed : AreListed c.1 more
    pub rows : (settled R end).rows ≡ given_rows (before ++ more)

  pub record ReadsValue (o : Text × Bool) (before : List Given) (words : List Text) (end : Held) : Type 0 where
    pub value : Text
    pub rest : List Text
    pub words_are : words ≡ value ∷ rest
    pub apart : IsApart value
    pub more : List Given
    pub writes : Writes more rest
    pub once : Once before ((o.0, Some value) ∷ more)
    pub are_listed : AreListed c.1 more
    pub rows : (settled R end).rows ≡ given_rows (before ++ (o.0, Some value) ∷ more)

  abbrev pub start_at : Option (Text × Bool) → List Given → Held → Walk
  start_at None before h = walk_at idle h
  start_at (Some o) before h = walk_at (option o.0) (left_of before o [])

  abbrev pub Fits : Option (Text × Bool) → List Given → Held → Type 0
  Fits None before h = (h.skip ≡ 0) × (settle_fault R false h ≡ [] → (settled R h).rows ≡ given_rows before)
  Fits (Some o) before h = listed c.1 o.0 ≡ Some (valued o)

  abbrev pub Reading : Option (Text × Bool) → List Given → Held → List Text → Held → Type 0
  Reading None before h words end = Reads before h words end
  Reading (Some o) before h words end = ReadsValue o before words end

  open_faults : (o : Text × Bool) (before : List Given) → listed c.1 o.0 ≡ Some (valued o) → settle_fault R false (left_of before o []) ≡ [] → ⊥
  open_faults o before is e = some_fault _ _ (sym (left_fault c.1 o is before []) ∙ e)

  -- the rest is read, whatever was before
  abbrev Rest : List Text → Type 0
  Rest words = (mode : Option (Text × Bool)) (before : List Given) (h : Held) → Fits mode before h → ending (start_at mode before h) words ≡ [] → Reading mode before h words (end_of (start_at mode before h) words)

  module _ (w : Text) (ws : List Text) (ih : Rest ws) (before : List Given) where
    attached : (h : Held) (n t : Text) (o : Text × Bool) → Fits None before h → long_of w ≡ Some (n, Some t) → listed c.1 n ≡ Some (valued o) → ending (walk_at idle h) (w ∷ ws) ≡ []
        → Reads before h (w ∷ ws) (end_of (walk_at idle h) (w ∷ ws))
    attached h n t o fits l is e =
        let by : arg_by_long R n ≡ Some (built_rule (valued o)) = by_long c.1 n ∙ ap (option_map built_rule) is in
        let name : o.0 ≡ n = listed_name c.1 n (valued o) is in
        let at_o : listed c.1 o.0 ≡ Some (valued o) = ap (listed c.1) name ∙ is in
        let p = ending_more (walk_at idle h) w ws e in
        let reacts : react_fault R false (built_rule (valued o)) (t ∷ []) h ≡ [] = left_none _ _ (sym (flag_turn c false [] idle h w refl n (Some t) (Some (built_rule (valued o))) l by) ∙ p.0) in
        let fine : settle_fault R false h ≡ [] = left_none _ _ reacts in
        let rows = fits.1 fine in
        let new : has_name o.0 before ≡ false = use_was_first o t before (sym (ap (use_fault false (built_rule (valued o)) (t ∷ [])) rows) ∙ right_none _ _ reacts) in
        let after = reacted R (built_rule (valued o)) (t ∷ []) h in
        let moved : walked R [] (walk_at idle h) w ≡ walk_at idle after = flag_next c false [] idle h w refl n (Some t) (Some (built_rule (valued o))) l by in
        let same : after.rows ≡ given_rows (before ++ (o.0, Some t) ∷ []) = ap (used (built_rule (valued o)) (t ∷ [])) rows ∙ used_given o t before new in
        let r : Reads (before ++ (o.0, Some t) ∷ []) after ws (end_of (walk_at idle after) ws) =
        ih None (before ++ (o.0, Some t) ∷ []) after (fits.0, λ _. same) (ap (λ (x : Walk). ending x ws) (sym moved) ∙ p.1) in
        record {
          fault = fine;
          more = (o.0, Some t) ∷ r.more;
          writes = (ws, r.writes, inr (ap (λ x. x ∷ ws) (word_of w n (Some t) l ∙ ap (λ x. long_flag x ++ 61 ∷ t) (sym name))));
          once = (new, r.once);
          are_listed = ((valued o, at_o, refl), r.are_listed);
          rows = ap (λ (x : Walk). (settled R (end_of x ws)).rows) moved ∙ r.rows ∙ ap given_rows (append_assoc before ((o.0, Some t) ∷ []) r.more);
        }

    opened : (h : Held) (n : Text) (o : Text × Bool) → Fits None before h → long_of w ≡ Some (n, None) → listed c.1 n ≡ Some (valued o) → ending (walk_at idle h) (w ∷ ws) ≡ []
        → Reads before h (w ∷ ws) (end_of (walk_at idle h) (w ∷ ws))
    opened h n o fits l is e =
        let by : arg_by_long R n ≡ Some (built_rule (valued o)) = by_long c.1 n ∙ ap (option_map built_rule) is in
        let name : o.0 ≡ n = listed_name c.1 n (valued o) is in
        let at_o : listed c.1 o.0 ≡ Some (valued o) = ap (listed c.1) name ∙ is in
        let p = ending_more (walk_at idle h) w ws e in
        let fine : settle_fault R false h ≡ [] = left_none _ _ (sym (flag_turn c false [] idle h w refl n None (Some (built_rule (valued o))) l by) ∙ p.0) in
        let same : ◌≡◌ {A = Held} (record (settled R h) { pending = Some (o.0, []) }) (left_of before o []) =
        λ i. record { rows = (fits.1 fine) i; pending = Some (o.0, []); skip = fits.0 i } in
        let moved : walked R [] (walk_at idle h) w ≡ walk_at (option o.0) (left_of before o []) =
        flag_next c false [] idle h w refl n None (Some (built_rule (valued o))) l by ∙ ap (walk_at (option o.0)) same in
        let r : ReadsValue o before ws (end_of (walk_at (option o.0) (left_of before o [])) ws) =
        ih (Some o) before h at_o (ap (λ (x : Walk). ending x ws) (sym moved) ∙ p.1) in
        record {
          fault = fine;
          more = (o.0, Some r.value) ∷ r.more;
          writes = (r.rest, r.writes, inl (ap₂ (λ x y. x ∷ y) (word_of w n None l ∙ ap long_flag (sym name)) r.words_are, r.apart));
          once = r.once;
          are_listed = ((valued o, at_o, refl), r.are_listed);
          rows = ap (λ (x : Walk). (settled R (end_of x ws)).rows) moved ∙ r.rows;
        }

    value_read : (o : Text × Bool) → listed c.1 o.0 ≡ Some (valued o) → IsUtf8 w → bytes_eq w dashes ≡ false → long_of w ≡ None → ending (walk_at (option o.0) (left_of before o [])) (w ∷ ws) ≡ []
        → ReadsValue o before (w ∷ ws) (end_of (walk_at (option o.0) (left_of before o [])) (w ∷ ws))
    value_read o is u d l e =
        let p = ending_more (walk_at (option o.0) (left_of before o [])) w ws e in
        let moved : walked R [] (walk_at (option o.0) (left_of before o [])) w ≡ walk_at idle (left_of before o (w ∷ [])) =
        (other_passes c false [] (option o.0) (left_of before o []) w refl refl d l p.0).1 ∙ value_next c o before w is in
        let rows : settle_fault R false (left_of before o (w ∷ [])) ≡ [] → (settled R (left_of before o (w ∷ []))).rows ≡ given_rows (before ++ (o.0, Some w) ∷ []) =
        λ fine. left_rows c.1 o is before (w ∷ []) ∙ used_given o w before (use_was_first o w before (sym (left_fault c.1 o is before (w ∷ [])) ∙ fine)) in
        let r : Reads (before ++ (o.0, Some w) ∷ []) (left_of before o (w ∷ [])) ws (end_of (walk_at idle (left_of before o (w ∷ []))) ws) =
        ih None (before ++ (o.0, Some w) ∷ []) (left_of before o (w ∷ [])) (refl, rows) (ap (λ (x : Walk). ending x ws) (sym moved) ∙ p.1) in
        record {
          value = w;
          rest = ws;
          words_are = refl;
          apart = apart_of w d l (no_flags c false [] (option o.0) (left_of before o []) w refl u refl d l p.0);
          more = r.more;
          writes = r.writes;
          once = (use_was_first o w before (sym (left_fault c.1 o is before (w ∷ [])) ∙ r.fault), r.once);
          are_listed = r.are_listed;
          rows = ap (λ (x : Walk). (settled R (end_of x ws)).rows) moved ∙ r.rows ∙ ap given_rows (append_assoc before ((o.0, Some w) ∷ []) r.more);
        }

    -- a word with two hyphens, where an option waits for its value
    no_value : (o : Text × Bool) (n : Text) (v : Option Text) (x : Option Listed) → listed c.1 o.0 ≡ Some (valued o) → long_of w ≡ Some (n, v) → listed c.1 n ≡ x
        → ending (walk_at (option o.0) (left_of before o [])) (w ∷ ws) ≡ [] → ⊥
    no_value o n v None is l found e =
        let by : arg_by_long R n ≡ None = by_long c.1 n ∙ ap (option_map built_rule) found in
        let p = ending_more (walk_at (option o.0) (left_of before o [])) w ws e in
        some_fault _ _ (sym (flag_turn c false [] (option o.0) (left_of before o []) w refl n v None l by) ∙ p.0)
    no_value o n v (Some y) is l found e =
        let by : arg_by_long R n ≡ Some (built_rule y) = by_long c.1 n ∙ ap (option_map built_rule) found in
        let p = ending_more (walk_at (option o.0) (left_of before o [])) w ws e in
        refuses v y.2 (sym (flag_turn c false [] (option o.0) (left_of before o []) w refl n v (Some (built_rule y)) l by) ∙ p.0)
      where
        refuses : (x : Option Text) (s : Bool) → or_else (long_fault R false (Some (built_rule (y.0, y.1, s))) x (left_of before o [])) (fault_of_step c false [] (option o.0) (left_of before o []) w refl (met_long c false [] (option o.0) (left_of before o []) w refl x (Some (built_rule (y.0, y.1, s))))) ≡ [] → ⊥
        refuses None false k = open_faults o before is (left_none _ _ k)
        refuses None true k = open_faults o before is (left_none _ _ (left_none _ _ k))
        refuses (Some t) false k = open_faults o before is (left_none _ _ (left_none _ _ k))
        refuses (Some t) true k = some_fault _ _ k

    switched : (h : Held) (n : Text) (o : Text × Bool) → Fits None before h → long_of w ≡ Some (n, None) → listed c.1 n ≡ Some (switch o) → ending (walk_at idle h) (w ∷ ws) ≡ []
        → Reads before h (w ∷ ws) (end_of (walk_at idle h) (w ∷ ws))
    switched h n o fits l is e =
        let by : arg_by_long R n ≡ Some (built_rule (switch o)) = by_long c.1 n ∙ ap (option_map built_rule) is in
        let name : o.0 ≡ n = listed_name c.1 n (switch o) is in
        let at_o : listed c.1 o.0 ≡ Some (switch o) = ap (listed c.1) name ∙ is in
        let p = ending_more (walk_at idle h) w ws e in
        let reacts : react_fault R false (built_rule (switch o)) [] h ≡ [] = left_none _ _ (sym (flag_turn c false [] idle h w refl n None (Some (built_rule (switch o))) l by) ∙ p.0) in
        let fine : settle_fault R false h ≡ [] = left_none _ _ reacts in
        let rows = fits.1 fine in
        let new : has_name o.0 before ≡ false = switch_was_first o before (sym (ap (use_fault false (built_rule (switch o)) []) rows) ∙ right_none _ _ reacts) in
        let after = reacted R (built_rule (switch o)) [] h in
        let moved : walked R [] (walk_at idle h) w ≡ walk_at idle after = flag_next c false [] idle h w refl n None (Some (built_rule (switch o))) l by in
        let same : after.rows ≡ given_rows (before ++ (o.0, None) ∷ []) = ap (used (built_rule (switch o)) []) rows ∙ used_switch o before new in
        let r : Reads (before ++ (o.0, None) ∷ []) after ws (end_of (walk_at idle after) ws) =
        ih None (before ++ (o.0, None) ∷ []) after (fits.0, λ _. same) (ap (λ (x : Walk). ending x ws) (sym moved) ∙ p.1) in
        record {
          fault = fine;
          more = (o.0, None) ∷ r.more;
          writes = (ws, r.writes, ap (λ x. x ∷ ws) (word_of w n None l ∙ ap long_flag (sym name)));
          once = (new, r.once);
          are_listed = ((switch o, at_o, refl), r.are_listed);
          rows = ap (λ (x : Walk). (settled R (end_of x ws)).rows) moved ∙ r.rows ∙ ap given_rows (append_assoc before ((o.0, None) ∷ []) r.more);
        }

    long_idle : (h : Held) (n : Text) (v : Option Text) (x : Option Listed) → Fits None before h → long_of w ≡ Some (n, v) → listed c.1 n ≡ x → ending (walk_at idle h) (w ∷ ws) ≡ []
        → Reads before h (w ∷ ws) (end_of (walk_at idle h) (w ∷ ws))
    long_idle h n v None fits l found e =
        let by : arg_by_long R n ≡ None = by_long c.1 n ∙ ap (option_map built_rule) found in
        let p = ending_more (walk_at idle h) w ws e in
        absurd (some_fault _ _ (sym (flag_turn c false [] idle h w refl n v None l by) ∙ p.0))
    long_idle h n None (Some (a, m, false)) fits l found e = opened h n (a, m) fits l found e
    long_idle h n (Some t) (Some (a, m, false)) fits l found e = attached h n t (a, m) fits l found e
    long_idle h n None (Some (a, m, true)) fits l found e = switched h n (a, m) fits l found e
    long_idle h n (Some t) (Some (a, m, true)) fits l found e =
        let by : arg_by_long R n ≡ Some (built_rule (a, m, true)) = by_long c.1 n ∙ ap (option_map built_rule) found in
        let p = ending_more (walk_at idle h) w ws e in
        absurd (some_fault _ _ (sym (flag_turn c false [] idle h w refl n (Some t) (Some (built_rule (a, m, true))) l by) ∙ p.0))

    idle_word : (h : Held) (p : Option (Text × Option Text)) → Fits None before h → bytes_eq w dashes ≡ false → long_of w ≡ p → ending (walk_at idle h) (w ∷ ws) ≡ []
        → Reads before h (w ∷ ws) (end_of (walk_at idle h) (w ∷ ws))
    idle_word h None fits d l e = absurd (stray_turn c false [] h w refl fits.0 d l (ending_more (walk_at idle h) w ws e).0)
    idle_word h (Some q) fits d l e = long_idle h q.0 q.1 (listed c.1 q.0) fits l refl e

    waiting_word : (o : Text × Bool) (p : Option (Text × Option Text)) → listed c.1 o.0 ≡ Some (valued o) → IsUtf8 w → bytes_eq w dashes ≡ false → long_of w ≡ p → ending (walk_at (option o.0) (left_of before o [])) (w ∷ ws) ≡ []
        → ReadsValue o before (w ∷ ws) (end_of (walk_at (option o.0) (left_of before o [])) (w ∷ ws))
    waiting_word o None is u d l e = value_read o is u d l e
    waiting_word o (Some q) is u d l e = absurd (no_value o q.0 q.1 (listed c.1 q.0) is l refl e)

  pub sound : (words : List Text) (mode : Option (Text × Bool)) (before : List Given) (h : Held) → Fits mode before h → All IsUtf8 words → has_dashes words ≡ false → ending (start_at mode before h) words ≡ []
      → Reading mode before h words (end_of (start_at mode before h) words)
  unfolding walk_fault
  sound [] None before h fits u d e = record {
    fault = e;
    more = [];
    writes = refl;
    once = tt;
    are_listed = tt;
    rows = fits.1 e ∙ ap given_rows (sym (append-nil before));
  }
  sound [] (Some o) before h fits u d e = absurd (open_faults o before fits e)
  sound (w ∷ ws) None before h fits u d e =
      let p = or_parts (bytes_eq w dashes) _ d in
      idle_word w ws (λ mode b k f x. sound ws mode b k f (all_rest IsUtf8 w ws u) p.1 x) before h (long_of w) fits p.0 refl e
  sound (w ∷ ws) (Some o) before h fits u d e =
      let p = or_parts (bytes_eq w dashes) _ d in
      waiting_word w ws (λ mode b k f x. sound ws mode b k f (all_rest IsUtf8 w ws u) p.1 x) before o (long_of w) fits (u 0 w (omega arith)) p.0 refl e
