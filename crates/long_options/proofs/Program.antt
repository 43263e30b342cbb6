-- A program's words: clap takes exactly a command's name and then that command's options.
use Rattle.std.proofs.Common.{◌≡◌, ◌∙◌, ◌&&◌, ◌||◌, ℕ, Bool, cond, true, false, refl, sym, ap, ap₂, List, [], ◌∷◌, ◌++◌, map, Option, Some, None, option_map, append_assoc, append-nil, is_some, not, inl, inr, subst}
use Rattle.std.proofs.lemmas.Bool.{not-true, or_parts}
use Rattle.std.specs.Prelude.{codes, find}
use Rattle.std.specs.List.{All, fold, list_all}
use Rattle.clap.proofs.WalkLemmas.{both}
use Rattle.std.specs.Option.{option_map_or}
use Rattle.std.specs.Str.{IsUtf8, bytes_eq}
use Rattle.clap.specs.Lexer.{long_of}
use Rattle.clap.specs.Walk.{Names, Row, Walk, answers_to, finished, idle, nothing_held, rows_after, settled, stop_after, subcommand_met, subcommand_or_other, after_step, walk, walk_from, walked}
use Rattle.clap.specs.Simple.{filled as filled_rule, index_after, with_index, App, Shape, built, built_leaf, entered, filled_from, inherited, label_of, names_of, rows_at, subcommand_of}
use Rattle.clap.specs.Faults.{built_fault, check_fault, defaults_fault, entered_fault, fault_of, level_fault, other_fault, settle_fault, step_fault, turn_fault, walk_fault}
use Rattle.clap.specs.Kinds.{Kinds, or_else}
use Rattle.clap.proofs.FaultLemmas.{stopped_fault}
use Rattle.clap.specs.declared.error.kind.ErrorKind.TheVariants.{DisplayHelp, InvalidSubcommand}
use Rattle.long_options.specs.Words.{Described, Given, IsCall, IsWritten, Listed, Text, Writes}
use Rattle.long_options.specs.Words.{AreListed, long_flag}
use Rattle.long_options.specs.Plain.{are_distinct, dashes, described, has_dashes, is_plain}
use Rattle.long_options.specs.Plain.{is_plain_name}
use Rattle.long_options.specs.Apps.{command_shape, option_rule, program}
use Rattle.long_options.proofs.Rows.{built_rule, built_rules, listed_name}
use Rattle.long_options.proofs.Turns.{both_none, built_shape, flag_turn, left_none, shape_at, some_fault, stray_turn}
use Rattle.long_options.proofs.Sound.{all_rest}
use Rattle.long_options.proofs.LongWords.{not_dashes}
use Rattle.long_options.proofs.Apart.{no_option}
use Rattle.long_options.specs.layers.Finding.{CallsTaken, Finds, TakesCalls}
use Rattle.long_options.proofs.Found.{distinct_found, found_is}
use Rattle.long_options.proofs.Complete.{listed_plain, name_attached, name_flag, plain_names}
use Rattle.long_options.proofs.Level.{rows_left, level_complete, level_sound}
use Rattle.std.proofs.lemmas.Slice.Eq.{bytes_eq-Decides}

-- ---- building

rule_filled : (n : Text) (m s : Bool) (i : ℕ) → with_index i (filled_rule (option_rule (n, m, s))) ≡ built_rule (n, m, s)
rule_filled n m true i = refl
rule_filled n m false i = refl

same_index : (n : Text) (m s : Bool) (i : ℕ) → index_after i (filled_rule (option_rule (n, m, s))) ≡ i
same_index n m true i = refl
same_index n m false i = refl

filled : (options : List Listed) (i : ℕ) → filled_from i (map option_rule options) ≡ built_rules options
filled [] i = refl
filled (o ∷ os) i = ap₂ (λ r rs. r ∷ rs) (rule_filled o.0 o.1 o.2 i) (ap (λ k. filled_from k (map option_rule os)) (same_index o.0 o.1 o.2 i) ∙ filled os i)

abbrev top_of : Text → Shape
top_of name = record (shape_at true (name, [])) { is_built = true }

abbrev pub built_program : Text → List Described → App
built_program name commands = record { top = top_of name; subs = map built_shape commands }

module _ (name : Text) where
  abbrev above : Shape
  above = (program name []).top

  abbrev leaf_above : Described → Shape
  leaf_above c = built_leaf (inherited (record above { is_built = true }) (command_shape c))

  leaf_is : (c : Described) → leaf_above c ≡ built_shape c
  leaf_is c = ap (λ rs. record (built_shape c) { rules = rs }) (filled c.1 1)

  leaves_are : (commands : List Described) → map built_leaf (map (inherited (record above { is_built = true })) (map command_shape commands)) ≡ map built_shape commands
  leaves_are [] = refl
  leaves_are (c ∷ cs) = ap₂ (λ x xs. x ∷ xs) (leaf_is c) (leaves_are cs)

  pub program_built : (commands : List Described) → built (program name commands) ≡ built_program name commands
  program_built commands = ap (λ subs. record { top = top_of name; subs = subs }) (leaves_are commands)

-- ---- names

module _ (name : Text) (commands : List Described) where
  abbrev B : App
  B = built_program name commands

  abbrev N : Names
  N = names_of B

  abbrev T : Shape
  T = top_of name

  by_name : (word : Text) (cs : List Described) → find (answers_to word) (map label_of (map built_shape cs)) ≡ option_map (λ c. (c.0, [])) (described cs word)
  by_name word [] = refl
  by_name word (c ∷ cs) = go (bytes_eq c.0 word) (by_name word cs)
    where
      go : (b : Bool) → find (answers_to word) (map label_of (map built_shape cs)) ≡ option_map (λ (c : Described). (c.0, [])) (described cs word)
          → cond (b || false) (Some (c.0, [])) (find (answers_to word) (map label_of (map built_shape cs))) ≡ option_map (λ (c : Described). (c.0, [])) (cond b (Some c) (described cs word))
      go true e = refl
      go false e = e

  by_shape : (word : Text) (cs : List Described) → find (λ s. answers_to word (label_of s)) (map built_shape cs) ≡ option_map built_shape (described cs word)
  by_shape word [] = refl
  by_shape word (c ∷ cs) = go (bytes_eq c.0 word) (by_shape word cs)
    where
      go : (b : Bool) → find (λ (s : Shape). answers_to word (label_of s)) (map built_shape cs) ≡ option_map built_shape (described cs word)
          → cond (b || false) (Some (built_shape c)) (find (λ (s : Shape). answers_to word (label_of s)) (map built_shape cs)) ≡ option_map built_shape (cond b (Some c) (described cs word))
      go true e = refl
      go false e = e

  pub described_name : (word : Text) (cs : List Described) (c : Described) → described cs word ≡ Some c → c.0 ≡ word
  described_name word [] c e = cc
  described_name word (x ∷ xs) c e = go (bytes_eq x.0 word) refl e (described_name word xs c)
    where
      go : (b : Bool) → bytes_eq x.0 word ≡ b → cond b (Some x) (described xs word) ≡ Some c → (described xs word ≡ Some c → c.0 ≡ word) → c.0 ≡ word
      go true is e ih = let same : x ≡ c = cc in ap (λ (y : Described). y.0) (sym same) ∙ (bytes_eq-Decides x.0 word).0 is
      go false is e ih = ih e

  met_is : (word : Text) (found : Option Described) → described commands word ≡ found → subcommand_met N idle word ≡ option_map (λ c. c.0) found
  met_is word found e = ap (option_map (λ (s : Text × List Text). s.0)) (by_name word commands ∙ ap (option_map (λ (c : Described). (c.0, []))) e) ∙ go found
    where
      go : (o : Option Described) → option_map (λ (s : Text × List Text). s.0) (option_map (λ (c : Described). (c.0, [])) o) ≡ option_map (λ (c : Described). c.0) o
      go None = refl
      go (Some c) = refl

  -- ---- the first word

  no_help : (b : Bool) → cond (b && false) (DisplayHelp ∷ InvalidSubcommand ∷ []) [] ≡ []
  no_help true = refl
  no_help false = refl

  enters_turn : (word : Text) (c : Described) → described commands word ≡ Some c → turn_fault T N (walk_from nothing_held) word ≡ []
  enters_turn word c e =
      ap (λ m. or_else (other_fault T m word nothing_held) (step_fault T 1 (subcommand_or_other [] m idle 1 word nothing_held).0 (subcommand_or_other [] m idle 1 word nothing_held).1)) (met_is word (Some c) e)
      ∙ both_none _ _ (no_help (bytes_eq c.0 (codes "help"))) refl

  enters_next : (word : Text) (c : Described) → described commands word ≡ Some c → walked [] N (walk_from nothing_held) word ≡ record (walk_from nothing_held) { stopped = Some (c.0, []) }
  unfolding walked
  enters_next word c e =
      ap (λ m. after_step [] word (walk_from nothing_held) (subcommand_or_other [] m idle 1 word nothing_held).0 (subcommand_or_other [] m idle 1 word nothing_held).1) (met_is word (Some c) e)

  abbrev stopped_at : Text → List Text → Walk
  stopped_at n words = record (walk_from nothing_held) { stopped = Some (n, words) }

  rest_kept : (n : Text) (before words : List Text) → fold (walked [] N) (stopped_at n before) words ≡ stopped_at n (before ++ words)
  unfolding walked
  rest_kept n before [] = ap (stopped_at n) (sym (append-nil before))
  rest_kept n before (w ∷ ws) = rest_kept n (before ++ w ∷ []) ws ∙ ap (stopped_at n) (append_assoc before (w ∷ []) ws)

  walk_is : (word : Text) (ws : List Text) (c : Described) → described commands word ≡ Some c → walk [] N nothing_held (word ∷ ws) ≡ stopped_at c.0 ws
  walk_is word ws c e = ap (λ (w : Walk). fold (walked [] N) w ws) (enters_next word c e) ∙ rest_kept c.0 [] ws

  shape_is : (word : Text) (c : Described) → described commands word ≡ Some c → find (λ s. answers_to c.0 (label_of s)) B.subs ≡ Some (built_shape c)
  shape_is word c e = by_shape c.0 commands ∙ ap (option_map built_shape) (ap (described commands) (described_name word commands c e) ∙ e)

  abbrev level_of : Option Shape → List Text → Kinds
  level_of s ws = option_map_or (λ s. level_fault s [] nothing_held ws false []) s []

  -- the program fails as the command that the first word names
  pub fault_below : (word : Text) (ws : List Text) (c : Described) → described commands word ≡ Some c → built_fault B nothing_held (word ∷ ws) ≡ level_fault (built_shape c) [] nothing_held ws false []
  unfolding walk_fault defaults_fault
  fault_below word ws c e =
      let passes : walk_fault T N (walk_from nothing_held) (word ∷ ws) ≡ [] =
      both_none _ _ (enters_turn word c e) (ap (λ (w : Walk). walk_fault T N w ws) (enters_next word c e) ∙ stopped_fault T N (walk_from nothing_held) (c.0, []) ws) in
      ap (λ (k : Kinds). or_else k (or_else (entered_fault B (walk [] N nothing_held (word ∷ ws)).stopped) (end_of_level (walk [] N nothing_held (word ∷ ws))))) passes
      ∙ ap (λ (w : Walk). or_else (entered_fault B w.stopped) (end_of_level w)) (walk_is word ws c e)
      ∙ ap (λ s. or_else (level_of s ws) (end_with (option_map (λ s. rows_at s ws) s))) (shape_is word c e)
      ∙ at_end (level_fault (built_shape c) [] nothing_held ws false [])
    where
      end_with : Option (Text × List Row) → Kinds
      end_with inner = or_else [] (or_else [] (check_fault T (finished [] nothing_held) (is_some inner)))

      end_of_level : Walk → Kinds
      end_of_level w = or_else (settle_fault [] false w.held) (or_else (defaults_fault (settled [] w.held).rows []) (check_fault T (finished [] w.held) (is_some (entered B w.stopped))))

      at_end : (k : Kinds) → or_else k [] ≡ k
      at_end [] = refl
      at_end (k ∷ ks) = refl

  -- no command's name comes first
  pub fault_outside : (words : List Text) → has_dashes words ≡ false → built_fault B nothing_held words ≡ []
      → (word : Text) × (ws : List Text) × (c : Described) × (words ≡ word ∷ ws) × (described commands word ≡ Some c)
  unfolding walk_fault defaults_fault
  fault_outside [] d e = absurd (some_fault _ _ e)
  fault_outside (w ∷ ws) d e = go (described commands w) refl
    where
      here : turn_fault T N (walk_from nothing_held) w ≡ []
      here = left_none _ _ (left_none _ _ e)

      other : described commands w ≡ None → (p : Option (Text × Option Text)) → long_of w ≡ p → ⊥
      other none None l = stray_turn (name, []) true N nothing_held w (met_is w None none) refl (or_parts (bytes_eq w dashes) _ d).0 l here
      other none (Some p) l = some_fault _ _ (sym (flag_turn (name, []) true N idle nothing_held w (met_is w None none) p.0 p.1 None l refl) ∙ here)

      go : (found : Option Described) → described commands w ≡ found → (word : Text) × (rest : List Text) × (c : Described) × (w ∷ ws ≡ word ∷ rest) × (described commands word ≡ Some c)
      go None is = absurd (other is (long_of w) refl)
      go (Some c) is = (w, ws, c, refl, is)

-- ---- no word of a call is `--`

written_dashes : (n : Text) (v : Option Text) (words rest : List Text) → is_plain_name n ≡ true → IsWritten n v words rest → has_dashes words ≡ has_dashes rest
written_dashes n None words rest name form = ap has_dashes form ∙ ap (λ a. a || has_dashes rest) (not_dashes (long_flag n) n None (name_flag n name))
written_dashes n (Some v) words rest name form = elim form [
  | inl e ↦ ap has_dashes e.0 ∙ ap₂ (λ a b. a || (b || has_dashes rest)) (not_dashes (long_flag n) n None (name_flag n name)) (no_option v e.1).0
  | inr e ↦ ap has_dashes e ∙ ap (λ a. a || has_dashes rest) (not_dashes (long_flag n ++ 61 ∷ v) n (Some v) (name_attached n v name))
]

no_dashes : (options : List Listed) (given : List Given) (words : List Text) → plain_names options ≡ true → AreListed options given → Writes given words → has_dashes words ≡ false
no_dashes options [] words names known writes = ap has_dashes writes
no_dashes options (g ∷ more) words names known (rest, writes, form) =
    let o = known.0.0 in
    let name : o.0 ≡ g.0 = listed_name options g.0 o known.0.1 in
    let name_is : is_plain_name g.0 ≡ true = ap is_plain_name (sym name) ∙ listed_plain options g.0 o names known.0.1 in
    written_dashes g.0 g.1 words rest name_is form ∙ no_dashes options more rest names known.1 writes

-- ---- the program

-- what a plain command promises
pub record Plain (c : Described) : Type 0 where
  pub named : bytes_eq c.0 dashes ≡ false
  pub names : plain_names c.1 ≡ true
  pub distinct : are_distinct c.1 ≡ true

plain_is : (c : Described) → is_plain c ≡ true → Plain c
plain_is c e =
    let front = both (not (bytes_eq c.0 dashes) && plain_names c.1) (are_distinct c.1) e in
    let first = both (not (bytes_eq c.0 dashes)) (plain_names c.1) front.0 in
    record { named = not-true _ first.0; names = first.1; distinct = front.1 }

described_plain : (commands : List Described) (name : Text) (c : Described) → list_all is_plain commands ≡ true → described commands name ≡ Some c → Plain c
described_plain [] name c all e = cc
described_plain (x ∷ xs) name c all e = go (bytes_eq x.0 name) e (described_plain xs name c (both (is_plain x) _ all).1)
  where
    go : (b : Bool) → cond b (Some x) (described xs name) ≡ Some c → (described xs name ≡ Some c → Plain c) → Plain c
    go true e ih = let same : x ≡ c = cc in plain_is c (ap is_plain (sym same) ∙ (both (is_plain x) _ all).0)
    go false e ih = ih e

module _ (name : Text) (commands : List Described) where
  fault_is : (words : List Text) → fault_of (program name commands) words ≡ built_fault (built_program name commands) nothing_held words
  fault_is words = ap (λ (a : App). built_fault a nothing_held words) (program_built name commands)

  rows_are : (words : List Text) (rest : List Text) (c : Described) (given : List Given) → words ≡ c.0 ∷ rest → described commands c.0 ≡ Some c → rows_after (built_rules c.1) [] rest ≡ rows_left c given
      → subcommand_of (program name commands) words ≡ Some (c.0, rows_left c given)
  rows_are words rest c given is found rows =
      ap (λ (a : App). entered a (stop_after a.top.rules (names_of a) words)) (program_built name commands)
      ∙ ap (λ ws. entered (built_program name commands) (stop_after [] (names_of (built_program name commands)) ws)) is
      ∙ ap (λ (w : Walk). entered (built_program name commands) w.stopped) (walk_is name commands c.0 rest c found)
      ∙ ap (option_map (λ s. rows_at s rest)) (shape_is name commands c.0 c found)
      ∙ ap (λ r. Some (c.0, r)) rows

  finds : (words : List Text) (c : Described) (given : List Given) (call : IsCall c words given) → Plain c → described commands c.0 ≡ Some c → rows_after (built_rules c.1) [] call.rest ≡ rows_left c given
      → Finds (program name commands) words c given
  finds words c given call plain found rows =
      (rows_left c given, rows_are words call.rest c given call.words_are found rows, found_is c.0 c.1 (distinct_found c.1 plain.distinct) given call.options.are_listed)

pub takes_calls : TakesCalls
takes_calls name commands words plain u d e =
    let f = fault_outside name commands words d (sym (fault_is name commands words) ∙ e) in
    let named : f.2.0 ≡ f.0 = described_name name commands f.0 commands f.2 f.4 in
    let found : described commands f.2.0 ≡ Some f.2 = ap (described commands) named ∙ f.4 in
    let level : level_fault (built_shape f.2) [] nothing_held f.1 false [] ≡ [] =
    sym (fault_below name commands f.0 f.1 f.2 f.4) ∙ ap (built_fault (built_program name commands) nothing_held) (sym f.3) ∙ sym (fault_is name commands words) ∙ e in
    let utf8 : All IsUtf8 f.1 = all_rest IsUtf8 f.0 f.1 (subst (All IsUtf8) f.3 u) in
    let l = level_sound f.2 f.1 utf8 (or_parts (bytes_eq f.0 dashes) (has_dashes f.1) (ap has_dashes (sym f.3) ∙ d)).1 level in
    let call : IsCall f.2 words l.0 = record { rest = f.1; words_are = f.3 ∙ ap (λ w. w ∷ f.1) (sym named); options = l.1 } in
    (f.2, l.0, found, call, finds name commands words f.2 l.0 call (described_plain commands f.2.0 f.2 plain found) found l.2)

pub calls_taken : CallsTaken
calls_taken name commands words c given plain found call =
    let p = described_plain commands c.0 c plain found in
    let l = level_complete c call.rest given p.names call.options in (
      fault_is name commands words ∙ ap (built_fault (built_program name commands) nothing_held) call.words_are ∙ fault_below name commands c.0 call.rest c found ∙ l.0,
      finds name commands words c given call p found l.1,
      ap has_dashes call.words_are ∙ ap₂ (λ a b. a || b) p.named (no_dashes c.1 given call.rest p.names call.options.are_listed call.options.writes),
    )
