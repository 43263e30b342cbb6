-- One word of the walk, at a command with plain options.
use Rattle.std.proofs.Common.{◌≡◌, ◌∙◌, ◌==◌, not, ℕ, Bool, cond, true, false, suc, refl, sym, ap, ap₂, subst, List, [], ◌∷◌, length, Option, Some, None}
use Rattle.std.specs.Prelude.{drop, encode_utf8, nat_lt, option_and_then, slice_get}
use Rattle.std.proofs.lemmas.Slice.Eq.{bytes_eq-Decides}
use Rattle.clap.specs.declared.error.kind.ErrorKind.TheVariants.{UnknownArgument}
use Rattle.std.specs.Option.{option_map_or}
use Rattle.std.specs.Str.{bytes_eq, chars}
use Rattle.clap.specs.Lexer.{long_of, short_of, short_of_rest, strip_byte}
use Rattle.clap.specs.Walk.{Held, Names, Outcome, Rule, next, option_word, Waiting, Step, Walk, after_flag, after_step, arg_by_long, bundle, bundle_met, bundle_step, idle, long_met, long_or_other, option, plain, plain_word, short_or_plain, subcommand_met, subcommand_or_other, trailing, value, walk_from, walked}
use Rattle.clap.specs.Simple.{Shape}
use Rattle.clap.specs.Faults.{bundle_fault, bundle_step_fault, flag_word_fault, flags_fault, long_fault, other_fault, positional_fault, short_fault, step_fault, stray_fault, turn_fault}
use Rattle.clap.specs.Kinds.{Kinds, or_else}
use Rattle.clap.specs.declared.error.kind.ErrorKind.{ErrorKind}
use Rattle.std.specs.Str.{IsUtf8}
use Rattle.long_options.specs.Words.{Text, Given, Listed, listed}
use Rattle.long_options.specs.Plain.{dashes}
use Rattle.long_options.proofs.Apart.{first_char, short_word}
use Rattle.long_options.specs.Apps.{command_shape}
use Rattle.long_options.proofs.LongWords.{not_dashes}
use Rattle.long_options.proofs.Rows.{built_rules, by_index, by_short, its_rule, left_of, valued}

pub left_none : (a b : Kinds) → or_else a b ≡ [] → a ≡ []
left_none [] b e = refl
left_none (k ∷ ks) b e = cc

pub right_none : (a b : Kinds) → or_else a b ≡ [] → b ≡ []
right_none [] b e = e
right_none (k ∷ ks) b e = cc

pub both_none : (a b : Kinds) → a ≡ [] → b ≡ [] → or_else a b ≡ []
both_none a b p q = ap (λ x. or_else x b) p ∙ q

pub some_fault : (k : ErrorKind) (ks : Kinds) → k ∷ ks ≡ [] → ⊥
some_fault k ks e = cc

-- the command as building leaves it
abbrev pub built_shape : Text × List Listed → Shape
built_shape c = record (command_shape c) {
  rules = built_rules c.1;
  is_built = true;
  no_binary_name = true;
  disable_help_subcommand = true;
}

-- the same, or a program's own level, which wants a subcommand
abbrev pub shape_at : Bool → Text × List Listed → Shape
shape_at top c = record (built_shape c) { is_leaf = not top; subcommand_required = top }

abbrev pub walk_at : Waiting → Held → Walk
walk_at waiting h = record (walk_from h) { waiting = waiting }

abbrev has_first : Text → Type 0
has_first flags = (x : ℕ) × (xs : Text) × (flags ≡ x ∷ xs)

short_first : (rest flags : Text) → short_of_rest rest ≡ Some flags → has_first flags
short_first [] flags e = cc
short_first (x ∷ xs) flags e = go (x == 45) e
  where
    go : (b : Bool) → cond b None (Some (x ∷ xs)) ≡ Some flags → has_first flags
    go true e = cc
    go false e = (x, xs, cc)

short_some : (o : Option Text) (flags : Text) → option_and_then short_of_rest o ≡ Some flags → has_first flags
short_some None flags e = cc
short_some (Some rest) flags e = short_first rest flags e

module _ (c : Text × List Listed) (top : Bool) (names : Names) (waiting : Waiting) (h : Held) (word : Text) (none : subcommand_met names waiting word ≡ None) where
  abbrev pub R : List Rule
  R = built_rules c.1

  abbrev pub S : Shape
  S = shape_at top c

  abbrev pub fault_of_step : Held × Step → Kinds
  fault_of_step met = step_fault S 1 met.0 met.1

  abbrev pub walk_of_step : Held × Step → Walk
  walk_of_step met = after_step R word (walk_at waiting h) met.0 met.1

  abbrev pub met_long : Option Text → Option Rule → Held × Step
  met_long v r = after_flag R waiting word (long_met R r v h).0 (long_met R r v h).1

  turn_is : bytes_eq word dashes ≡ false
      → turn_fault S names (walk_at waiting h) word ≡ or_else (flag_word_fault R false (long_of word) word h) (fault_of_step (long_or_other R waiting word (long_of word) h))
  turn_is e =
      ap (λ m. or_else (other_fault S m word h) (fault_of_step (subcommand_or_other R m waiting 1 word h))) none
      ∙ ap (λ b. or_else (cond b [] (flag_word_fault R false (long_of word) word h)) (fault_of_step (cond b (h, trailing 1) (long_or_other R waiting word (long_of word) h)))) e

  next_is : bytes_eq word dashes ≡ false → walked R names (walk_at waiting h) word ≡ walk_of_step (long_or_other R waiting word (long_of word) h)
  unfolding walked
  next_is e =
      ap (λ m. walk_of_step (subcommand_or_other R m waiting 1 word h)) none
      ∙ ap (λ b. walk_of_step (cond b (h, trailing 1) (long_or_other R waiting word (long_of word) h))) e

  -- a word `--name` or `--name=value`
  pub flag_turn : (n : Text) (v : Option Text) (r : Option Rule) → long_of word ≡ Some (n, v) → arg_by_long R n ≡ r
      → turn_fault S names (walk_at waiting h) word ≡ or_else (long_fault R false r v h) (fault_of_step (met_long v r))
  flag_turn n v r e is =
      turn_is (not_dashes word n v e) ∙ ap (λ l. or_else (flag_word_fault R false l word h) (fault_of_step (long_or_other R waiting word l h))) e
      ∙ ap (λ x. or_else (long_fault R false x v h) (fault_of_step (met_long v x))) is

  pub flag_next : (n : Text) (v : Option Text) (r : Option Rule) → long_of word ≡ Some (n, v) → arg_by_long R n ≡ r → walked R names (walk_at waiting h) word ≡ walk_of_step (met_long v r)
  flag_next n v r e is =
      next_is (not_dashes word n v e) ∙ ap (λ l. walk_of_step (long_or_other R waiting word l h)) e
      ∙ ap (λ x. walk_of_step (met_long v x)) is

  -- another word
  other_turn : (s : Option Text) → bytes_eq word dashes ≡ false → long_of word ≡ None → short_of word ≡ s
      → turn_fault S names (walk_at waiting h) word ≡ or_else (option_map_or (λ flags. bundle_fault R false flags h) s []) (fault_of_step (short_or_plain R waiting word s h))
  other_turn s e l is =
      turn_is e ∙ ap (λ x. or_else (flag_word_fault R false x word h) (fault_of_step (long_or_other R waiting word x h))) l
      ∙ ap (λ x. or_else (option_map_or (λ flags. bundle_fault R false flags h) x []) (fault_of_step (short_or_plain R waiting word x h))) is

  other_next : (s : Option Text) → bytes_eq word dashes ≡ false → long_of word ≡ None → short_of word ≡ s
      → walked R names (walk_at waiting h) word ≡ walk_of_step (short_or_plain R waiting word s h)
  other_next s e l is =
      next_is e ∙ ap (λ x. walk_of_step (long_or_other R waiting word x h)) l
      ∙ ap (λ x. walk_of_step (short_or_plain R waiting word x h)) is

  pub plain_turn : bytes_eq word dashes ≡ false → long_of word ≡ None → short_of word ≡ None → turn_fault S names (walk_at waiting h) word ≡ fault_of_step (plain_word R waiting word h)
  plain_turn e l is = other_turn None e l is

  pub plain_next : bytes_eq word dashes ≡ false → long_of word ≡ None → short_of word ≡ None → walked R names (walk_at waiting h) word ≡ walk_of_step (plain_word R waiting word h)
  plain_next e l is = other_next None e l is

  -- the first character of `-abc`
  bundle_turn : (x : ℕ) (xs : Text) (m : Option ℕ) → h.skip ≡ 0 → slice_get (chars (x ∷ xs)) 0 ≡ m
      → bundle_fault R false (x ∷ xs) h ≡ bundle_step_fault R false m (x ∷ xs) 0 (record h { skip = 0 }) (flags_fault R false (length xs))
  unfolding flags_fault
  bundle_turn x xs m z is =
      ap (λ k. flags_fault R false (suc (length xs)) (x ∷ xs) k (record h { skip = 0 })) z
      ∙ ap (λ y. bundle_step_fault R false y (x ∷ xs) 0 (record h { skip = 0 }) (flags_fault R false (length xs))) is

  bundle_next : (x : ℕ) (xs : Text) → h.skip ≡ 0 → slice_get (chars (x ∷ xs)) 0 ≡ None → bundle R (x ∷ xs) h ≡ (h, plain)
  unfolding bundle_met
  bundle_next x xs z is =
      ap (λ k. bundle_met R (suc (length xs)) (x ∷ xs) k plain (record h { skip = 0 })) z
      ∙ ap (λ y. bundle_step R y (x ∷ xs) 0 plain (record h { skip = 0 }) (bundle_met R (length xs))) is
      ∙ ap (λ k. (record h { skip = k }, plain)) (sym z)

  -- a hyphen and a character behind it are a fault, since no option has a short name
  bundle_fails : h.skip ≡ 0 → bytes_eq word dashes ≡ false → long_of word ≡ None → turn_fault S names (walk_at waiting h) word ≡ []
      → (x : ℕ) (xs : Text) (y : ℕ) → slice_get (chars (x ∷ xs)) 0 ≡ Some y → short_of word ≡ Some (x ∷ xs) → ⊥
  bundle_fails z e l passed x xs y m is =
      let faults : bundle_fault R false (x ∷ xs) h ≡ UnknownArgument ∷ [] =
      bundle_turn x xs (Some y) z m ∙ ap (λ r. short_fault R false r (drop (length (encode_utf8 y)) (x ∷ xs)) (record h { skip = 0 }) (flags_fault R false (length xs) (drop (length (encode_utf8 y)) (x ∷ xs)) 0)) (by_short c.1 y) in
      let none : bundle_fault R false (x ∷ xs) h ≡ [] = left_none _ _ (sym (other_turn (Some (x ∷ xs)) e l is) ∙ passed) in
      some_fault _ _ (sym faults ∙ none)

  -- so a text that is no fault and has no two hyphens in front has no such flags
  pub no_flags : IsUtf8 word → h.skip ≡ 0 → bytes_eq word dashes ≡ false → long_of word ≡ None → turn_fault S names (walk_at waiting h) word ≡ [] → short_of word ≡ None
  no_flags u z e l passed = go (short_of word) refl
    where
      flags : (x : ℕ) (xs : Text) (m : Option ℕ) → slice_get (chars (x ∷ xs)) 0 ≡ m → short_of word ≡ Some (x ∷ xs) → ⊥
      flags x xs None m is = first_char x xs (subst IsUtf8 (short_word word x xs is) u) m
      flags x xs (Some y) m is = bundle_fails z e l passed x xs y m is

      go : (s : Option Text) → short_of word ≡ s → short_of word ≡ None
      go None is = is
      go (Some t) is =
          let f = short_some (strip_byte 45 word) t is in
          absurd (flags f.0 f.1 (slice_get (chars (f.0 ∷ f.1)) 0) refl (is ∙ ap Some f.2))

  -- a word with no two hyphens in front that is no fault is taken as a plain word
  pub other_passes : h.skip ≡ 0 → bytes_eq word dashes ≡ false → long_of word ≡ None → turn_fault S names (walk_at waiting h) word ≡ []
      → (turn_fault S names (walk_at waiting h) word ≡ fault_of_step (plain_word R waiting word h)) × (walked R names (walk_at waiting h) word ≡ walk_of_step (plain_word R waiting word h))
  other_passes z e l passed = go (short_of word) refl
    where
      bundled : (x : ℕ) (xs : Text) (m : Option ℕ) → slice_get (chars (x ∷ xs)) 0 ≡ m → short_of word ≡ Some (x ∷ xs)
          → (turn_fault S names (walk_at waiting h) word ≡ fault_of_step (plain_word R waiting word h)) × (walked R names (walk_at waiting h) word ≡ walk_of_step (plain_word R waiting word h))
      bundled x xs None m is =
          let faults : bundle_fault R false (x ∷ xs) h ≡ [] = bundle_turn x xs None z m in
          let met : bundle R (x ∷ xs) h ≡ (h, plain) = bundle_next x xs z m in (
            other_turn (Some (x ∷ xs)) e l is
                ∙ ap₂ (λ k (b : Held × Outcome). or_else k (fault_of_step (after_flag R waiting word b.0 b.1))) faults met,
            other_next (Some (x ∷ xs)) e l is
                ∙ ap (λ (b : Held × Outcome). walk_of_step (after_flag R waiting word b.0 b.1)) met,
          )
      bundled x xs (Some y) m is =
          absurd (bundle_fails z e l passed x xs y m is)

      go : (s : Option Text) → short_of word ≡ s
          → (turn_fault S names (walk_at waiting h) word ≡ fault_of_step (plain_word R waiting word h)) × (walked R names (walk_at waiting h) word ≡ walk_of_step (plain_word R waiting word h))
      go None is = (plain_turn e l is, plain_next e l is)
      go (Some flags) is =
          let f = short_some (strip_byte 45 word) flags is in
          bundled f.0 f.1 (slice_get (chars (f.0 ∷ f.1)) 0) refl (is ∙ ap Some f.2)

-- where nothing waits for a value, such a word is a fault
pub stray_turn : (c : Text × List Listed) (top : Bool) (names : Names) (h : Held) (word : Text) → subcommand_met names idle word ≡ None → h.skip ≡ 0 → bytes_eq word dashes ≡ false
    → long_of word ≡ None → turn_fault (shape_at top c) names (walk_at idle h) word ≡ [] → ⊥
stray_turn c top names h word none z e l passed =
    let plain_fault = (other_passes c top names idle h word none z e l passed).0 in
    let stray : fault_of_step c top names idle h word none (h, value) ≡ stray_fault (shape_at top c) =
    ap (λ r. option_map_or (λ a. positional_fault (built_rules c.1) false a h) r (stray_fault (shape_at top c))) (by_index c.1 1) in
    always top (sym stray ∙ sym plain_fault ∙ passed)
  where
    always : (b : Bool) → stray_fault (shape_at b c) ≡ [] → ⊥
    always true x = some_fault _ _ x
    always false x = some_fault _ _ x

same_bytes : (xs : Text) → bytes_eq xs xs ≡ true
same_bytes xs = (bytes_eq-Decides xs xs).1 refl

-- an option's value
pub value_next : (c : Text × List Listed) (o : Text × Bool) (given : List Given) (word : Text) → listed c.1 o.0 ≡ Some (valued o)
    → walk_of_step c false [] (option o.0) (left_of given o []) word refl (plain_word (built_rules c.1) (option o.0) word (left_of given o [])) ≡ walk_at idle (left_of given o (word ∷ []))
value_next c o given word is =
    ap (λ r. walk_of_step c false [] (option o.0) (left_of given o []) word refl ((option_word r o.0 word (left_of given o [])).0, next (option_word r o.0 word (left_of given o [])).1)) (its_rule c.1 o is)
    ∙ ap (λ b. walk_at (cond (nat_lt (cond b 1 0) 1) (option o.0) idle) (left_of given o (word ∷ []))) (same_bytes o.0)
