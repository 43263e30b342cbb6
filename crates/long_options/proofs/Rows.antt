-- The rules of plain options, and the rows that they leave.
use Rattle.std.proofs.Common.{◌≡◌, ◌∙◌, ◌&&◌, ◌||◌, ℕ, Bool, cond, true, false, refl, sym, ap, List, [], ◌∷◌, ◌++◌, map, Some, None, option_map, true≢false, append-nil, unwrap_or, codes, None}
use Rattle.std.specs.Option.{option_map_or}
use Rattle.std.proofs.lemmas.List.{map-append}
use Rattle.clap.specs.declared.error.kind.ErrorKind.TheVariants.{ArgumentConflict}
use Rattle.std.specs.Str.{bytes_eq}
use Rattle.std.proofs.lemmas.Slice.Eq.{bytes_eq-Decides}
use Rattle.clap.specs.Walk.{Held, Row, Rule, arg_by_id, arg_by_index, arg_by_long, arg_by_short, at_row, has_row, settled, used, used_by_id, more_values, with_values}
use Rattle.clap.proofs.WalkLemmas.{find-map, list_any-map}
use Rattle.clap.specs.declared.builder.value_parser.ValueParser.TheVariants as vp
use Rattle.clap.specs.declared.builder.value_parser.Reading.TheVariants as reading
use Rattle.clap.specs.declared.parser.matches.ValueSource.TheVariants.{CommandLine}
use Rattle.clap.specs.Faults.{use_fault, settle_fault}
use Rattle.clap.specs.Kinds.{or_else}
use Rattle.long_options.specs.Words.{Text, Given, Listed, has_name, listed}
use Rattle.long_options.specs.Apps.{option_rule}

-- the rule as building leaves it
abbrev pub built_rule : Listed → Rule
built_rule o = record (option_rule o) {
  defaults = cond o.2 (codes "false" ∷ []) [];
  missing = cond o.2 (codes "true" ∷ []) [];
  parser = Some (cond o.2 vp.Bool vp.String);
  range = Some (record { start_inclusive = cond o.2 0 1; end_inclusive = cond o.2 0 1 });
}

-- an option with a value, and one without
abbrev pub valued : Text × Bool → Listed
valued o = (o.0, o.1, false)

abbrev pub switch : Text × Bool → Listed
switch o = (o.0, o.1, true)

abbrev pub built_rules : List Listed → List Rule
built_rules options = map built_rule options

pub by_long : (options : List Listed) (n : Text) → arg_by_long (built_rules options) n ≡ option_map built_rule (listed options n)
by_long [] n = refl
by_long (o ∷ os) n = go (bytes_eq o.0 n) (by_long os n)
  where
    go : (b : Bool) → arg_by_long (built_rules os) n ≡ option_map built_rule (listed os n)
        → cond (b || false) (Some (built_rule o)) (arg_by_long (built_rules os) n) ≡ option_map built_rule (cond b (Some o) (listed os n))
    go true e = refl
    go false e = e

pub by_id : (options : List Listed) (n : Text) → arg_by_id (built_rules options) n ≡ option_map built_rule (listed options n)
by_id options n = sym (find-map (λ (a : Rule). bytes_eq a.id n) built_rule options)

pub by_short : (options : List Listed) (x : ℕ) → arg_by_short (built_rules options) x ≡ None
by_short [] x = refl
by_short (o ∷ os) x = by_short os x

pub by_index : (options : List Listed) (i : ℕ) → arg_by_index (built_rules options) i ≡ None
by_index [] i = refl
by_index (o ∷ os) i = by_index os i

pub listed_name : (options : List Listed) (n : Text) (o : Listed) → listed options n ≡ Some o → o.0 ≡ n
listed_name [] n o e = cc
listed_name (x ∷ xs) n o e = go (bytes_eq x.0 n) refl e (listed_name xs n o)
  where
    go : (b : Bool) → bytes_eq x.0 n ≡ b → cond b (Some x) (listed xs n) ≡ Some o → (listed xs n ≡ Some o → o.0 ≡ n) → o.0 ≡ n
    go true is e ih = let same : x ≡ o = cc in ap (λ (y : Listed). y.0) (sym same) ∙ (bytes_eq-Decides x.0 n).0 is
    go false is e ih = ih e

-- ---- rows

abbrev pub given_row : Given → Row
given_row g = record {
  id = g.0;
  values = unwrap_or g.1 (codes "true") ∷ [];
  count = None;
  source = Some CommandLine;
  reading = reading.AsWritten;
}

abbrev pub given_rows : List Given → List Row
given_rows given = map given_row given

pub has_given : (id : Text) (given : List Given) → has_row id (given_rows given) ≡ has_name id given
has_given id given = sym (list_any-map (λ (r : Row). bytes_eq r.id id) given_row given)

pub at_missing : (id : Text) (change : Row → List Row) (missing : List Row) (given : List Given) → has_name id given ≡ false
    → at_row id change missing (given_rows given) ≡ given_rows given ++ missing
at_missing id change missing [] e = refl
at_missing id change missing (g ∷ gs) e = go (bytes_eq g.0 id) e (at_missing id change missing gs)
  where
    go : (b : Bool) → (b || has_name id gs) ≡ false → (has_name id gs ≡ false → at_row id change missing (given_rows gs) ≡ given_rows gs ++ missing)
        → cond b (change (given_row g) ++ given_rows gs) (given_row g ∷ at_row id change missing (given_rows gs)) ≡ given_row g ∷ (given_rows gs ++ missing)
    go true e ih = absurd (true≢false e)
    go false e ih = ap (λ t. given_row g ∷ t) (ih e)

-- a use of an option that no row has yet adds its row
used_new : (g : Given) (values : List Text) (given : List Given) → values ≡ (given_row g).values → has_name g.0 given ≡ false
    → with_values g.0 reading.AsWritten CommandLine values (at_row g.0 (λ _. []) [] (given_rows given)) ≡ given_rows (given ++ g ∷ [])
used_new g values given same e =
    let out : at_row g.0 (λ _. []) [] (given_rows given) ≡ given_rows given = at_missing g.0 (λ _. []) [] given e ∙ append-nil (given_rows given) in
    ap (λ vs. with_values g.0 reading.AsWritten CommandLine vs (at_row g.0 (λ _. []) [] (given_rows given))) same
    ∙ ap (at_row g.0 (more_values CommandLine (given_row g).values) (given_row g ∷ [])) out
    ∙ at_missing g.0 (more_values CommandLine (given_row g).values) (given_row g ∷ []) given e
    ∙ sym (map-append given_row given (g ∷ []))

pub used_given : (o : Text × Bool) (v : Text) (given : List Given) → has_name o.0 given ≡ false → used (built_rule (valued o)) (v ∷ []) (given_rows given) ≡ given_rows (given ++ (o.0, Some v) ∷ [])
used_given o v given e = used_new (o.0, Some v) (v ∷ []) given refl e

pub used_switch : (o : Text × Bool) (given : List Given) → has_name o.0 given ≡ false → used (built_rule (switch o)) [] (given_rows given) ≡ given_rows (given ++ (o.0, None) ∷ [])
used_switch o given e = used_new (o.0, None) (codes "true" ∷ []) given refl e

-- and it is a fault where a row has it
repeated_is : (name : Text) (given : List Given) → or_else (cond (has_row name (given_rows given) && true) (ArgumentConflict ∷ []) []) [] ≡ cond (has_name name given) (ArgumentConflict ∷ []) []
repeated_is name given = ap (λ b. or_else (cond (b && true) (ArgumentConflict ∷ []) []) []) (has_given name given) ∙ go (has_name name given)
  where
    go : (b : Bool) → or_else (cond (b && true) (ArgumentConflict ∷ []) []) [] ≡ cond b (ArgumentConflict ∷ []) []
    go true = refl
    go false = refl

pub use_fault_is : (o : Text × Bool) (v : Text) (given : List Given) → use_fault false (built_rule (valued o)) (v ∷ []) (given_rows given) ≡ cond (has_name o.0 given) (ArgumentConflict ∷ []) []
use_fault_is o v given = repeated_is o.0 given

pub switch_fault_is : (o : Text × Bool) (given : List Given) → use_fault false (built_rule (switch o)) [] (given_rows given) ≡ cond (has_name o.0 given) (ArgumentConflict ∷ []) []
switch_fault_is o given = repeated_is o.0 given

conflict : (b : Bool) → cond b (ArgumentConflict ∷ []) [] ≡ [] → b ≡ false
conflict true e = cc
conflict false e = refl

pub use_passes : (o : Text × Bool) (v : Text) (given : List Given) → has_name o.0 given ≡ false → use_fault false (built_rule (valued o)) (v ∷ []) (given_rows given) ≡ []
use_passes o v given e = use_fault_is o v given ∙ ap (λ b. cond b (ArgumentConflict ∷ []) []) e

pub switch_passes : (o : Text × Bool) (given : List Given) → has_name o.0 given ≡ false → use_fault false (built_rule (switch o)) [] (given_rows given) ≡ []
switch_passes o given e = switch_fault_is o given ∙ ap (λ b. cond b (ArgumentConflict ∷ []) []) e

pub use_was_first : (o : Text × Bool) (v : Text) (given : List Given) → use_fault false (built_rule (valued o)) (v ∷ []) (given_rows given) ≡ [] → has_name o.0 given ≡ false
use_was_first o v given e = conflict (has_name o.0 given) (sym (use_fault_is o v given) ∙ e)

pub switch_was_first : (o : Text × Bool) (given : List Given) → use_fault false (built_rule (switch o)) [] (given_rows given) ≡ [] → has_name o.0 given ≡ false
switch_was_first o given e = conflict (has_name o.0 given) (sym (switch_fault_is o given) ∙ e)

-- ---- what is held between two words

-- no option waits: the last one may be still to be used
abbrev pub left_of : List Given → Text × Bool → List Text → Held
left_of given o values = record { rows = given_rows given; pending = Some (o.0, values); skip = 0 }

module _ (options : List Listed) (o : Text × Bool) (is : listed options o.0 ≡ Some (valued o)) where
  pub its_rule : arg_by_id (built_rules options) o.0 ≡ Some (built_rule (valued o))
  its_rule = by_id options o.0 ∙ ap (option_map built_rule) is

  pub left_fault : (given : List Given) (values : List Text) → settle_fault (built_rules options) false (left_of given o values) ≡ use_fault false (built_rule (valued o)) values (given_rows given)
  left_fault given values = ap (λ r. option_map_or (λ a. use_fault false a values (given_rows given)) r []) its_rule

  pub left_rows : (given : List Given) (values : List Text) → (settled (built_rules options) (left_of given o values)).rows ≡ used (built_rule (valued o)) values (given_rows given)
  left_rows given values = ap (λ r. used_by_id r values (given_rows given)) its_rule
