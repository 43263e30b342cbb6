-- One command's words: clap takes exactly those that are written as its options.
use Rattle.std.proofs.Common.{◌≡◌, ◌∙◌, ◌&&◌, ◌||◌, not, Bool, cond, true, false, refl, sym, ap, ap₂, List, [], ◌∷◌, Some, None}
use Rattle.std.specs.Prelude.{find}
use Rattle.std.specs.List.{All, fold, list_any}
use Rattle.std.specs.Option.{option_map_or}
use Rattle.std.specs.Str.{IsUtf8, bytes_eq}
use Rattle.clap.specs.Facts.{explicit_source}
use Rattle.clap.specs.Walk.{Held, Row, Rule, finished, has_row, nothing_held, rows_after, settled, walk_from, with_default}
use Rattle.clap.specs.Simple.{Shape}
use Rattle.clap.specs.Takes.{is_given}
use Rattle.clap.specs.Faults.{check_fault, defaults_fault, level_fault, settle_fault, walk_fault}
use Rattle.clap.specs.Kinds.{Kinds, or_else}
use Rattle.clap.specs.declared.error.kind.ErrorKind.TheVariants.{MissingRequiredArgument}
use Rattle.std.specs.Prelude.{codes}
use Rattle.std.proofs.Common.{append-nil, append_assoc, map, ◌++◌, true≢false}
use Rattle.std.proofs.lemmas.List.{map-append}
use Rattle.std.proofs.lemmas.List.Folds.{list_any-append}
use Rattle.clap.specs.Walk.{at_row, has_row, more_values, with_values}
use Rattle.clap.specs.Faults.{default_fault}
use Rattle.clap.proofs.WalkLemmas.{list_any-map}
use Rattle.clap.specs.declared.builder.value_parser.Reading.TheVariants as reading
use Rattle.clap.specs.declared.parser.matches.ValueSource.TheVariants.{DefaultValue}
use Rattle.long_options.proofs.Rows.{has_given}
use Rattle.long_options.specs.Words.{AreOptions, Given, Listed, Text, has_name, lacks_one}
use Rattle.long_options.specs.Plain.{has_dashes}
use Rattle.long_options.proofs.Rows.{built_rule, built_rules, given_row, given_rows}
use Rattle.long_options.proofs.Turns.{both_none, built_shape, left_none, right_none, some_fault}
use Rattle.long_options.proofs.Sound.{Reads, end_of, sound}
use Rattle.long_options.proofs.Complete.{complete, plain_names}

-- ---- defaults

abbrev pub default_row : Text → Row
default_row id = record { id = id; values = codes "false" ∷ []; count = None; source = Some DefaultValue; reading = reading.AsWritten }

abbrev pub has_text : Text → List Text → Bool
has_text name names = list_any (λ n. bytes_eq n name) names

-- the options as they were given, and then the switches that were not
abbrev pub all_rows : List Given → List Text → List Row
all_rows given unused = given_rows given ++ map default_row unused

abbrev pub unused_after : List Given → Listed → List Text → List Text
unused_after given o unused = cond o.2 (cond (has_name o.0 given || has_text o.0 unused) unused (unused ++ o.0 ∷ [])) unused

abbrev pub unused_of : List Listed → List Given → List Text → List Text
unused_of [] given unused = unused
unused_of (o ∷ os) given unused = unused_of os given (unused_after given o unused)

has_all : (name : Text) (given : List Given) (unused : List Text) → has_row name (all_rows given unused) ≡ (has_name name given || has_text name unused)
has_all name given unused =
    list_any-append (λ (r : Row). bytes_eq r.id name) (given_rows given) (map default_row unused)
    ∙ ap₂ (λ a b. a || b) (has_given name given) (sym (list_any-map (λ (r : Row). bytes_eq r.id name) default_row unused))

at_end : (id : Text) (change : Row → List Row) (missing : List Row) (rows : List Row) → has_row id rows ≡ false → at_row id change missing rows ≡ rows ++ missing
at_end id change missing [] e = refl
at_end id change missing (r ∷ rs) e = go (bytes_eq r.id id) e (at_end id change missing rs)
  where
    go : (b : Bool) → (b || has_row id rs) ≡ false → (has_row id rs ≡ false → at_row id change missing rs ≡ rs ++ missing)
        → cond b (change r ++ rs) (r ∷ at_row id change missing rs) ≡ r ∷ (rs ++ missing)
    go true e ih = absurd (true≢false e)
    go false e ih = ap (λ t. r ∷ t) (ih e)

default_is : (given : List Given) (unused : List Text) (n : Text) (m s : Bool) → with_default (all_rows given unused) (built_rule (n, m, s)) ≡ all_rows given (unused_after given (n, m, s) unused)
default_is given unused n m false = go (has_row n (all_rows given unused))
  where
    go : (b : Bool) → cond b (all_rows given unused) (all_rows given unused) ≡ all_rows given unused
    go true = refl
    go false = refl
default_is given unused n m true = go (has_row n (all_rows given unused)) refl ∙ ap (λ b. all_rows given (cond b unused (unused ++ n ∷ []))) (has_all n given unused)
  where
    go : (b : Bool) → has_row n (all_rows given unused) ≡ b
        → cond b (all_rows given unused) (with_values n reading.AsWritten DefaultValue (codes "false" ∷ []) (all_rows given unused)) ≡ all_rows given (cond b unused (unused ++ n ∷ []))
    go true e = refl
    go false e =
        at_end n (more_values DefaultValue (codes "false" ∷ [])) (default_row n ∷ []) (all_rows given unused) e
        ∙ append_assoc (given_rows given) (map default_row unused) (default_row n ∷ [])
        ∙ ap (λ rs. given_rows given ++ rs) (sym (map-append default_row unused (n ∷ [])))

pub rows_ended : (options : List Listed) (given : List Given) (unused : List Text) → fold with_default (all_rows given unused) (built_rules options) ≡ all_rows given (unused_of options given unused)
rows_ended [] given unused = refl
rows_ended (o ∷ os) given unused = ap (λ r. fold with_default r (built_rules os)) (default_is given unused o.0 o.1 o.2) ∙ rows_ended os given (unused_after given o unused)

no_default : (b x : Bool) → cond {A = Kinds} (b || x) [] [] ≡ []
no_default true x = refl
no_default false true = refl
no_default false false = refl

default_passes : (rows : List Row) (n : Text) (m s : Bool) → default_fault rows (built_rule (n, m, s)) ≡ []
default_passes rows n m true = no_default (has_row n rows) false
default_passes rows n m false = no_default (has_row n rows) true

pub no_defaults : (options : List Listed) (rows : List Row) → defaults_fault rows (built_rules options) ≡ []
unfolding defaults_fault
no_defaults [] rows = refl
no_defaults (o ∷ os) rows = both_none _ _ (default_passes rows o.0 o.1 o.2) (no_defaults os (with_default rows (built_rule o)))

none_given : (id : Text) (unused : List Text) → is_given id (map default_row unused) ≡ false
none_given id [] = refl
none_given id (n ∷ ns) = go (bytes_eq n id) (none_given id ns)
  where
    go : (b : Bool) → is_given id (map default_row ns) ≡ false
        → option_map_or (λ (r : Row). explicit_source r.source) (cond b (Some (default_row n)) (find (λ (r : Row). bytes_eq r.id id) (map default_row ns))) false ≡ false
    go true e = refl
    go false e = e

pub given_is : (id : Text) (given : List Given) (unused : List Text) → is_given id (all_rows given unused) ≡ has_name id given
given_is id [] unused = none_given id unused
given_is id (g ∷ gs) unused = go (bytes_eq g.0 id) (given_is id gs unused)
  where
    go : (b : Bool) → is_given id (all_rows gs unused) ≡ has_name id gs
        → option_map_or (λ (r : Row). explicit_source r.source) (cond b (Some (given_row g)) (find (λ (r : Row). bytes_eq r.id id) (all_rows gs unused))) false ≡ (b || has_name id gs)
    go true e = refl
    go false e = e

pub missing_is : (options : List Listed) (given : List Given) (unused : List Text) → list_any (λ (a : Rule). a.required && not (is_given a.id (all_rows given unused))) (built_rules options) ≡ lacks_one options given
missing_is [] given unused = refl
missing_is (o ∷ os) given unused = ap₂ (λ x y. (o.1 && not x) || y) (given_is o.0 given unused) (missing_is os given unused)

-- the rows that a command's options leave
abbrev pub rows_left : Text × List Listed → List Given → List Row
rows_left c given = all_rows given (unused_of c.1 given [])

module _ (c : Text × List Listed) where
  abbrev pub R : List Rule
  R = built_rules c.1

  abbrev pub S : Shape
  S = built_shape c

  abbrev last_of : List Text → Held
  last_of words = end_of c (walk_from nothing_held) words

  ended : (words : List Text) (given : List Given) → (settled R (last_of words)).rows ≡ given_rows given → finished R (last_of words) ≡ rows_left c given
  ended words given e = ap (λ rows. fold with_default rows R) (e ∙ sym (append-nil (given_rows given))) ∙ rows_ended c.1 given []

  check_is : (words : List Text) (given : List Given) → (settled R (last_of words)).rows ≡ given_rows given
      → check_fault S (finished R (last_of words)) false ≡ cond (lacks_one c.1 given) (MissingRequiredArgument ∷ []) []
  check_is words given e =
      ap (λ rows. check_fault S rows false) (ended words given e)
      ∙ ap (λ b. cond b (MissingRequiredArgument ∷ []) []) (missing_is c.1 given (unused_of c.1 given []))

  pub level_sound : (words : List Text) → All IsUtf8 words → has_dashes words ≡ false → level_fault S [] nothing_held words false [] ≡ []
      → (given : List Given) × AreOptions c.1 words given × (rows_after R [] words ≡ rows_left c given)
  level_sound words u d e =
      let walks : walk_fault S [] (walk_from nothing_held) words ≡ [] = left_none _ _ e in
      let after : or_else (settle_fault R false (last_of words)) (or_else (defaults_fault (settled R (last_of words)).rows R) (check_fault S (finished R (last_of words)) false)) ≡ [] = right_none _ _ e in
      let settles = left_none _ _ after in
      let checks = right_none _ _ (right_none _ _ after) in
      let r : Reads c [] nothing_held words (last_of words) = sound c words None [] nothing_held (refl, λ _. refl) u d (both_none _ _ walks settles) in
      (r.more, record { writes = r.writes; once = r.once; are_listed = r.are_listed; whole = never (lacks_one c.1 r.more) (sym (check_is words r.more r.rows) ∙ checks) }, ended words r.more r.rows)
    where
      never : (b : Bool) → cond b (MissingRequiredArgument ∷ []) [] ≡ [] → b ≡ false
      never true x = absurd (some_fault _ _ x)
      never false x = refl

  pub level_complete : (words : List Text) (given : List Given) → plain_names c.1 ≡ true → AreOptions c.1 words given
      → (level_fault S [] nothing_held words false [] ≡ []) × (rows_after R [] words ≡ rows_left c given)
  level_complete words given names g =
      let r = complete c names given words [] nothing_held (refl, refl, refl) g.writes g.once g.are_listed in (
        both_none _ _ (left_none _ _ r.0)
            (both_none _ _ (right_none _ _ r.0) (both_none _ _ (no_defaults c.1 (settled R (last_of words)).rows) (check_is words given r.1 ∙ ap (λ b. cond b (MissingRequiredArgument ∷ []) []) g.whole))),
        ended words given r.1,
      )
