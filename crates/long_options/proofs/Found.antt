-- What clap finds has the options as they were given.
use Rattle.std.proofs.Common.{◌≡◌, ◌∙◌, ◌||◌, not, Bool, cond, true, false, refl, sym, ap, ap₂, List, [], ◌∷◌, ◌++◌, map, Option, Some, None, true≢false, is_some, unwrap_or, codes}
use Rattle.std.proofs.lemmas.Bool.{not-true}
use Rattle.long_options.proofs.LongWords.{some_none}
use Rattle.std.specs.Prelude.{⊤, find, option_and_then, slice_get}
use Rattle.std.specs.Option.{option_map_or}
use Rattle.std.specs.List.{list_any}
use Rattle.std.specs.Str.{bytes_eq}
use Rattle.std.proofs.lemmas.List.Folds.{list_any-append}
use Rattle.std.proofs.lemmas.Slice.Eq.{bytes_eq-Decides}
use Rattle.clap.specs.Walk.{Row, first_of}
use Rattle.clap.proofs.WalkLemmas.{both}
use Rattle.long_options.specs.Words.{AreListed, Given, Listed, Text, has_name, listed, value_of}
use Rattle.long_options.specs.Plain.{are_distinct}
use Rattle.long_options.specs.Found.{given_options}
use Rattle.long_options.specs.layers.Finding.{found_options, is_set}
use Rattle.long_options.proofs.Rows.{given_row}
use Rattle.long_options.proofs.Level.{all_rows, default_row, has_text, rows_left, unused_after, unused_of}

-- each of these options is the one that its name finds among all
abbrev pub AreFound : List Listed → List Listed → Type 0
AreFound all [] = ⊤
AreFound all (o ∷ os) = (listed all o.0 ≡ Some o) × AreFound all os

lifted : (o : Listed) (all os : List Listed) → list_any (λ (x : Listed). bytes_eq o.0 x.0) os ≡ false → AreFound all os → AreFound (o ∷ all) os
lifted o all [] e found = tt
lifted o all (x ∷ xs) e found = go (bytes_eq o.0 x.0) e refl (λ rest. lifted o all xs rest found.1)
  where
    go : (b : Bool) → (b || list_any (λ (y : Listed). bytes_eq o.0 y.0) xs) ≡ false → bytes_eq o.0 x.0 ≡ b → (list_any (λ (y : Listed). bytes_eq o.0 y.0) xs ≡ false → AreFound (o ∷ all) xs) → AreFound (o ∷ all) (x ∷ xs)
    go true e is ih = absurd (true≢false e)
    go false e is ih = (ap (λ b. cond b (Some o) (listed all x.0)) is ∙ found.0, ih e)

pub distinct_found : (options : List Listed) → are_distinct options ≡ true → AreFound options options
distinct_found [] e = tt
distinct_found (o ∷ os) e =
    let p = both (not (list_any (λ (x : Listed). bytes_eq o.0 x.0) os)) (are_distinct os) e in
    (ap (λ b. cond b (Some o) (listed os o.0)) ((bytes_eq-Decides o.0 o.0).1 refl), lifted o os os (not-true _ p.0) (distinct_found os p.1))

-- an option that takes a value has no default
unused_one : (options : List Listed) (given : List Given) (unused : List Text) (name n : Text) (m s : Bool) (v : Listed) → listed options name ≡ Some v → v.2 ≡ false → listed options n ≡ Some (n, m, s)
    → has_text name unused ≡ false → has_text name (unused_after given (n, m, s) unused) ≡ false
unused_one options given unused name n m false v is takes at none = none
unused_one options given unused name n m true v is takes at none = go (has_name n given || has_text n unused)
  where
    differs : (b : Bool) → bytes_eq n name ≡ b → b ≡ false
    differs false e = refl
    differs true e =
        let same : Some v ≡ Some (n, m, true) = sym is ∙ ap (listed options) (sym ((bytes_eq-Decides n name).0 e)) ∙ at in
        let both_are : v ≡ (n, m, true) = cc in
        absurd (true≢false (ap (λ (o : Listed). o.2) (sym both_are) ∙ takes))

    more : has_text name (unused ++ n ∷ []) ≡ false
    more = list_any-append (λ (t : Text). bytes_eq t name) unused (n ∷ []) ∙ ap₂ (λ a b. a || (b || false)) none (differs (bytes_eq n name) refl)

    go : (b : Bool) → has_text name (cond b unused (unused ++ n ∷ [])) ≡ false
    go true = none
    go false = more

unused_none : (all os : List Listed) (given : List Given) (unused : List Text) (name : Text) (v : Listed) → AreFound all os → listed all name ≡ Some v → v.2 ≡ false → has_text name unused ≡ false
    → has_text name (unused_of os given unused) ≡ false
unused_none all [] given unused name v found is takes none = none
unused_none all (o ∷ os) given unused name v found is takes none =
    unused_none all os given (unused_after given o unused) name v found.1 is takes (unused_one all given unused name o.0 o.1 o.2 v is takes found.0 none)

no_default_value : (name : Text) (unused : List Text) → has_text name unused ≡ false → first_of name (map default_row unused) ≡ None
no_default_value name [] e = refl
no_default_value name (x ∷ xs) e = go (bytes_eq x name) e (no_default_value name xs)
  where
    go : (b : Bool) → (b || has_text name xs) ≡ false → (has_text name xs ≡ false → first_of name (map default_row xs) ≡ None)
        → option_and_then (λ (r : Row). slice_get r.values 0) (cond b (Some (default_row x)) (find (λ (r : Row). bytes_eq r.id name) (map default_row xs))) ≡ None
    go true e ih = absurd (true≢false e)
    go false e ih = ih e

default_unset : (name : Text) (unused : List Text) → is_set (first_of name (map default_row unused)) ≡ false
default_unset name [] = refl
default_unset name (x ∷ xs) = go (bytes_eq x name) (default_unset name xs)
  where
    go : (b : Bool) → is_set (first_of name (map default_row xs)) ≡ false
        → is_set (option_and_then (λ (r : Row). slice_get r.values 0) (cond b (Some (default_row x)) (find (λ (r : Row). bytes_eq r.id name) (map default_row xs)))) ≡ false
    go true ih = refl
    go false ih = ih

module _ (options : List Listed) (unused : List Text) (name : Text) where
  -- what is known of an option that was given under this name
  takes_of : (g : Given) (o : Listed) → listed options name ≡ Some o → bytes_eq g.0 name ≡ true → ((p : Listed) × (listed options g.0 ≡ Some p) × (p.2 ≡ not (is_some g.1))) → o.2 ≡ not (is_some g.1)
  takes_of g o is e (p, at, takes) =
      let both_are : Some o ≡ Some p = sym is ∙ ap (listed options) (sym ((bytes_eq-Decides g.0 name).0 e)) ∙ at in
      let same : o ≡ p = cc in
      ap (λ (x : Listed). x.2) same ∙ takes

  abbrev value_here : Bool → Given → List Given → Option Text
  value_here b g gs = option_and_then (λ (x : Given). x.1) (cond b (Some g) (find (λ (x : Given). bytes_eq x.0 name) gs))

  abbrev first_here : Bool → Given → List Given → Option Text
  first_here b g gs = option_and_then (λ (r : Row). slice_get r.values 0) (cond b (Some (given_row g)) (find (λ (r : Row). bytes_eq r.id name) (all_rows gs unused)))

  -- a name that the command doesn't have
  nothing : listed options name ≡ None → (given : List Given) → AreListed options given → (None ≡ value_of name given) × (false ≡ has_name name given)
  nothing is [] known = (refl, refl)
  nothing is (g ∷ gs) known = go (bytes_eq g.0 name) refl (nothing is gs known.1)
    where
      go : (b : Bool) → bytes_eq g.0 name ≡ b → (None ≡ value_of name gs) × (false ≡ has_name name gs) → (None ≡ value_here b g gs) × (false ≡ (b || has_name name gs))
      go true e ih = absurd (some_none known.0.0 (sym known.0.1 ∙ ap (listed options) ((bytes_eq-Decides g.0 name).0 e) ∙ is))
      go false e ih = ih

  -- an option with a value
  valued_is : (o : Listed) → listed options name ≡ Some o → o.2 ≡ false → has_text name unused ≡ false → (given : List Given) → AreListed options given
      → (first_of name (all_rows given unused) ≡ value_of name given) × (is_some (first_of name (all_rows given unused)) ≡ has_name name given)
  valued_is o is takes none [] known = (no_default_value name unused none, ap (λ t. is_some t) (no_default_value name unused none))
  valued_is o is takes none (g ∷ gs) known = go (bytes_eq g.0 name) refl (valued_is o is takes none gs known.1)
    where
      given_value : (v : Option Text) → false ≡ not (is_some v) → Some (unwrap_or v (codes "true")) ≡ v
      given_value None e = absurd (true≢false (sym e))
      given_value (Some t) e = refl

      go : (b : Bool) → bytes_eq g.0 name ≡ b → (first_of name (all_rows gs unused) ≡ value_of name gs) × (is_some (first_of name (all_rows gs unused)) ≡ has_name name gs)
          → (first_here b g gs ≡ value_here b g gs) × (is_some (first_here b g gs) ≡ (b || has_name name gs))
      go true e ih = (given_value g.1 (sym takes ∙ takes_of g o is e known.0), refl)
      go false e ih = ih

  -- an option without one
  switch_is : (o : Listed) → listed options name ≡ Some o → o.2 ≡ true → (given : List Given) → AreListed options given
      → (None ≡ value_of name given) × (is_set (first_of name (all_rows given unused)) ≡ has_name name given)
  switch_is o is takes [] known = (refl, default_unset name unused)
  switch_is o is takes (g ∷ gs) known = go (bytes_eq g.0 name) refl (switch_is o is takes gs known.1)
    where
      no_value : (v : Option Text) → true ≡ not (is_some v) → (None ≡ v) × (is_set (Some (unwrap_or v (codes "true"))) ≡ true)
      no_value None e = (refl, refl)
      no_value (Some t) e = absurd (true≢false e)

      go : (b : Bool) → bytes_eq g.0 name ≡ b → (None ≡ value_of name gs) × (is_set (first_of name (all_rows gs unused)) ≡ has_name name gs)
          → (None ≡ value_here b g gs) × (is_set (first_here b g gs) ≡ (b || has_name name gs))
      go true e ih = no_value g.1 (sym takes ∙ takes_of g o is e known.0)
      go false e ih = ih

abbrev IsSame : List Row → List Given → Option Listed → Text → Type 0
IsSame rows given x n =
    (option_and_then (λ (o : Listed). cond o.2 None (first_of n rows)) x ≡ value_of n given)
    × (option_map_or (λ (o : Listed). cond o.2 (is_set (first_of n rows)) (is_some (first_of n rows))) x false ≡ has_name n given)

pub found_is : (name : Text) (options : List Listed) → AreFound options options → (given : List Given) → AreListed options given → found_options options (rows_left (name, options) given) ≡ given_options given
found_is name options found given known = λ i. record { value = λ n. (each n).0 i; has = λ n. (each n).1 i }
  where
    by_kind : (n m : Text) (r s : Bool) → listed options n ≡ Some (m, r, s) → IsSame (rows_left (name, options) given) given (Some (m, r, s)) n
    by_kind n m r true is = switch_is options (unused_of options given []) n (m, r, true) is refl given known
    by_kind n m r false is = valued_is options (unused_of options given []) n (m, r, false) is refl (unused_none options options given [] n (m, r, false) found is refl refl) given known

    go : (n : Text) (x : Option Listed) → listed options n ≡ x → IsSame (rows_left (name, options) given) given x n
    go n None is = nothing options (unused_of options given []) n is given known
    go n (Some o) is = by_kind n o.0 o.1 o.2 is

    each : (n : Text) → IsSame (rows_left (name, options) given) given (listed options n) n
    each n = go n (listed options n) refl
