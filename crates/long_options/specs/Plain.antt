-- Which rules of options are plain.
use Rattle.std.specs.Prelude.{◌&&◌, ◌==◌, Bool, true, false, not, List, [], ◌∷◌, Option, find}
use Rattle.std.specs.List.{list_all, list_any}
use Rattle.std.specs.Str.{bytes_eq}
use Rattle.long_options.specs.Words.{Text, Listed, Described}

-- `--`
abbrev pub dashes : Text
dashes = 45 ∷ 45 ∷ []

-- the command of this name
abbrev pub described : List Described → Text → Option Described
described commands name = find (λ c. bytes_eq c.0 name) commands

-- a word is `--`
abbrev pub has_dashes : List Text → Bool
has_dashes words = list_any (λ w. bytes_eq w dashes) words

-- a name that `--name` and `--name=value` show: it isn't empty, and has no `=`
abbrev pub is_plain_name : Text → Bool
is_plain_name [] = false
is_plain_name (x ∷ xs) = not (list_any (λ y. y == 61) (x ∷ xs))

-- no two options have the same name
abbrev pub are_distinct : List Listed → Bool
are_distinct [] = true
are_distinct (o ∷ os) = not (list_any (λ x. bytes_eq o.0 x.0) os) && are_distinct os

-- a command that words can name: it isn't `--`, and its options' names differ and are plain
abbrev pub is_plain : Described → Bool
is_plain c = not (bytes_eq c.0 dashes) && list_all (λ o. is_plain_name o.0) c.1 && are_distinct c.1
