-- What clap finds in a command's options.
use Rattle.std.specs.Prelude.{Bool, List, Option}
use Rattle.long_options.specs.Words.{Given, Text, has_name, value_of}

-- options by their names: the value of each, and whether it is there
pub record Options : Type 0 where
  pub value : Text → Option Text
  pub has : Text → Bool

-- as they were given
abbrev pub given_options : List Given → Options
given_options given =
    record { value = λ name. value_of name given; has = λ name. has_name name given }
