-- What a search for options finds.
use Rattle.std.specs.Prelude.{◌≡◌, Bool, true, false, List, [], Option, Some, None, codes, is_some}
use Rattle.std.specs.Prelude.{option_and_then, if◌then◌else◌}
use Rattle.std.specs.Option.{option_map_or}
use Rattle.std.specs.List.{All, list_all}
use Rattle.std.specs.Str.{IsUtf8, bytes_eq}
use Rattle.clap.specs.Walk.{Row, first_of}
use Rattle.clap.specs.Simple.{App, subcommand_of}
use Rattle.clap.specs.Faults.{fault_of}
use Rattle.long_options.specs.Words.{Described, Given, IsCall, Listed, Text, listed}
use Rattle.long_options.specs.Plain.{described, has_dashes, is_plain}
use Rattle.long_options.specs.Apps.{program}
use Rattle.long_options.specs.Found.{Options, given_options}

-- a switch that clap found as set
abbrev pub is_set : Option Text → Bool
is_set None = false
is_set (Some text) = bytes_eq text (codes "true")

-- as clap's rows have them: a row for each option with a value, and `true` or `false` for each
-- without one
abbrev pub found_options : List Listed → List Row → Options
found_options options rows = record {
  value =
      λ name. option_and_then (λ o. if o.2 then None else first_of name rows) (listed options name);
  has = λ name. option_map_or (λ o. if o.2 then is_set (first_of name rows)
      else is_some (first_of name rows)) (listed options name) false;
}

-- clap finds the command, with its options as they were given
abbrev pub Finds : App → List Text → Described → List Given → Type 0
Finds app words c given =
    (rows : List Row) × (subcommand_of app words ≡ Some (c.0, rows))
    × (found_options c.1 rows ≡ given_options given)

-- words that clap takes, and of which none is `--`, call a command, and clap finds that
abbrev pub TakesCalls : Type 0
TakesCalls = (name : Text) (commands : List Described) (words : List Text)
    → list_all is_plain commands ≡ true → All IsUtf8 words → has_dashes words ≡ false
    → fault_of (program name commands) words ≡ []
    → (c : Described) × (given : List Given) × (described commands c.0 ≡ Some c)
    × IsCall c words given × Finds (program name commands) words c given

-- words that call a command are taken by clap, which finds that, and none is `--`
abbrev pub CallsTaken : Type 0
CallsTaken = (name : Text) (commands : List Described)
    (words : List Text) (c : Described) (given : List Given) → list_all is_plain commands ≡ true
    → described commands c.0 ≡ Some c → IsCall c words given
    → (fault_of (program name commands) words ≡ [])
    × Finds (program name commands) words c given × (has_dashes words ≡ false)
