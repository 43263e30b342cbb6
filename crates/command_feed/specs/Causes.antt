-- The words for why a text of commands makes no feed.
use Rattle.std.specs.Prelude.{ℕ, List, ◌++◌, codes, decimal}
use Rattle.text_lines.specs.Causes.{place_text}
use Rattle.venue_core.specs.Causes.{refusal_text}
use Rattle.command_feed.specs.declared.error.CommandError.{CommandError}
use Rattle.command_feed.specs.declared.error.CommandError.TheVariants.{Bad, Refused, OutOfMemory}

abbrev pub command_error_text : CommandError → List ℕ
command_error_text (Bad line column cause) = codes "bad input at " ++ place_text line column cause
command_error_text (Refused line error) =
    codes "refused at line " ++ (decimal line ++ (codes ": " ++ refusal_text error))
command_error_text OutOfMemory = codes "out of memory"
