-- The words for what is wrong with the input.
use Rattle.std.specs.Prelude.{ℕ, List, ◌++◌, codes, decimal}
use Rattle.text_lines.specs.Causes.{place_text}
use Rattle.venue_core.specs.Causes.{refusal_text}
use Rattle.live_venue.specs.declared.fault.InputFault.{InputFault}
use Rattle.live_venue.specs.declared.fault.InputFault.TheVariants.{Bad, NoUnit, Refused, TooLong}

abbrev pub fault_text : InputFault → List ℕ
fault_text (Bad line column cause) = codes "bad input at " ++ place_text line column cause
fault_text (NoUnit line) =
    codes "bad input at line " ++ (decimal line ++ codes ": no such unit")
fault_text (Refused line error) =
    codes "refused at line " ++ (decimal line ++ (codes ": " ++ refusal_text error))
fault_text (TooLong line) =
    codes "bad input at line " ++ (decimal line ++ codes ": it has no end")
