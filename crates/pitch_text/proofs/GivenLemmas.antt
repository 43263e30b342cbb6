-- What the lines of a schedule give is well formed.
use Rattle.std.proofs.Common.{◌≡◌, ℕ, ◌+◌, List, [], ◌∷◌, map, Option, Some, None, Result, Ok, Err, refl}
use Rattle.std.specs.List.{cons_option}
use Rattle.pitch_text.specs.ScheduleGrammar.{entry, schedule_entry}
use Rattle.pitch_text.specs.WellFormed.{AreWellFormed}
use Rattle.pitch_text.specs.declared.verb.Verb.{Verb}
use Rattle.pitch_text.proofs.FoundLemmas.{some_line}
use Rattle.text_lines.specs.Text.{TextFault, line_of, lines_of, said_on, said_from, said_of}
use Rattle.text_lines.specs.Items.{item_of, items_of}
use Rattle.text_lines.specs.declared.fault.Fault.{Fault}

given_on : (n : ℕ) (line : List ℕ) (read : Result (Option (ℕ × Verb)) Fault) (rest : List (Result (ℕ × (ℕ × Verb)) TextFault)) → line_of entry line ≡ read
    → AreWellFormed (map (item_of schedule_entry) rest) → AreWellFormed (map (item_of schedule_entry) (cons_option (said_on n read) rest))
given_on n line (Err fault) rest is others = (tt, others)
given_on n line (Ok None) rest is others = others
given_on n line (Ok (Some (unit, verb))) rest is others = ((some_line unit verb).1 (line, is), others)

given_from : (n : ℕ) (lines : List (List ℕ)) → AreWellFormed (map (item_of schedule_entry) (said_from entry n lines))
given_from n [] = tt
given_from n (line ∷ lines) = given_on n line (line_of entry line) (said_from entry (n + 1) lines) refl (given_from (n + 1) lines)

pub schedule_given : (text : List ℕ) → AreWellFormed (items_of entry schedule_entry text)
unfolding items_of said_of
schedule_given text = given_from 1 (lines_of text)
