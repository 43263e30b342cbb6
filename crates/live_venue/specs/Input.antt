-- What the units of a venue hear of its input, a text of commands that comes in pieces.
use Rattle.std.specs.Prelude.{ℕ, ◌+◌, ◌==◌, nat_lt, is_some, List, [], ◌∷◌, ◌++◌}
use Rattle.std.specs.Prelude.{length, position, slice_get, Option, None, Some, Result, Ok, Err}
use Rattle.std.specs.Prelude.{if◌then◌else◌}
use Rattle.std.specs.Option.{option_and_then}
use Rattle.text_lines.specs.Items.{items_of}
use Rattle.text_lines.specs.declared.fault.TextError.{TextError}
use Rattle.text_lines.specs.declared.fault.TextError.TheVariants as text
use Rattle.pitch_text.specs.declared.command.Command.{Command}
use Rattle.unit_commands.specs.Pieces.{counted_lines, last_line, line_feeds, rest_limit}
use Rattle.unit_commands.specs.Pieces.{whole_lines}
use Rattle.unit_commands.specs.UnitCommands.{unit_command, unit_command_entry}
use Rattle.unit_commands.specs.declared.unit_command.UnitCommandEntry.{UnitCommandEntry}
use Rattle.venue_core.specs.Refusals.{refusal}
use Rattle.venue_core.specs.declared.error.VenueError.{VenueError}
use Rattle.venue_end.specs.Came.{Commanded}
use Rattle.venue_end.specs.declared.setup.VenueSetup.{VenueSetup}
use Rattle.venue_units.specs.Coming.{UnitCame, state_at, to_unit}
use Rattle.live_venue.specs.declared.fault.InputFault.{InputFault}
use Rattle.live_venue.specs.declared.fault.InputFault.TheVariants.{Bad, NoUnit, Refused, TooLong}

-- what came to the units, and the first fault of the input
pub record Heard : Type 0 where
  pub came : List UnitCame
  pub fault : Option InputFault

abbrev pub faulty : List UnitCame → InputFault → Heard
faulty came fault = record { came = came; fault = Some fault }

-- the number of a line, behind so many others
abbrev pub told_line : ℕ → ℕ → ℕ
told_line before line = counted_lines (before + line)

-- ---- A line
-- the first unit that has this number
abbrev pub index_of : List VenueSetup → ℕ → Option ℕ
index_of s unit = position (λ setup. setup.unit == unit) s

-- why it refuses a command, if it does
abbrev pub refusal_at : List VenueSetup → ℕ → List UnitCame → Command → Option VenueError
refusal_at s at came command = option_and_then
    (λ setup. refusal (state_at setup at came).messages command) (slice_get s at)

-- the command of a line comes to its unit, unless there is none or it refuses it
abbrev pub unless_refused : Option VenueError → ℕ → ℕ → Command → List UnitCame → Heard
unless_refused None line at command came =
    record { came = to_unit at (Commanded command) ∷ came; fault = None }
unless_refused (Some error) line at command came = faulty came (Refused line error)

abbrev pub at_index : List VenueSetup → Option ℕ → ℕ → Command → List UnitCame → Heard
at_index s None line command came = faulty came (NoUnit line)
at_index s (Some at) line command came =
    unless_refused (refusal_at s at came command) line at command came

-- what a line says comes, behind so many lines before it
abbrev pub said_heard : List VenueSetup
    → ℕ → Result UnitCommandEntry TextError → List UnitCame → Heard
said_heard s before (Ok entry) came =
    at_index s (index_of s entry.unit) (told_line before entry.line) entry.command came
said_heard s before (Err (text.Bad line column cause)) came =
    faulty came (Bad (told_line before line) column cause)
said_heard s before (Err text.OutOfMemory) came = record { came = came; fault = None }

-- unless there was a fault
abbrev pub next_heard : List VenueSetup → ℕ → Result UnitCommandEntry TextError → Heard → Heard
next_heard s before said heard =
    if is_some heard.fault then heard else said_heard s before said heard.came

-- what some lines say comes, one after another, up to the first fault
abbrev pub all_heard : List VenueSetup
    → ℕ → List (Result UnitCommandEntry TextError) → Heard → Heard
all_heard s before [] heard = heard
all_heard s before (said ∷ others) heard =
    all_heard s before others (next_heard s before said heard)

-- ---- The input
-- how many lines were read of it
abbrev pub lines_read : List ℕ → ℕ
lines_read read = counted_lines (line_feeds read)

-- lines that follow so many others
abbrev pub lines_heard : List VenueSetup → ℕ → List ℕ → List UnitCame → Heard
lines_heard s before lines came =
    let items = items_of unit_command unit_command_entry lines in
    all_heard s before items (record { came = came; fault = None })

-- a piece behind all that was read: the lines that it ends come; a line that is too long is a fault
-- before it has ended
abbrev pub piece_heard : List VenueSetup → List ℕ → List ℕ → List UnitCame → Heard
piece_heard s read piece came =
    if nat_lt rest_limit (length (last_line (last_line read ++ piece)))
    then faulty came (TooLong (told_line (lines_read read) 1))
    else lines_heard s (lines_read read) (whole_lines (last_line read ++ piece)) came

-- the end of the input: so does its last line
abbrev pub rest_heard : List VenueSetup → List ℕ → List UnitCame → Heard
rest_heard s read came = lines_heard s (lines_read read) (last_line read) came
