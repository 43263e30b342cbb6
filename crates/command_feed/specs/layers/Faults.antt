-- An error of a part as an error of the whole.
use Rattle.std.specs.Prelude.{ℕ, List, Result, Ok, Err}
use Rattle.pitch_text.specs.declared.command.CommandEntry.{CommandEntry}
use Rattle.text_lines.specs.declared.fault.TextError.{TextError}
use Rattle.text_lines.specs.declared.fault.TextError.TheVariants as text
use Rattle.venue_core.specs.declared.error.VenueError.{VenueError}
use Rattle.venue_core.specs.declared.error.VenueError.TheVariants as venue
use Rattle.command_feed.specs.declared.error.CommandError.{CommandError}
use Rattle.command_feed.specs.declared.error.CommandError.TheVariants.{Bad, Refused, OutOfMemory}

-- why a text was not read
abbrev pub of_text : TextError → CommandError
of_text (text.Bad line column cause) = Bad line column cause
of_text text.OutOfMemory = OutOfMemory

-- why the command of a line was not accepted
abbrev pub of_venue : ℕ → VenueError → CommandError
of_venue line venue.OutOfMemory = OutOfMemory
of_venue line error = Refused line error

-- why a text makes no feed where a command has this error and so much was read after it: a fault
-- of the text comes before a refusal, and want of memory is the answer at once
abbrev pub cause_before : Result (List CommandEntry) TextError → CommandError → CommandError
cause_before read OutOfMemory = OutOfMemory
cause_before (Ok entries) error = error
cause_before (Err fault) error = of_text fault
