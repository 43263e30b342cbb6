-- What the units of a live venue have of the text of its input, however that was cut.
use Rattle.std.specs.Prelude.{◌≡◌, ◌⊎◌, ◌<◌, ℕ, ◌==◌, Bool, true, false, List, [], map, filter}
use Rattle.std.specs.Prelude.{length, Option, None, Some, Ok}
use Rattle.text_lines.specs.Text.{entries_of}
use Rattle.pitch_text.specs.CommandGrammar.{command_entry}
use Rattle.pitch_text.specs.declared.command.Command.{Command}
use Rattle.pitch_text.specs.declared.command.CommandEntry.{CommandEntry}
use Rattle.unit_commands.specs.Pieces.{last_line, rest_limit, whole_lines}
use Rattle.unit_commands.specs.UnitCommands.{unit_command}
use Rattle.command_feed.specs.Feed.{accepted_after}
use Rattle.venue_end.specs.declared.setup.VenueSetup.{VenueSetup}
use Rattle.venue_units.specs.Coming.{UnitCame}
use Rattle.live_venue.specs.Input.{Heard, index_of, lines_heard, lines_read, told_line}
use Rattle.live_venue.specs.Running.{Now}
use Rattle.live_venue.specs.declared.fault.InputFault.{InputFault}
use Rattle.live_venue.specs.declared.fault.InputFault.TheVariants.{TooLong}
use Rattle.live_laws.specs.Sent.{messages_at}

-- what units hear of a whole text, one line after another, up to its first fault
abbrev pub text_heard : List VenueSetup → List ℕ → Heard
text_heard s text = lines_heard s 0 text []

-- ---- Of what was read
-- all of it counts where it has ended; before, its whole lines
abbrev pub told_by : Bool → List ℕ → List ℕ
told_by true text = text
told_by false text = whole_lines text

-- the line behind the whole lines is too long before it has ended
pub record HasNoEnd (text : List ℕ) (fault : Option InputFault) : Type 0 where
  pub long : rest_limit < length (last_line text)
  pub fault_is : fault ≡ Some (TooLong (told_line (lines_read text) 1))

-- the units have the messages that they have of a text, and the fault is that of the text; or the
-- text has none, and behind it a line has no end
pub record HaveOf (s : List VenueSetup) (text : List ℕ) (now : Now) : Type 0 where
  pub messages : (at : ℕ) → messages_at s now.came at ≡ messages_at s (text_heard s text).came at
  pub fault : (now.fault ≡ (text_heard s text).fault)
      ⊎ (((text_heard s text).fault ≡ None) × HasNoEnd now.text now.fault)

-- ---- By commands
-- the commands that some entries have for a unit, as if it were alone
abbrev pub commands_for : ℕ → List (ℕ × (ℕ × Command)) → List CommandEntry
commands_for unit entries = map (λ entry. command_entry (entry.0, entry.1.1))
    (filter (λ entry. entry.1.0 == unit) entries)

-- a text has no fault, and each unit has the messages of its commands in it, each of which is
-- accepted after those before it
pub record HaveCommandsOf (s : List VenueSetup) (text : List ℕ) (came : List UnitCame) :
    Type 0 where
  pub entries : List (ℕ × (ℕ × Command))
  pub read : entries_of unit_command text ≡ Ok entries
  pub each : (at unit : ℕ) → index_of s unit ≡ Some at
      → accepted_after [] (commands_for unit entries) ≡ Ok (messages_at s came at)
