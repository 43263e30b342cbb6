-- The grammar of commands to many units: on each line a unit, and a command for it.
use Rattle.std.specs.Prelude.{ℕ}
use Rattle.pitch_text.specs.declared.command.Command.{Command}
use Rattle.pitch_text.specs.CommandGrammar.{command}
use Rattle.text_lines.specs.Reading.{LineReading, ◌>>=◌, gives, number}
use Rattle.unit_commands.specs.declared.unit_command.UnitCommandEntry.{UnitCommandEntry}

-- a unit, 1 to 255, and a command
unfoldable pub unit_command : LineReading (ℕ × Command)
unit_command = do
  unit ← number 1 255
  command ← command
  gives (unit, command)

-- an entry with its line
abbrev pub unit_command_entry : ℕ × (ℕ × Command) → UnitCommandEntry
unit_command_entry p = record { line = p.0; unit = p.1.0; command = p.1.1 }
