use Rattle.std.proofs.Common.{List}
use Rattle.text_lines.specs.Items.{items_of}
use Rattle.unit_commands.specs.UnitCommands.{unit_command, unit_command_entry}
use Rattle.venue_end.specs.declared.setup.VenueSetup.{VenueSetup}
use Rattle.venue_units.specs.Coming.{UnitCame}
use Rattle.venue_units.specs.Units.{UnitsStand}
use Rattle.live_venue.proofs.Commanding.{HearsOn}
use Rattle.live_venue.proofs.hearing.hear_lines.Given as goal

abbrev pub invariant-lines : goal.invariant-lines
invariant-lines l = (s : List VenueSetup) (came : List UnitCame) → UnitsStand s l.fn.units came → HearsOn s l.before (items_of unit_command unit_command_entry l.lines) came l.said-iterator l.units
