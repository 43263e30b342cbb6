-- What a printer knows once some blocks were printed. Blocks stand newest first.
use Rattle.std.specs.Prelude.{◌≡◌, List, length}
use Rattle.unit_packets.specs.Blocks.{Block}
use Rattle.unit_clients.specs.Clients.{HaveHeard}
use Rattle.best_quotes.specs.Units.{HaveQuoted}
use Rattle.relay_unit.specs.Relays.{HaveRelayed}
use Rattle.stream_print.specs.declared.stream_form.StreamForm.{StreamForm}
use Rattle.stream_print.specs.declared.stream_form.StreamForm.TheVariants as form
use Rattle.stream_print.specs.declared.printer.Printer.{Printer}
use Rattle.stream_print.specs.declared.task.Task.{Task}
use Rattle.stream_print.specs.declared.task.Task.TheVariants.{Follow, Show, Relay, Quotes}

-- the form that a task does
abbrev pub task_form : Task → StreamForm
task_form (Follow units) = form.Follow units.limit
task_form Show = form.Show
task_form (Relay relays) = form.Relay relays.limit
task_form (Quotes units) = form.Quotes units.limit

-- what a task has of each unit has heard the blocks; `show` needs to know nothing of them
abbrev pub Knows : Task → List Block → Type 0
Knows (Follow units) before = HaveHeard units before
Knows Show before = Unit {0}
Knows (Relay relays) before = HaveRelayed relays before
Knows (Quotes units) before = HaveQuoted units before

-- the blocks were counted, and the task knows of them
pub record HasPrinted (p : Printer) (before : List Block) : Type 0 where
  pub number_is : p.number ≡ length before
  pub knows : Knows p.task before
