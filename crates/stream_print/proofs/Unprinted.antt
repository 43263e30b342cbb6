-- A stream whose text could not be printed.
use Rattle.std.proofs.Common.{ℕ, List, [], ◌∷◌, Option, Err, refl}
use Rattle.unit_packets.specs.Blocks.{Block}
use Rattle.relay_unit.specs.Relays.{Relays, HaveRelayed}
use Rattle.relay_unit.specs.Sparing.{messages_heard, IsSpentBy}
use Rattle.relay_unit.specs.declared.relay.RelayError.{RelayError}
use Rattle.relay_unit.specs.declared.relay.RelayError.TheVariants as relaying
use Rattle.stream_print.specs.layers.Failures.{unprinted, unrelayed, untold}
use Rattle.stream_print.specs.Inputs.{StreamEnds, WritesSome}
use Rattle.stream_print.specs.Knowing.{task_form}
use Rattle.stream_print.specs.Printing.{FailsBlock}
use Rattle.stream_print.specs.Putting.{PutsSome}
use Rattle.stream_print.specs.Told.{between}
use Rattle.stream_print.specs.declared.task.Task.{Task}
use Rattle.stream_print.specs.declared.task.Task.TheVariants.{Relay}
use Rattle.stream_print.proofs.Streaming.{puts_page, puts_nothing}
use Rattle.stream_print.specs.declared.failure.PrintError.{PrintError}
use Rattle.stream_print.specs.declared.failure.PrintError.TheVariants as printing
use Rattle.stream_print.specs.declared.carrier.Carrier.{Carrier}
use Rattle.stream_print.specs.declared.stream_form.StreamForm.{StreamForm}

pub ends_unwritten : (carrier : Carrier) (form : StreamForm) (most : ℕ) (first now start written : Option (List ℕ)) (e : PrintError) → WritesSome carrier form (between first now) (between start written)
    → StreamEnds carrier form most (Err (unprinted e)) (between first now) (between start written)
ends_unwritten carrier form most first now start written printing.Write writes = writes
ends_unwritten carrier form most first now start written printing.OutOfMemory writes = writes

-- a block of which nothing was printed
pub page_fails : (task : Task) (n : ℕ) (w : Option (List ℕ)) (t : List ℕ) (v : Option (List ℕ)) (block : Block) (e : PrintError) → PutsSome w v t → FailsBlock (untold e) task n w t v block
page_fails task n w t v block printing.Write puts = λ before knows is. puts_page (task_form task) before block w v t puts
page_fails task n w t v block printing.OutOfMemory puts = λ before knows is. puts_page (task_form task) before block w v t puts

-- a block that was not relayed
pub relay_fails : (relays : Relays) (n : ℕ) (block : Block) (e : RelayError) (w : Option (List ℕ)) (t : List ℕ) → ((before : List Block) → HaveRelayed relays before → IsSpentBy (messages_heard block.unit (block ∷ before)) e)
    → FailsBlock (unrelayed e) (Relay relays) n w t w block
relay_fails relays n block (relaying.SequencesSpent sent more) w t many = λ before knows is. record { done = []; block = block; left = []; blocks_are = refl; outruns = many before knows }
relay_fails relays n block relaying.OutOfMemory w t many = λ before knows is. puts_page (task_form (Relay relays)) before block w w t (puts_nothing w t)
