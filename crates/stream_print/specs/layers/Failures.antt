-- A failure of a part as one of the whole stream.
use Rattle.relay_unit.specs.declared.relay.RelayError.{RelayError}
use Rattle.relay_unit.specs.declared.relay.RelayError.TheVariants as relaying
use Rattle.stream_print.specs.declared.failure.PrintError.{PrintError}
use Rattle.stream_print.specs.declared.failure.PrintError.TheVariants as printing
use Rattle.stream_print.specs.declared.failure.StreamFailure.{StreamFailure}
use Rattle.stream_print.specs.declared.failure.StreamFailure.TheVariants as stream
use Rattle.stream_print.specs.declared.failure.TaskError.{TaskError}
use Rattle.stream_print.specs.declared.failure.TaskError.TheVariants as task

-- why a task failed on a block that could not be relayed
abbrev pub unrelayed : RelayError → TaskError
unrelayed (relaying.SequencesSpent sent more) = task.SequencesSpent
unrelayed relaying.OutOfMemory = task.OutOfMemory

-- or whose text could not be printed
abbrev pub untold : PrintError → TaskError
untold printing.Write = task.Write
untold printing.OutOfMemory = task.OutOfMemory

-- why a stream ended whose task failed
abbrev pub undone : TaskError → StreamFailure
undone task.SequencesSpent = stream.SequencesSpent
undone task.Write = stream.Write
undone task.OutOfMemory = stream.OutOfMemory

-- or whose text could not be printed
abbrev pub unprinted : PrintError → StreamFailure
unprinted printing.Write = stream.Write
unprinted printing.OutOfMemory = stream.OutOfMemory
