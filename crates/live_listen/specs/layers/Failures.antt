-- A failure of printing as one of the listener.
use Rattle.stream_print.specs.declared.failure.PrintError.{PrintError}
use Rattle.stream_print.specs.declared.failure.PrintError.TheVariants as printing
use Rattle.stream_print.specs.declared.failure.TaskError.{TaskError}
use Rattle.stream_print.specs.declared.failure.TaskError.TheVariants as task
use Rattle.live_listen.specs.declared.error.ListenError.{ListenError}
use Rattle.live_listen.specs.declared.error.ListenError.TheVariants as errors

-- why a listener ends that could not print
abbrev pub unprinted : PrintError → ListenError
unprinted printing.Write = errors.Write
unprinted printing.OutOfMemory = errors.OutOfMemory

-- or whose task failed on a block; no line of `follow` needs a sequence, so none is spent
abbrev pub unheard : TaskError → ListenError
unheard task.SequencesSpent = errors.OutOfMemory
unheard task.Write = errors.Write
unheard task.OutOfMemory = errors.OutOfMemory
