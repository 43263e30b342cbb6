-- A failure of the units as one of a live client.
use Rattle.stream_print.specs.declared.failure.PrintError.{PrintError}
use Rattle.stream_print.specs.declared.failure.PrintError.TheVariants as printing
use Rattle.live_recovery.specs.declared.error.RecoverError.{RecoverError}
use Rattle.live_recovery.specs.declared.error.RecoverError.TheVariants as errors

-- why a client ends whose units could not hear or print what came
abbrev pub unheard : PrintError → RecoverError
unheard printing.Write = errors.Write
unheard printing.OutOfMemory = errors.OutOfMemory
