-- What an error of a library is to the program.
use Rattle.std.specs.Prelude.{◌≡◌, ℕ, List, Result, Err}
use Rattle.run_audit.specs.declared.input.InputError.{InputError}
use Rattle.run_audit.specs.declared.input.InputError.TheVariants as errors
use Rattle.stream_print.specs.declared.failure.StreamFailure.{StreamFailure}
use Rattle.stream_print.specs.declared.failure.StreamFailure.TheVariants as stream
use Rattle.schedule_replay.specs.declared.error.ReplayError.{ReplayError}
use Rattle.schedule_replay.specs.declared.error.ReplayError.TheVariants as replays
use Rattle.net_edge.specs.declared.error.DemoError.{DemoError}
use Rattle.net_edge.specs.declared.error.DemoError.TheVariants as demos
use Rattle.command_feed.specs.declared.error.CommandError.{CommandError}
use Rattle.command_feed.specs.declared.error.CommandError.TheVariants as commands
use Rattle.pitch_tool.specs.declared.failure.Failure.{Failure}
use Rattle.pitch_tool.specs.declared.failure.Failure.TheVariants.{BadInput, Read, Write}
use Rattle.pitch_tool.specs.declared.failure.Failure.TheVariants.{OutOfMemory}
use Rattle.pitch_tool.specs.declared.failure.Trouble.{Trouble}
use Rattle.pitch_tool.specs.declared.failure.Trouble.TheVariants.{Blocks, SequencesSpent, Commands}
use Rattle.pitch_tool.specs.declared.failure.Trouble.TheVariants.{Schedule, Audit}
use Rattle.pitch_tool.specs.declared.failure.Failure.TheVariants as ending

-- why a stream ended, as why the program ends
abbrev pub of_stream : StreamFailure → Failure
of_stream (stream.BadInput trouble) = BadInput (Blocks trouble)
of_stream stream.SequencesSpent = BadInput SequencesSpent
of_stream stream.Read = Read
of_stream stream.Write = Write
of_stream stream.OutOfMemory = OutOfMemory

-- why nothing was made of some commands, as why the program ends
abbrev pub of_commands : CommandError → Failure
of_commands commands.OutOfMemory = OutOfMemory
of_commands error = BadInput (Commands error)

-- why a schedule was not replayed, as why the program ends
abbrev pub of_schedule : ReplayError → Failure
of_schedule replays.OutOfMemory = OutOfMemory
of_schedule error = BadInput (Schedule error)

-- why there is no verdict, as why the program ends
abbrev pub of_audit : InputError → Failure
of_audit (errors.Fault fault) = BadInput (Audit fault)
of_audit errors.OutOfMemory = OutOfMemory

-- why a demo ended, as why the program ends
abbrev pub of_demo : DemoError → Failure
of_demo demos.NetFault = ending.Net
of_demo demos.OutOfMemory = ending.OutOfMemory

-- why nothing was made of a text
abbrev pub IsUnmade : Result (List ℕ) Trouble → Failure → Type 0
IsUnmade answer (BadInput trouble) = answer ≡ Err trouble
IsUnmade answer OutOfMemory = Unit {0}
IsUnmade answer _ = ⊥
