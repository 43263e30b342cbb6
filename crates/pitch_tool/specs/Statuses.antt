-- The exit statuses.
use Rattle.std.specs.Prelude.{ℕ}
use Rattle.pitch_tool.specs.declared.status.ExitStatus.{ExitStatus}
use Rattle.pitch_tool.specs.declared.status.ExitStatus.TheVariants.{Done, Usage, BadInput}
use Rattle.pitch_tool.specs.declared.status.ExitStatus.TheVariants.{ReadFault, WriteFault}
use Rattle.pitch_tool.specs.declared.status.ExitStatus.TheVariants.{OutOfMemory, NetFault}

abbrev pub status_number : ExitStatus → ℕ
status_number Done = 0
status_number Usage = 2
status_number BadInput = 3
status_number ReadFault = 4
status_number WriteFault = 5
status_number OutOfMemory = 6
status_number NetFault = 7
