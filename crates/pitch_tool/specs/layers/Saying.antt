-- What is said of a failure, and the status for it.
use Rattle.std.specs.Prelude.{◌≡◌, ◌⊎◌, List, ℕ}
use Rattle.pitch_tool.specs.Devices.{Device, Says}
use Rattle.pitch_tool.specs.Program.{usage_text, trouble_text, read_text, write_text, net_text}
use Rattle.pitch_tool.specs.Program.{memory_text}
use Rattle.pitch_tool.specs.declared.failure.Failure.{Failure}
use Rattle.pitch_tool.specs.declared.failure.Failure.TheVariants as ending
use Rattle.pitch_tool.specs.declared.status.ExitStatus.{ExitStatus}
use Rattle.pitch_tool.specs.declared.status.ExitStatus.TheVariants.{Usage, BadInput, ReadFault}
use Rattle.pitch_tool.specs.declared.status.ExitStatus.TheVariants.{WriteFault, OutOfMemory}
use Rattle.pitch_tool.specs.declared.status.ExitStatus.TheVariants.{NetFault}

-- the status is this one, and this was said, unless the device failed
abbrev pub Answers : ExitStatus → ExitStatus → Device → List ℕ → Type 0
Answers is status err text = (status ≡ is) × Says err text

-- the failure was said, with its status; or memory ran out for the line on what is wrong
abbrev pub SaysWhy : Failure → ExitStatus → Device → Type 0
SaysWhy ending.Usage status err = Answers Usage status err usage_text
SaysWhy (ending.BadInput trouble) status err =
    Answers BadInput status err (trouble_text trouble)
    ⊎ Answers OutOfMemory status err memory_text
SaysWhy ending.Read status err = Answers ReadFault status err read_text
SaysWhy ending.Write status err = Answers WriteFault status err write_text
SaysWhy ending.Net status err = Answers NetFault status err net_text
SaysWhy ending.OutOfMemory status err = Answers OutOfMemory status err memory_text
