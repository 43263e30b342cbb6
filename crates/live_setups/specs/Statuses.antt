-- The exit statuses, and with which of them the program ends.
use Rattle.std.specs.Prelude.{ℕ, Bool, true, false, Option, None, Some, Result, Ok, Err}
use Rattle.std.specs.Prelude.{if◌then◌else◌}
use Rattle.std.specs.IoError.{error_kind}
use Rattle.std.specs.declared.io.ErrorKind.{ErrorKind}
use Rattle.std.specs.declared.io.ErrorKind.TheVariants as kinds
use Rattle.line_sockets.specs.declared.trouble.Trouble.{Trouble}
use Rattle.live_listen.specs.declared.counts.Counts.{Counts as ListenCounts}
use Rattle.live_listen.specs.declared.error.ListenError.{ListenError}
use Rattle.live_listen.specs.declared.error.ListenError.TheVariants as listening
use Rattle.live_recovery.specs.declared.counts.Counts.{Counts as RecoverCounts}
use Rattle.live_recovery.specs.declared.error.RecoverError.{RecoverError}
use Rattle.live_recovery.specs.declared.error.RecoverError.TheVariants as recovering
use Rattle.live_venue.specs.declared.error.ReportError.{ReportError}
use Rattle.live_venue.specs.declared.error.ReportError.TheVariants as reporting
use Rattle.live_venue.specs.declared.error.ServeError.{ServeError}
use Rattle.live_venue.specs.declared.error.ServeError.TheVariants as serving
use Rattle.venue_sockets.specs.declared.trouble.VenuePart.{VenuePart}
use Rattle.venue_sockets.specs.declared.trouble.VenuePart.TheVariants as part
use Rattle.venue_sockets.specs.declared.trouble.VenueTrouble.{VenueTrouble}
use Rattle.watched_venue.specs.declared.trouble.WatchTrouble.{WatchTrouble}
use Rattle.watched_venue.specs.declared.trouble.WatchTrouble.TheVariants as watching
use Rattle.live_setups.specs.declared.status.ExitStatus.{ExitStatus}
use Rattle.live_setups.specs.declared.status.ExitStatus.TheVariants.{Done, Usage, BadInput}
use Rattle.live_setups.specs.declared.status.ExitStatus.TheVariants.{ReadFault, WriteFault}
use Rattle.live_setups.specs.declared.status.ExitStatus.TheVariants.{OutOfMemory, NetFault}
use Rattle.live_setups.specs.declared.status.ExitStatus.TheVariants.{LinesDisagree}

abbrev pub status_number : ExitStatus → ℕ
status_number Done = 0
status_number Usage = 2
status_number BadInput = 3
status_number ReadFault = 4
status_number WriteFault = 5
status_number OutOfMemory = 6
status_number NetFault = 7
status_number LinesDisagree = 8

-- ---- what the system said
-- that memory ran out
abbrev pub is_memory : ErrorKind → Bool
is_memory kinds.OutOfMemory = true
is_memory kind = false

-- of a line, of a connection or of the wait
abbrev pub line_status : Trouble → ExitStatus
line_status trouble = if is_memory (error_kind trouble.reason) then OutOfMemory else NetFault

-- of a net that failed, if anything
abbrev pub net_status : Option Trouble → ExitStatus
net_status (Some trouble) = line_status trouble
net_status None = NetFault

-- of a part of a venue's net: its input is read, and all else is the net
abbrev pub part_fault : VenuePart → ExitStatus
part_fault part.Input = ReadFault
part_fault other = NetFault

abbrev pub part_status : VenueTrouble → ExitStatus
part_status trouble =
    if is_memory (error_kind trouble.reason) then OutOfMemory else part_fault trouble.part

-- of a venue's net that failed, if anything
abbrev pub venue_status : Option VenueTrouble → ExitStatus
venue_status (Some trouble) = part_status trouble
venue_status None = NetFault

-- ---- how a run ended, and what the system said of its net, if anything
abbrev pub listen_status : Result ListenCounts ListenError → Option Trouble → ExitStatus
listen_status (Ok counts) trouble = Done
listen_status (Err listening.Net) trouble = net_status trouble
listen_status (Err listening.Write) trouble = WriteFault
listen_status (Err listening.OutOfMemory) trouble = OutOfMemory

abbrev pub recover_status : Result RecoverCounts RecoverError → Option Trouble → ExitStatus
recover_status (Ok counts) trouble = Done
recover_status (Err recovering.Net) trouble = net_status trouble
recover_status (Err recovering.Write) trouble = WriteFault
recover_status (Err recovering.OutOfMemory) trouble = OutOfMemory
recover_status (Err (recovering.Disagree told)) trouble = LinesDisagree

-- a run that broke off before it was over
abbrev pub early_status : ServeError → Option VenueTrouble → ExitStatus
early_status serving.Net trouble = venue_status trouble
early_status (serving.Input fault) trouble = BadInput
early_status serving.OutOfMemory trouble = OutOfMemory

abbrev pub serve_status : Result (Unit {0}) ServeError → Option VenueTrouble → ExitStatus
serve_status (Ok done) trouble = Done
serve_status (Err error) trouble = early_status error trouble

-- ---- and what was written of what the clients asked
abbrev pub watch_status : Option WatchTrouble → ExitStatus
watch_status None = Done
watch_status (Some watching.Write) = WriteFault
watch_status (Some watching.OutOfMemory) = OutOfMemory

-- a run that reports: where it was over, what was missing of that tells
abbrev pub report_status : Result (Unit {0}) ReportError → Option VenueTrouble
    → Option WatchTrouble → ExitStatus
report_status (Ok done) trouble watched = watch_status watched
report_status (Err (reporting.Serve error)) trouble watched = early_status error trouble
report_status (Err (reporting.Write fault)) trouble watched = WriteFault
