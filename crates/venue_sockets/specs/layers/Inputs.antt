-- What a system call says of the input, and what is known of it from then on.
use Rattle.std.specs.Prelude.{ℕ, ◌==◌, if◌then◌else◌, Option, None, Some}
use Rattle.std.specs.declared.io.ErrorKind.{ErrorKind}
use Rattle.std.specs.declared.io.ErrorKind.TheVariants.{Interrupted, WouldBlock}
use Rattle.venue_net.specs.declared.net.InputRead.{InputRead}
use Rattle.venue_net.specs.declared.net.InputRead.TheVariants as input
use Rattle.venue_sockets.specs.declared.state.State.{State}
use Rattle.venue_sockets.specs.declared.state.State.TheVariants as state

-- a read of no byte tells the end
abbrev pub input_gives : ℕ → InputRead
input_gives n = if n == 0 then input.Ended else input.Got n

-- one that a signal broke off, or that would have to wait, says that nothing is there now
abbrev pub IsQuiet : ErrorKind → Type 0
IsQuiet Interrupted = Unit {0}
IsQuiet WouldBlock = Unit {0}
IsQuiet kind = ⊥

-- what is known once a wait told of the input
abbrev pub after_told : State → State
after_told state.Waited = state.Told
after_told known = known

-- a file is told of at the next wait, and so is a plan of which more may be due
abbrev pub told_of_file : State → State
told_of_file state.File = state.ToldFile
told_of_file known = known

-- more of a plan is due with each second
abbrev pub after_second : State → State
after_second state.Resting = state.File
after_second known = known

-- what is answered where a read might wait, or the input is at its end
abbrev pub unread : State → Option InputRead
unread state.Waited = Some input.Quiet
unread state.Resting = Some input.Quiet
unread state.Ended = Some input.Ended
unread known = None

-- what is known as it is read: the next wait tells again
abbrev pub being_read : State → State
being_read state.Told = state.Waited
being_read state.ToldFile = state.File
being_read known = known
