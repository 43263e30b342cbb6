-- What a system call says of a connection. One that a signal broke off says nothing.
use Rattle.std.specs.Prelude.{ℕ, ◌==◌, Option, None, Some, if◌then◌else◌}
use Rattle.std.specs.declared.io.ErrorKind.{ErrorKind}
use Rattle.std.specs.declared.io.ErrorKind.TheVariants.{Interrupted, WouldBlock}
use Rattle.live_net.specs.declared.live.PeerTaken.{PeerTaken}
use Rattle.live_net.specs.declared.live.PeerTaken.TheVariants as taken
use Rattle.live_net.specs.declared.live.PeerPut.{PeerPut}
use Rattle.live_net.specs.declared.live.PeerPut.TheVariants as put

-- a read of no byte tells the end
abbrev pub read_gives : ℕ → Option PeerTaken
read_gives n = if n == 0 then Some taken.Ended else Some (taken.Got n)

-- none is there yet, or the connection is over
abbrev pub read_fails : ErrorKind → Option PeerTaken
read_fails Interrupted = None
read_fails WouldBlock = Some taken.Quiet
read_fails kind = Some taken.Ended

-- a write of no byte tells the end
abbrev pub write_gives : ℕ → Option PeerPut
write_gives n = if n == 0 then Some put.Ended else Some (put.Wrote n)

-- there is no room now, or the connection is over
abbrev pub write_fails : ErrorKind → Option PeerPut
write_fails Interrupted = None
write_fails WouldBlock = Some put.Full
write_fails kind = Some put.Ended
