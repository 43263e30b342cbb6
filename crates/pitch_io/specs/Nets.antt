-- The calls of a net.
use Rattle.std.specs.Prelude.{ℕ, List}
use Rattle.pitch_io.specs.declared.line.Line.{Line}
use Rattle.pitch_io.specs.declared.sink.Put.{Put as PutAnswer}
use Rattle.pitch_io.specs.declared.net.LinkEnd.{LinkEnd}
use Rattle.pitch_io.specs.declared.net.LinkEnd.TheVariants as link
use Rattle.pitch_io.specs.declared.net.NetDone.{NetDone}
use Rattle.pitch_io.specs.declared.net.NetDone.TheVariants as done
use Rattle.pitch_io.specs.declared.net.NetTaken.{NetTaken}
use Rattle.pitch_io.specs.declared.net.NetTaken.TheVariants as taken

-- a call with its line or end, its bytes and its answer; Next and Take have the length of the slice
-- that was handed in, and the bytes that came
pub data Call : Type 0 where
  Begin : (answer : NetDone) → Call
  Send : (line : Line) → (datagram : List ℕ) → (answer : NetDone) → Call
  Next : (line : Line) → (room : ℕ) → (bytes : List ℕ) → (answer : NetTaken) → Call
  Put : (at : LinkEnd) → (piece : List ℕ) → (answer : PutAnswer) → Call
  Take : (at : LinkEnd) → (room : ℕ) → (bytes : List ℕ) → (answer : NetTaken) → Call

-- the other end of a connection
abbrev pub other_end : LinkEnd → LinkEnd
other_end link.GrpClient = link.GrpServer
other_end link.GrpServer = link.GrpClient
other_end link.SpinClient = link.SpinServer
other_end link.SpinServer = link.SpinClient

abbrev pub NetTakeFailed : NetTaken → Type 0
NetTakeFailed taken.Failed = Unit {0}
NetTakeFailed answer = ⊥

abbrev pub NetDoneFailed : NetDone → Type 0
NetDoneFailed done.Failed = Unit {0}
NetDoneFailed done.Done = ⊥
