-- Which steps may come, and when a turn is over.
use Rattle.std.specs.Prelude.{◌≡◌, ◌<◌, ◌++◌, true, false, ℕ, List, [], ◌∷◌}
use Rattle.pitch_io.specs.declared.line.Line.{Line}
use Rattle.pitch_io.specs.declared.line.Line.TheVariants.{A, B}
use Rattle.pitch_io.specs.declared.net.LinkEnd.{LinkEnd}
use Rattle.pitch_io.specs.Nets.{Call, Begin, Send, Next, Put, Take, NetDoneFailed, NetTakeFailed}
use Rattle.pitch_io.specs.Putting.{PutFailed}
use Rattle.pitch_model.specs.Status.{status_of}
use Rattle.pitch_model.specs.declared.status.Status.{Status}
use Rattle.pitch_model.specs.declared.status.Status.TheVariants.{Current}
use Rattle.net_edge.specs.Acting.{is_group_open, scene_of}
use Rattle.net_edge.specs.Due.{Setting, IsDuePiece, call_room, hold_limit, beat, due, is_tenth}
use Rattle.net_edge.specs.Due.{ticks}
use Rattle.net_edge.specs.Scene.{Scene, line_in, at_end, waits_at, is_done}
use Rattle.net_edge.specs.Steps.{Step, Did, Beat, Turn}

-- a run has no call that failed, and `begin` comes before it alone
abbrev pub GoesWell : Call → Type 0
GoesWell (Begin answer) = ⊥
GoesWell (Send line datagram answer) = NetDoneFailed answer → ⊥
GoesWell (Next line room bytes answer) = NetTakeFailed answer → ⊥
GoesWell (Put at piece answer) = PutFailed answer → ⊥
GoesWell (Take at room bytes answer) = NetTakeFailed answer → ⊥

-- a datagram that is sent has the venue's messages; what is put begins what waits there; a call of
-- `next` or `take` has room for the longest datagram; it comes while the turn's group of them is
-- open, which ends with its first Quiet or End, or with the 100th call; and no end is asked that
-- got End or was cut
abbrev pub MayCall : Setting → Call → Scene → Type 0
MayCall s (Send line datagram answer) now = IsDuePiece s now.turn datagram
MayCall s (Next line room bytes answer) now =
    (room ≡ call_room) × (is_group_open (line_in line now).answers ≡ true)
MayCall s (Take at room bytes answer) now =
    (room ≡ call_room) × (is_group_open (at_end at now).answers ≡ true) × (is_done at now ≡ false)
MayCall s (Put at piece answer) now = (later : List ℕ) × (waits_at at now.world ≡ piece ++ later)
MayCall s (Begin answer) now = Unit {0}

-- the turn's group of calls at an end is over, or the end is asked no more
abbrev pub IsEndOver : LinkEnd → Scene → Type 0
IsEndOver at now = is_group_open (at_end at now).answers ≡ true → is_done at now ≡ true

-- a turn is over: on each line and at each end its group of calls is, what it brings was sent, and
-- its tick came; nothing waits to be put, and on the gap line went what the proxy had for it
pub record IsOver (s : Setting) (now : Scene) : Type 0 where
  pub lines : (line : Line) → is_group_open (line_in line now).answers ≡ false
  pub ends : (at : LinkEnd) → IsEndOver at now
  pub on_a : now.a.sent ≡ due s A now.turn
  pub on_b : now.b.sent ≡ due s B now.turn
  pub ticked : now.world.venue.spent.now ≡ ticks now.turn
  pub put : (at : LinkEnd) → waits_at at now.world ≡ []
  pub replayed : now.gap.sent ≡ now.world.replayed

-- the client's status
abbrev pub client_status : Scene → Status
client_status now = status_of hold_limit now.world.client.heard

-- no run goes on after a turn above the count at whose end all is current
abbrev pub MayGoOn : Setting → Scene → Type 0
MayGoOn s now = s.count < now.turn → client_status now ≡ Current s.count → ⊥

abbrev pub MayCome : Setting → Step → Scene → Type 0
MayCome s (Did call) now = GoesWell call × MayCall s call now
MayCome s (Beat heartbeat answer) now =
    (NetDoneFailed answer → ⊥)
    × (heartbeat ≡ beat s now.turn)
    × (is_tenth now.turn ≡ true)
    × IsDuePiece s now.turn heartbeat
MayCome s Turn now = IsOver s now × MayGoOn s now

-- each step may come after those before it
abbrev pub AreSteps : Setting → List Step → Type 0
AreSteps s [] = Unit {0}
AreSteps s (step ∷ before) = MayCome s step (scene_of s before) × AreSteps s before
