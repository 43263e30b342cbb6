-- What stands at a moment of a run: a world, and the calls of the net that carries its bytes.
use Rattle.std.specs.Prelude.{ℕ, Bool, false, true, ◌||◌, not, List, [], nat_le, if◌then◌else◌}
use Rattle.pitch_io.specs.declared.line.Line.{Line}
use Rattle.pitch_io.specs.declared.line.Line.TheVariants.{A, B, Gap}
use Rattle.pitch_io.specs.declared.net.LinkEnd.{LinkEnd}
use Rattle.pitch_io.specs.declared.net.LinkEnd.TheVariants.{GrpClient, GrpServer, SpinClient}
use Rattle.pitch_io.specs.declared.net.LinkEnd.TheVariants.{SpinServer}
use Rattle.pitch_io.specs.declared.net.NetTaken.{NetTaken}
use Rattle.pitch_io.specs.declared.net.NetTaken.TheVariants.{Got, End}
use Rattle.pitch_text.specs.declared.verb.Session.{Session}
use Rattle.pitch_text.specs.declared.verb.Session.TheVariants.{Grp, Spin}
use Rattle.pitch_text.specs.declared.verb.Verb.{Verb}
use Rattle.pitch_text.specs.declared.verb.Verb.TheVariants as verbs
use Rattle.venue_core.specs.Plan.{plan_command}
use Rattle.world_model.specs.Ends.{default_limits, server_waits, stands}
use Rattle.world_model.specs.State.{State, start, up_waits}
use Rattle.world_model.specs.Verbs.{does, opened}
use Rattle.net_edge.specs.Due.{Setting, demo_unit}

-- a line: the datagrams that were sent on it and those that came, in their order, and the answers
-- of this turn's calls of `next`, the newest first
pub record OnLine : Type 0 where
  pub sent : List (List ℕ)
  pub came : List (List ℕ)
  pub answers : List NetTaken

-- an end: the bytes that were put at it and those that came to it, joined; the answers of this
-- turn's calls of `take`, the newest first; and whether it got End
pub record AtEnd : Type 0 where
  pub put : List ℕ
  pub came : List ℕ
  pub answers : List NetTaken
  pub ended : Bool

pub record Scene : Type 0 where
  -- the turn, which counts from 1
  pub turn : ℕ
  -- the three lines and the four ends
  pub a : OnLine
  pub b : OnLine
  pub gap : OnLine
  pub grp_client : AtEnd
  pub grp_server : AtEnd
  pub spin_client : AtEnd
  pub spin_server : AtEnd
  -- the venue's end and the client's, and what waits to be put
  pub world : State

-- ---- The start
-- the world does what a verb of a schedule does
abbrev pub done_with : Verb → State → State
done_with verb w = (does demo_unit default_limits verb w).state

-- in a turn one message of the plan is accepted, until all are, and is sent
abbrev pub published : Setting → ℕ → State → State
published s turn w =
    if nat_le turn s.count
    then done_with verbs.Flush
    (done_with (verbs.Command (plan_command s.number demo_unit turn)) w)
    else w

-- both connections are open, and nothing was put
abbrev pub connected : State
connected = opened demo_unit default_limits Spin (opened demo_unit default_limits Grp start)

abbrev pub quiet_line : OnLine
quiet_line = record { sent = []; came = []; answers = [] }

abbrev pub quiet_end : AtEnd
quiet_end = record { put = []; came = []; answers = []; ended = false }

abbrev pub first_scene : Setting → Scene
first_scene s = record {
  turn = 1;
  a = quiet_line;
  b = quiet_line;
  gap = quiet_line;
  grp_client = quiet_end;
  grp_server = quiet_end;
  spin_client = quiet_end;
  spin_server = quiet_end;
  world = published s 1 connected;
}

-- ---- Its parts
abbrev pub line_in : Line → Scene → OnLine
line_in A now = now.a
line_in B now = now.b
line_in Gap now = now.gap

abbrev pub with_line : Line → OnLine → Scene → Scene
with_line A line now = record now { a = line }
with_line B line now = record now { b = line }
with_line Gap line now = record now { gap = line }

abbrev pub at_end : LinkEnd → Scene → AtEnd
at_end GrpClient now = now.grp_client
at_end GrpServer now = now.grp_server
at_end SpinClient now = now.spin_client
at_end SpinServer now = now.spin_server

abbrev pub with_end : LinkEnd → AtEnd → Scene → Scene
with_end GrpClient end now = record now { grp_client = end }
with_end GrpServer end now = record now { grp_server = end }
with_end SpinClient end now = record now { spin_client = end }
with_end SpinServer end now = record now { spin_server = end }

-- the session of an end, and whether it is the client's end of it
abbrev pub session_at : LinkEnd → Session
session_at GrpClient = Grp
session_at GrpServer = Grp
session_at SpinClient = Spin
session_at SpinServer = Spin

abbrev pub is_client : LinkEnd → Bool
is_client GrpClient = true
is_client GrpServer = false
is_client SpinClient = true
is_client SpinServer = false

-- what an end of a world said that was not put yet
abbrev pub waits_at : LinkEnd → State → List ℕ
waits_at at w =
    if is_client at then up_waits (session_at at) w else server_waits (session_at at) w.venue

-- its connection was cut
abbrev pub is_cut : LinkEnd → State → Bool
is_cut at w = not (stands (session_at at) w.client)

-- ---- Answers
abbrev pub is_got : NetTaken → Bool
is_got (Got count) = true
is_got answer = false

abbrev pub got_end : NetTaken → Bool
got_end End = true
got_end answer = false

-- it is asked no more: it got End, or its connection was cut
abbrev pub is_done : LinkEnd → Scene → Bool
is_done at now = (at_end at now).ended || is_cut at now.world
