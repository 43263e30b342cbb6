-- What the steps of a run do.
use Rattle.std.specs.Prelude.{ℕ, suc, Bool, ◌||◌, ◌&&◌, nat_lt, List, [], ◌∷◌, ◌++◌, length}
use Rattle.std.specs.Prelude.{take, if◌then◌else◌}
use Rattle.std.specs.List.{list_all}
use Rattle.pitch_io.specs.declared.line.Line.{Line}
use Rattle.pitch_io.specs.declared.line.Line.TheVariants.{B}
use Rattle.pitch_io.specs.declared.sink.Put.{Put as PutAnswer}
use Rattle.pitch_io.specs.declared.sink.Put.TheVariants as puts
use Rattle.pitch_io.specs.declared.net.LinkEnd.{LinkEnd}
use Rattle.pitch_io.specs.declared.net.NetTaken.{NetTaken}
use Rattle.pitch_io.specs.declared.net.NetTaken.TheVariants as taken
use Rattle.pitch_io.specs.Nets.{Call, Begin, Send, Next, Put, Take}
use Rattle.pitch_text.specs.declared.verb.Session.{Session}
use Rattle.pitch_text.specs.declared.verb.Session.TheVariants.{Grp, Spin}
use Rattle.pitch_text.specs.declared.verb.Verb.TheVariants as verbs
use Rattle.unit_packets.specs.Cutting.{blocks_of}
use Rattle.sending_end.specs.Waiting.{of_unit}
use Rattle.world_model.specs.Ends.{default_limits, server_took, server_put}
use Rattle.world_model.specs.State.{State, up_taken}
use Rattle.world_model.specs.Verbs.{hears, venue_has, server_fed, sent_whole, link_fed, ends}
use Rattle.net_edge.specs.Due.{Setting, demo_unit}
use Rattle.net_edge.specs.Scene.{Scene, OnLine, AtEnd, line_in, with_line, at_end, with_end, is_got}
use Rattle.net_edge.specs.Scene.{got_end, first_scene, done_with, published, session_at, is_client}
use Rattle.net_edge.specs.Steps.{Step, Did, Beat, Turn}

-- the world becomes another
abbrev pub in_world : (State → State) → Scene → Scene
in_world becomes now = record now { world = becomes now.world }

-- ---- Lines
abbrev pub sent_on : Line → List (List ℕ) → Scene → Scene
sent_on line datagrams now =
    with_line line (record (line_in line now) { sent = (line_in line now).sent ++ datagrams }) now

-- what came on a line, as a list of one or none
abbrev pub came_by : NetTaken → List ℕ → List (List ℕ)
came_by (taken.Got count) bytes = bytes ∷ []
came_by answer bytes = []

abbrev pub answered_on : Line → List ℕ → NetTaken → Scene → OnLine
answered_on line bytes answer now =
    record (line_in line now) {
      came = (line_in line now).came ++ came_by answer bytes;
      answers = answer ∷ (line_in line now).answers;
    }

-- the client hears the blocks of what came that are of the demo's unit, and passes over others
abbrev pub heard_by : Line → List ℕ → NetTaken → State → State
heard_by line bytes (taken.Got count) w =
    hears demo_unit default_limits line (of_unit demo_unit (blocks_of bytes)) w
heard_by line bytes answer w = w

abbrev pub heard_on : Line → List ℕ → NetTaken → Scene → Scene
heard_on line bytes answer now = in_world (heard_by line bytes answer)
    (with_line line (answered_on line bytes answer now) now)

-- ---- What is put
-- the bytes that a put has written
abbrev pub bytes_put : PutAnswer → List ℕ → List ℕ
bytes_put (puts.Wrote count) piece = take count piece
bytes_put puts.Failed piece = []

-- so many of the bytes that wait at an end were put
abbrev pub put_at : LinkEnd → ℕ → State → State
put_at at count w =
    if is_client at then up_taken (session_at at) count w
    else venue_has demo_unit default_limits (server_put (session_at at) count) w

abbrev pub end_puts : LinkEnd → List ℕ → Scene → Scene
end_puts at bytes now = in_world (put_at at (length bytes))
    (with_end at (record (at_end at now) { put = (at_end at now).put ++ bytes }) now)

-- ---- What is taken
-- the bytes that came
abbrev pub bytes_by : NetTaken → List ℕ → List ℕ
bytes_by (taken.Got count) bytes = bytes
bytes_by answer bytes = []

abbrev pub end_took : List ℕ → NetTaken → AtEnd → AtEnd
end_took bytes answer end =
    record end {
      came = end.came ++ bytes_by answer bytes;
      answers = answer ∷ end.answers;
      ended = got_end answer || end.ended;
    }

-- further calls come in this turn: there were fewer than 100, and each got something
abbrev pub is_group_open : List NetTaken → Bool
is_group_open answers = nat_lt (length answers) 100 && list_all is_got answers

-- what came to a server is fed
abbrev pub server_answers : Session → List ℕ → NetTaken → State → State
server_answers Grp bytes (taken.Got count) w = server_fed demo_unit default_limits Grp bytes w
server_answers Spin bytes (taken.Got count) w =
    venue_has demo_unit default_limits (server_took Spin bytes) w
server_answers session bytes answer w = w

-- and where the turn's calls of `take` are over, a Spin Server sends a running image to its end
abbrev pub server_takes : Session → List ℕ → NetTaken → Bool → State → State
server_takes Grp bytes answer goes_on w = server_answers Grp bytes answer w
server_takes Spin bytes answer goes_on w =
    if goes_on then server_answers Spin bytes answer w
    else sent_whole demo_unit default_limits (server_answers Spin bytes answer w)

-- what came to a link is fed, and the client hears what it tells; at End the connection ends
abbrev pub link_takes : Session → List ℕ → NetTaken → State → State
link_takes session bytes (taken.Got count) w = link_fed demo_unit default_limits session bytes w
link_takes session bytes taken.End w = ends demo_unit default_limits session w
link_takes session bytes answer w = w

-- what a call of `take` brings to an end of a world, behind which further calls come or none
abbrev pub takes : LinkEnd → List ℕ → NetTaken → Bool → State → State
takes at bytes answer goes_on w =
    if is_client at then link_takes (session_at at) bytes answer w
    else server_takes (session_at at) bytes answer goes_on w

abbrev pub taken_at : LinkEnd → List ℕ → NetTaken → Scene → Scene
taken_at at bytes answer now =
    let end = end_took bytes answer (at_end at now) in
    in_world (takes at bytes answer (is_group_open end.answers)) (with_end at end now)

-- ---- A tick
-- the image of all that was accepted is advertised, and a second passes
abbrev pub all_tick : State → State
all_tick w = done_with verbs.Tick (done_with verbs.Advertise w)

-- ---- Turns
abbrev pub unanswered : OnLine → OnLine
unanswered line = record line { answers = [] }

abbrev pub unasked : AtEnd → AtEnd
unasked end = record end { answers = [] }

-- the next turn begins, in which nothing was called yet
abbrev pub next_turn : Setting → Scene → Scene
next_turn s now = record now {
  turn = suc now.turn;
  a = unanswered now.a;
  b = unanswered now.b;
  gap = unanswered now.gap;
  grp_client = unasked now.grp_client;
  grp_server = unasked now.grp_server;
  spin_client = unasked now.spin_client;
  spin_server = unasked now.spin_server;
  world = published s (suc now.turn) now.world;
}

-- ---- All steps
abbrev pub called : Call → Scene → Scene
called (Begin answer) now = now
called (Send line datagram answer) now = sent_on line (datagram ∷ []) now
called (Next line room bytes answer) now = heard_on line bytes answer now
called (Put at piece answer) now = end_puts at (bytes_put answer piece) now
called (Take at room bytes answer) now = taken_at at bytes answer now

abbrev pub scene_after : Setting → Step → Scene → Scene
scene_after s (Did call) now = called call now
scene_after s (Beat heartbeat answer) now = in_world all_tick (sent_on B (heartbeat ∷ []) now)
scene_after s Turn now = next_turn s now

-- what stands after a run
abbrev pub scene_of : Setting → List Step → Scene
scene_of s [] = first_scene s
scene_of s (step ∷ before) = scene_after s step (scene_of s before)
