use Rattle.std.proofs.Common.{take}
use Rattle.std.proofs.lemmas.Result.{on_ok_weaker}
use Rattle.pitch_io.specs.layers.Coming.{came}
use Rattle.unit_packets.specs.Packing.{bytes_in}
use Rattle.world_model.specs.State.{State}
use Rattle.net_edge.specs.Acting.{server_answers}
use Rattle.net_edge.specs.layers.Ends.{Becomes, Holds, Replays}
use Rattle.net_edge.proofs.Staging.{fed_becomes, fed_replays, nothing_becomes, nothing_replays, serve_replays, serves_whole}
use Rattle.net_edge.proofs.stage.Stage.serve.Goals as goal
use Rattle.net_edge.proofs.stage.Stage.serve.Goals.{in-Got+in_ok-take, in_default}

pub returns-else-goes_on-clause-becomes : goal.returns-else-goes_on-clause-becomes
returns-else-goes_on-clause-becomes g c =
    let is = g.V.Venue.is in
    let session = c.args.session in
    let into = c.args.into.now in
    let first : Becomes is c.args.self.now c.match-taken.self (server_answers session (came c.args.taken into) c.args.taken) = elim c.match-taken.branch [
      | in-Got+in_ok-take w ↦ rw (w.self-is, w.in-Got.is) (fed_becomes is session (take w.in-Got.count into) w.in-Got.count c.args.self.now w.take.new.self w.in_ok-take.ensures.comes)
      | in_default w ↦ rw w.self-is (nothing_becomes is session into c.args.taken c.args.self.now w.in_default.not-Got)
    ] in
    on_ok_weaker c.send_whole.result (λ whole. serves_whole is session (came c.args.taken into) c.args.taken c.args.goes_on c.args.self.now c.match-taken.self c.send_whole.new.self c.in-Spin.is c.if-goes_on.false first whole) c.send_whole.ensures

pub returns-else-goes_on-clause-replays : goal.returns-else-goes_on-clause-replays
returns-else-goes_on-clause-replays g c =
    let session = c.args.session in
    let into = c.args.into.now in
    let lines = bytes_in c.args.gap_line.now.items in
    let first : (w : State) → Holds g.V.Venue.is c.args.self.now w → Replays w (server_answers session (came c.args.taken into) c.args.taken w) lines (bytes_in c.match-taken.gap_line.items) = λ w h. elim c.match-taken.branch [
      | in-Got+in_ok-take x ↦ rw (x.gap_line-is, x.in-Got.is) (fed_replays session (take x.in-Got.count into) x.in-Got.count w lines (bytes_in x.take.new.gap_line.items) (x.in_ok-take.ensures.lines w.venue h.venue))
      | in_default x ↦ rw x.gap_line-is (nothing_replays session into c.args.taken w lines x.in_default.not-Got)
    ] in
    on_ok_weaker c.send_whole.result (λ whole w h. serve_replays session (came c.args.taken into) c.args.taken c.args.goes_on w lines (bytes_in c.match-taken.gap_line.items) c.in-Spin.is c.if-goes_on.false (first w h)) c.send_whole.ensures
