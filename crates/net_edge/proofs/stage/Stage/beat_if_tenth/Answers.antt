use Rattle.std.proofs.Common.{[], ◌∷◌}
use Rattle.std.proofs.lemmas.Result.{IfErr-weaker, on_ok_weaker}
use Rattle.pitch_io.specs.declared.line.Line.TheVariants.{A}
use Rattle.pitch_io.specs.declared.net.NetDone.TheVariants.{Failed}
use Rattle.pitch_io.specs.Nets.{Send}
use Rattle.pitch_model.proofs.Results.{at_exit}
use Rattle.net_edge.specs.Acting.{sent_on}
use Rattle.net_edge.proofs.Beating.{beaten, heartbeat_piece, passed_plays, passed_stage}
use Rattle.net_edge.proofs.Breaking.{breaks_by, breaks_here}
use Rattle.net_edge.proofs.stage.Stage.beat_if_tenth.Goals as goal

pub returns-clause-beaten : goal.returns-clause-beaten
returns-clause-beaten g c = on_ok_weaker c.put_all.result (λ puts s base now at turn_is.
    beaten g.V.Venue.is s base _ c.args.self.now now c.heartbeat-heartbeat.result at c.heartbeat-heartbeat.ensures c.args.turn turn_is c.if-turn-ne0.false _ _ (c.in_ok-send.ensures.sent s base now) c.in-Done.ensures.calls c.tick.new.self c.in_ok-tick.ensures
    _ c.put_all.new.self (puts s base _)) c.put_all.ensures.put

pub returns-clause-broke : goal.returns-clause-broke
returns-clause-broke g c = IfErr-weaker c.put_all.result _ _ (λ error broke s base now at turn_is.
    broke s base _ (passed_stage g.V.Venue.is s base _ c.args.self.now now c.heartbeat-heartbeat.result at c.heartbeat-heartbeat.ensures c.args.turn turn_is c.if-turn-ne0.false _ _ (c.in_ok-send.ensures.sent s base now) c.in-Done.ensures.calls c.tick.new.self c.in_ok-tick.ensures)) c.put_all.ensures.broke

pub returns-in_err-send-clause-broke : goal.returns-in_err-send-clause-broke
returns-in_err-send-clause-broke g c = at_exit _ c.from_residual.result _ c.from_residual.ensures
    (λ s base now at turn_is. c.in_err-send.ensures.broke s base now at.at.plays (heartbeat_piece g.V.Venue.is s base _ c.args.self.now now c.heartbeat-heartbeat.result at c.heartbeat-heartbeat.ensures))

pub returns-in-Failed-clause-broke : goal.returns-in-Failed-clause-broke
returns-in-Failed-clause-broke g c = λ s base now at turn_is.
    let piece = heartbeat_piece g.V.Venue.is s base _ c.args.self.now now c.heartbeat-heartbeat.result at c.heartbeat-heartbeat.ensures in
    let said = c.heartbeat-heartbeat.result in
    breaks_by s base _ _ (sent_on A (said ∷ []) now) (Send _ said Failed) c.in-Failed.ensures.calls tt piece (c.in_ok-send.ensures.sent s base now at.at.plays piece)

pub returns-in_err-tick-clause-broke : goal.returns-in_err-tick-clause-broke
returns-in_err-tick-clause-broke g c = at_exit _ c.from_residual-in_err-tick.result _ c.from_residual-in_err-tick.ensures (λ s base now at turn_is.
    breaks_here s base _ _ (passed_plays g.V.Venue.is s base _ c.args.self.now now c.heartbeat-heartbeat.result at c.heartbeat-heartbeat.ensures c.args.turn turn_is c.if-turn-ne0.false _ _ (c.in_ok-send.ensures.sent s base now) c.in-Done.ensures.calls))
