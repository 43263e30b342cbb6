use Rattle.std.proofs.Common.{sym}
use Rattle.pitch_io.specs.declared.net.LinkEnd.TheVariants.{GrpClient, SpinClient}
use Rattle.pitch_model.proofs.Results.{at_exit}
use Rattle.net_edge.specs.Scene.{connected, first_scene}
use Rattle.net_edge.specs.layers.Playing.{all_put_at, calls_before}
use Rattle.net_edge.proofs.Emptying.{put_one}
use Rattle.net_edge.proofs.Sending.{broke_demo}
use Rattle.net_edge.proofs.Starting.{logs_in, plays_none, publishes}
use Rattle.net_edge.proofs.running.log_in.Goals as goal

pub returns-clause-begins : goal.returns-clause-begins
returns-clause-begins g c = λ s few holds ended.
    logs_in g.V.Venue.is s few _ _ _ _ c.args.stage.now c.put_waiting.new.self c.put_waiting-2.new.self c.in_ok-begin.ensures.begun c.in_ok-put_waiting.ensures.becomes c.in_ok-put_waiting-2.ensures.becomes
    c.in_ok-put_waiting.ensures.plays c.in_ok-put_waiting-2.ensures.plays holds ended

pub returns-in_err-put_waiting-clause-broke : goal.returns-in_err-put_waiting-clause-broke
returns-in_err-put_waiting-clause-broke g c = at_exit _ c.from_residual-in_err-put_waiting.result _ c.from_residual-in_err-put_waiting.ensures
    (λ s holds.
    let base = calls_before (g.N.Net.calls c.args.net.now) in
    broke_demo s (g.N.Net.calls c.args.net.now) (g.N.Net.calls c.put_waiting.new.net) c.in_err-put_waiting.field-0.0
    (c.in_err-put_waiting.ensures.broke s base (first_scene s) connected holds (sym ((publishes s 1 connected).waits GrpClient)) (plays_none s _ _ c.in_ok-begin.ensures.begun)))

pub returns-in_err-put_waiting-2-clause-broke : goal.returns-in_err-put_waiting-2-clause-broke
returns-in_err-put_waiting-2-clause-broke g c = at_exit _ c.from_residual-in_err-put_waiting-2.result _ c.from_residual-in_err-put_waiting-2.ensures
    (λ s holds.
    let base = calls_before (g.N.Net.calls c.args.net.now) in
    let second = c.in_ok-put_waiting.ensures.plays s base (first_scene s) connected holds (sym ((publishes s 1 connected).waits GrpClient)) (plays_none s _ _ c.in_ok-begin.ensures.begun) in
    broke_demo s (g.N.Net.calls c.args.net.now) (g.N.Net.calls c.put_waiting-2.new.net) c.in_err-put_waiting-2.field-0.0
    (c.in_err-put_waiting-2.ensures.broke s base (all_put_at GrpClient (first_scene s)) (put_one GrpClient connected) (c.in_ok-put_waiting.ensures.becomes.holds connected holds) (sym ((publishes s 1 connected).waits SpinClient)) second))
