use Rattle.std.proofs.Common.{List}
use Rattle.pitch_io.specs.Nets.{Call}
use Rattle.pitch_model.proofs.Results.{at_exit}
use Rattle.net_edge.specs.Due.{Setting, setting}
use Rattle.net_edge.specs.layers.Playing.{calls_before}
use Rattle.net_edge.proofs.Breaking.{breaks_here}
use Rattle.net_edge.proofs.Ending.{demo_is}
use Rattle.net_edge.proofs.Sending.{broke_demo}
use Rattle.net_edge.proofs.running.play.Goals as goal

pub returns-clause-played : goal.returns-clause-played
returns-clause-played g c =
    let s : Setting = setting c.args.number c.args.count in
    let base : List Call = calls_before (g.N.Net.calls c.args.net.now) in
    let begins = c.in_ok-log_in.ensures.begins s c.requires.many.1 c.requires.holds c.requires.ended in
    let r = c.in_ok-run.ensures.ran base begins.0 begins.1 in
    let holds = r.at.at.holds in
    let line = c.in_ok-append_end.ensures.line r.now.world holds in
    demo_is s (g.N.Net.calls c.args.net.now) (g.N.Net.calls c.run.new.net) c.args.out.now.items c.append_end.new.out.items r.now line.0 line.1 c.requires.many.1 r.at.at.plays r.over r.last (c.accepted_are_messages.ensures r.now.world holds) line.2 line.3

pub returns-in_err-log_in-clause-broke : goal.returns-in_err-log_in-clause-broke
returns-in_err-log_in-clause-broke g c = at_exit _ c.from_residual.result _ c.from_residual.ensures (c.in_err-log_in.ensures.broke (setting c.args.number c.args.count) c.requires.holds)

pub returns-in_err-run-clause-broke : goal.returns-in_err-run-clause-broke
returns-in_err-run-clause-broke g c = at_exit _ c.from_residual-in_err-run.result _ c.from_residual-in_err-run.ensures
    (let s : Setting = setting c.args.number c.args.count in
    let base : List Call = calls_before (g.N.Net.calls c.args.net.now) in
    let begins = c.in_ok-log_in.ensures.begins s c.requires.many.1 c.requires.holds c.requires.ended in
    broke_demo s (g.N.Net.calls c.args.net.now) _ _ (c.in_err-run.ensures.broke base begins.0 begins.1))

pub returns-in_err-append_end-clause-broke : goal.returns-in_err-append_end-clause-broke
returns-in_err-append_end-clause-broke g c = at_exit _ c.from_residual-in_err-append_end.result _ c.from_residual-in_err-append_end.ensures
    (let s : Setting = setting c.args.number c.args.count in
    let base : List Call = calls_before (g.N.Net.calls c.args.net.now) in
    let begins = c.in_ok-log_in.ensures.begins s c.requires.many.1 c.requires.holds c.requires.ended in
    let r = c.in_ok-run.ensures.ran base begins.0 begins.1 in
    broke_demo s (g.N.Net.calls c.args.net.now) _ _ (breaks_here s base _ r.now r.at.at.plays))
