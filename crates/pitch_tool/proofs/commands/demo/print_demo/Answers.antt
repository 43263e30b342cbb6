use Rattle.std.proofs.Common.{refl}
use Rattle.stream_print.specs.Told.{Told, told}
use Rattle.pitch_tool.specs.Devices.{Wires, wires}
use Rattle.pitch_tool.proofs.Demos.{broke_off, cut_off, writes_some_line}
use Rattle.pitch_tool.proofs.commands.demo.print_demo.Goals as goal

pub returns-in_err-put_all-clause-ends : goal.returns-in_err-put_all-clause-ends
returns-in_err-put_all-clause-ends g c =
    let out : Told = told g.O.Sink.written c.args.out.now c.put_all.new.out in
    let net : Wires = wires g.N.Net.calls g.N.Net.faults c.args.net.now c.demo.new.net in
    cut_off c.args.number c.args.count out net c.from_residual-in_err-put_all.result c.from_residual-in_err-put_all.ensures
    (writes_some_line c.args.number c.args.count out.old out.new net c.new-line.result.items c.demo.new.out.items c.deref.result.now c.new-line.ensures.items c.deref.ensures.value c.in_ok-demo.ensures.ran c.in_err-put_all.ensures.err)

pub returns-in_err-demo-clause-ends : goal.returns-in_err-demo-clause-ends
returns-in_err-demo-clause-ends g c =
    let out : Told = told g.O.Sink.written c.args.out.now c.args.out.now in
    let net : Wires = wires g.N.Net.calls g.N.Net.faults c.args.net.now c.demo.new.net in
    broke_off c.args.number c.args.count out net c.from_residual.result _ c.from_residual.ensures refl c.in_err-demo.ensures.broke
