use Rattle.std.proofs.Common.{refl}
use Rattle.client_end.specs.Came.{SpinCut}
use Rattle.sending_end.specs.declared.end.SendingEnd.{SendingEnd}
use Rattle.sending_end.proofs.Passing.{Before, Settled, passes_so, nothing_more}
use Rattle.sending_end.proofs.end.SendingEnd.cut_spin_server.Goals as goal

pub returns : goal.returns
returns c =
    let e : SendingEnd = c.args.self.now in
    let m : SendingEnd = record e { end = c.cut_spin.new.self } in
    let so : Before e m SpinCut = record {
      unit = refl;
      comes = c.cut_spin.ensures.stands;
      proxy = λ s before is. nothing_more _;
      spin_server = λ s before is. nothing_more _;
    } in
    let settled : Settled m c.settle.new.self = record { unit = c.settle.ensures.unit; end = c.settle.ensures.end; proxy = c.settle.ensures.proxy; spin_server = c.settle.ensures.spin_server } in
    passes_so e m c.settle.new.self SpinCut so settled
