use Rattle.std.proofs.Common.{refl}
use Rattle.std.proofs.lemmas.Result.{on_ok_weaker, on_err_weaker}
use Rattle.sending_end.specs.declared.end.SendingEnd.{SendingEnd}
use Rattle.client_end.specs.Came.{SpinTook, SpinLost}
use Rattle.sending_end.proofs.Passing.{Settled, passes_so, nothing_more}
use Rattle.sending_end.proofs.end.SendingEnd.take_from_spin_server.Goals as goal

pub returns-clause-passes : goal.returns-clause-passes
returns-clause-passes c =
    let e : SendingEnd = c.args.self.now in
    let m : SendingEnd = record e { end = c.take_spin-taken.new.self } in
    let settled : Settled m c.settle.new.self = record { unit = c.settle.ensures.unit; end = c.settle.ensures.end; proxy = c.settle.ensures.proxy; spin_server = c.settle.ensures.spin_server } in
    on_ok_weaker c.take_spin-taken.result (λ comes. passes_so e m c.settle.new.self (SpinTook c.args.piece.now) (record {
      unit = refl;
      comes = comes;
      proxy = λ s before is. nothing_more _;
      spin_server = λ s before is. nothing_more _;
    }) settled) c.take_spin-taken.ensures.stands

pub returns-clause-err : goal.returns-clause-err
returns-clause-err c =
    let e : SendingEnd = c.args.self.now in
    let m : SendingEnd = record e { end = c.take_spin-taken.new.self } in
    let settled : Settled m c.settle.new.self = record { unit = c.settle.ensures.unit; end = c.settle.ensures.end; proxy = c.settle.ensures.proxy; spin_server = c.settle.ensures.spin_server } in
    on_err_weaker c.take_spin-taken.result (λ first. (
      first.0,
      passes_so e m c.settle.new.self (SpinLost c.args.piece.now first.0) (record {
        unit = refl;
        comes = first.1;
        proxy = λ s before is. nothing_more _;
        spin_server = λ s before is. nothing_more _;
      }) settled,
    )) c.take_spin-taken.ensures.err
