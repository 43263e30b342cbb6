use Rattle.std.proofs.Common.{ℕ, List, ◌++◌, refl, ap, ◌∙◌}
use Rattle.client_end.specs.Came.{SpinMade, end_after, to_spin_server}
use Rattle.sending_end.specs.declared.end.SendingEnd.{SendingEnd}
use Rattle.sending_end.proofs.Passing.{Before, Settled, passes_so, nothing_more}
use Rattle.sending_end.proofs.end.SendingEnd.connect_spin_server.Goals as goal

pub returns-clause-passes : goal.returns-clause-passes
returns-clause-passes c =
    let e : SendingEnd = c.args.self.now in
    let m : SendingEnd = record e { end = c.connect_spin.new.self; spin_said = c.connect_spin.new.said } in
    let so : Before e m SpinMade = record {
      unit = refl;
      comes = c.in_ok-connect_spin.ensures.stands;
      proxy = λ s before is. nothing_more _;
      spin_server = λ s before is. c.in_ok-connect_spin.ensures.says s before is ∙ ap (λ (l : List ℕ). l ++ to_spin_server s SpinMade (end_after s before)) c.new-said.ensures.items;
    } in
    let settled : Settled m c.settle.new.self = record { unit = c.settle.ensures.unit; end = c.settle.ensures.end; proxy = c.settle.ensures.proxy; spin_server = c.settle.ensures.spin_server } in
    passes_so e m c.settle.new.self SpinMade so settled
