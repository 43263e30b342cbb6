use Rattle.std.proofs.Common.{ℕ, List, ◌++◌, refl, ap, ◌∙◌}
use Rattle.client_end.specs.Came.{GrpMade, end_after, to_proxy}
use Rattle.sending_end.specs.declared.end.SendingEnd.{SendingEnd}
use Rattle.sending_end.proofs.Passing.{Before, Settled, passes_so, nothing_more}
use Rattle.sending_end.proofs.end.SendingEnd.connect_proxy.Goals as goal

pub returns-clause-passes : goal.returns-clause-passes
returns-clause-passes c =
    let e : SendingEnd = c.args.self.now in
    let m : SendingEnd = record e { end = c.connect_grp.new.self; grp_said = c.connect_grp.new.said } in
    let so : Before e m GrpMade = record {
      unit = refl;
      comes = c.in_ok-connect_grp.ensures.stands;
      proxy = λ s before is. c.in_ok-connect_grp.ensures.says s before is ∙ ap (λ (l : List ℕ). l ++ to_proxy s GrpMade (end_after s before)) c.new-said.ensures.items;
      spin_server = λ s before is. nothing_more _;
    } in
    let settled : Settled m c.settle.new.self = record { unit = c.settle.ensures.unit; end = c.settle.ensures.end; proxy = c.settle.ensures.proxy; spin_server = c.settle.ensures.spin_server } in
    passes_so e m c.settle.new.self GrpMade so settled
