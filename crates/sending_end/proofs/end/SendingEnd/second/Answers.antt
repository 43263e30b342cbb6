use Rattle.std.proofs.Common.{refl}
use Rattle.client_end.specs.Came.{Second}
use Rattle.sending_end.specs.declared.end.SendingEnd.{SendingEnd}
use Rattle.sending_end.proofs.Passing.{Before, Settled, passes_so}
use Rattle.sending_end.proofs.end.SendingEnd.second.Goals as goal

pub returns-in-Ok-clause-passes : goal.returns-in-Ok-clause-passes
returns-in-Ok-clause-passes c =
    let e : SendingEnd = c.args.self.now in
    let m : SendingEnd = record e { end = c.second.new.self; grp_said = c.second.new.grp_said; spin_said = c.second.new.spin_said } in
    let so : Before e m Second = record {
      unit = refl;
      comes = c.in-Ok.ensures.stands;
      proxy = c.in-Ok.ensures.says_grp;
      spin_server = c.in-Ok.ensures.says_spin;
    } in
    let settled : Settled m c.settle.new.self = record { unit = c.settle.ensures.unit; end = c.settle.ensures.end; proxy = c.settle.ensures.proxy; spin_server = c.settle.ensures.spin_server } in
    passes_so e m c.settle.new.self Second so settled

pub returns-in-Ok-clause-ask : goal.returns-in-Ok-clause-ask
returns-in-Ok-clause-ask c = λ s before is. c.in-Ok.ensures.ask s before is.end_is
