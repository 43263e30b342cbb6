use Rattle.std.proofs.Common.{Option, sym, subst}
use Rattle.std.specs.Option.{IsSomeAnd}
use Rattle.unit_clients.specs.Clients.{Units}
use Rattle.pitch_c.specs.Clients.{TellOrder}
use Rattle.pitch_c.proofs.pitch_c_order.Goals as goal

pub returns-clause-order : goal.returns-clause-order
returns-clause-order c zero =
    subst (λ (u : Option Units). IsSomeAnd u (λ units. TellOrder units c.args.unit c.args.id c.tell_order-code.new.told)) (sym c.in-Some.ensures.taken)
    (subst (λ (units : Units). TellOrder units c.args.unit c.args.id c.tell_order-code.new.told) c.deref.ensures (c.tell_order-code.ensures.order zero))
