use Rattle.std.proofs.Common.{Option, sym, subst}
use Rattle.std.specs.Option.{IsSomeAnd}
use Rattle.unit_clients.specs.Clients.{Units}
use Rattle.pitch_c.specs.Clients.{TellOrders, HasOrders}
use Rattle.pitch_c.proofs.pitch_c_orders.Goals as goal

pub returns-clause-orders : goal.returns-clause-orders
returns-clause-orders c zero =
    let told = c.tell_orders-code.new.told in
    let number = c.tell_orders-code.new.number in
    subst (λ (u : Option Units). IsSomeAnd u (λ units. TellOrders units c.args.unit c.args.told.now told number)) (sym c.in-Some.ensures.taken)
    (subst (λ (units : Units). TellOrders units c.args.unit c.args.told.now told number) c.deref.ensures (c.tell_orders-code.ensures.orders zero))

pub returns-clause-memory : goal.returns-clause-memory
returns-clause-memory c want =
    subst (λ (u : Option Units). IsSomeAnd u (λ units. HasOrders units c.args.unit c.args.told.now)) (sym c.in-Some.ensures.taken)
    (subst (λ (units : Units). HasOrders units c.args.unit c.args.told.now) c.deref.ensures (c.tell_orders-code.ensures.memory want))
