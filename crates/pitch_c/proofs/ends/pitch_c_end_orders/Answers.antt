use Rattle.std.proofs.Common.{Option, sym, subst}
use Rattle.std.specs.Option.{IsSomeAnd}
use Rattle.sending_end.specs.declared.end.SendingEnd.{SendingEnd}
use Rattle.pitch_c.specs.Ends.{TellEndOrders, HasEndOrders}
use Rattle.pitch_c.proofs.ends.pitch_c_end_orders.Goals as goal

pub returns-clause-orders : goal.returns-clause-orders
returns-clause-orders c zero =
    let told = c.tell_orders-code.new.told in
    let number = c.tell_orders-code.new.number in
    subst (λ (o : Option SendingEnd). IsSomeAnd o (λ e. TellEndOrders e c.args.told.now told number)) (sym c.in-Some.ensures.taken)
    (subst (λ (e : SendingEnd). TellEndOrders e c.args.told.now told number) c.deref.ensures (c.tell_orders-code.ensures.orders zero))

pub returns-clause-memory : goal.returns-clause-memory
returns-clause-memory c want =
    subst (λ (o : Option SendingEnd). IsSomeAnd o (λ e. HasEndOrders e c.args.told.now)) (sym c.in-Some.ensures.taken)
    (subst (λ (e : SendingEnd). HasEndOrders e c.args.told.now) c.deref.ensures (c.tell_orders-code.ensures.memory want))
