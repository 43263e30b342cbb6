use Rattle.std.proofs.Common.{rules, ◌<◌, List, length, refl}
use Rattle.std.proofs.lemmas.Option.{slice_get_read}
use Rattle.pitch_messages.specs.declared.order.Order.{Order}
use Rattle.leveled_units.proofs.Laid.{one_more}
use Rattle.leveled_units.proofs.laying.lay_orders.Goals as goal

pub orders-preserved : goal.orders-preserved
orders-preserved c =
    let all : List Order = c.args.orders.now in
    let i = c.orders.order-index in
    let order : Order = c.order-item.result in
    let within : i < length all = search rules in
    one_more all i order c.orders.levels.entries c.put_order.new.levels.entries
    (slice_get_read all (length all) i order refl within c.order-item.is) c.in_ok-put_order.ensures c.orders.invariant
