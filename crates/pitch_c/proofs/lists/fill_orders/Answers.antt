use Rattle.std.proofs.Common.{◌<◌, List, length, Some, refl, arith}
use Rattle.std.proofs.lemmas.Option.{slice_get_read}
use Rattle.pitch_messages.specs.declared.order.Order.{Order}
use Rattle.pitch_c.specs.Reports.{order_shown}
use Rattle.pitch_c.proofs.Filling.{fills_more}
use Rattle.pitch_c.proofs.lists.fill_orders.Goals as goal

pub orders-preserved : goal.orders-preserved
orders-preserved c =
    let all : List Order = c.args.orders.now in
    let test = c.orders-test.true in
    let fits = c.fitting-count.ensures.within in
    let within : c.orders.at < length all = omega (arith, test, fits.0) in
    let room : c.orders.at < length c.args.told.now = omega (arith, test, fits.1) in
    fills_more (λ (order : Order). order_shown (Some order)) all c.args.told.now c.orders.told c.orders.at c.index-orders-at.result c.order_out.result c.orders.invariant
    (slice_get_read all (length all) c.orders.at c.index-orders-at.result refl within c.index-orders-at.is) c.order_out.ensures room
