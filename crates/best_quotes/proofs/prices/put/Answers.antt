use Rattle.std.proofs.Common.{◌+◌, ◌-◌, arith}
use Rattle.std.specs.Prelude.{unwrap_or}
use Rattle.std.specs.Ordering.{nat_cmp}
use Rattle.std.specs.BTreeMap.{get}
use Rattle.best_quotes.proofs.Pricing.{puts}
use Rattle.best_quotes.proofs.prices.put.Goals as goal

pub returns : goal.returns
returns c =
    let order = c.args.order.now in
    puts c.args.prices.now c.change.new.prices order ((unwrap_or (get nat_cmp c.args.prices.now order.price) 0 - 0) + order.quantity) c.in_ok-change.ensures (omega arith)
