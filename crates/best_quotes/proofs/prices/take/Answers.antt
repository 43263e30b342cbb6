use Rattle.std.proofs.Common.{◌+◌, ◌-◌, arith}
use Rattle.std.specs.Prelude.{unwrap_or}
use Rattle.std.specs.Ordering.{nat_cmp}
use Rattle.std.specs.BTreeMap.{get}
use Rattle.best_quotes.proofs.Pricing.{takes}
use Rattle.best_quotes.proofs.prices.take.Goals as goal

pub returns : goal.returns
returns c =
    let order = c.args.order.now in
    takes c.args.prices.now c.change.new.prices order ((unwrap_or (get nat_cmp c.args.prices.now order.price) 0 - order.quantity) + 0) c.in_ok-change.ensures (omega arith)
