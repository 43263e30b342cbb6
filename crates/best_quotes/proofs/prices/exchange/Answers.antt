use Rattle.std.proofs.Common.{◌+◌, ◌-◌, refl}
use Rattle.std.specs.Prelude.{unwrap_or}
use Rattle.std.specs.Ordering.{nat_cmp}
use Rattle.std.specs.BTreeMap.{get}
use Rattle.best_quotes.proofs.Pricing.{exchanges}
use Rattle.best_quotes.proofs.prices.exchange.Goals as goal

pub returns : goal.returns
returns c =
    let before = c.args.before.now in
    let now = c.args.now.now in
    exchanges c.args.prices.now c.change.new.prices before ((unwrap_or (get nat_cmp c.args.prices.now before.price) 0 - before.quantity) + now.quantity)
    c.in_ok-change.ensures now c.requires refl
