use Rattle.std.proofs.Common.{[], refl}
use Rattle.unit_market.specs.Views.{new_journal}
use Rattle.unit_market.proofs.market.Market.make.Goals as goal

pub invariant_of-result : goal.invariant_of-result
invariant_of-result c = record {
  journal = new_journal c.args.unit c.args.kept;
  has = record {
    unit_is = c.make.ensures.unit;
    venue = c.make.ensures.stands;
    store_is = c.in_ok-make.ensures;
    shelf = record { operations = []; accepted_is = refl; advertised_is = refl; stands = c.make-3.ensures };
  };
}
