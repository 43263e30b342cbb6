use Rattle.order_book.proofs.Keeping.{kept_second}
use Rattle.order_book.proofs.unit_book.UnitBook.set_second.Goals as goal

pub invariant_of-self : goal.invariant_of-self
invariant_of-self c = kept_second _ _ _ c.self.invariant c.args.second
