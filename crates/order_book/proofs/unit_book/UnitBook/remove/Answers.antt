use Rattle.std.proofs.Common.{arith}
use Rattle.order_book.proofs.Keeping.{kept_remove}
use Rattle.order_book.proofs.unit_book.UnitBook.remove.Goals as goal

pub invariant_of-self : goal.invariant_of-self
invariant_of-self c = kept_remove _ _ _ c.self.invariant _ c.args.id c.swap_remove.ensures.unique (omega (arith, c.swap_remove.ensures.len)) c.swap_remove.ensures.updates.0
