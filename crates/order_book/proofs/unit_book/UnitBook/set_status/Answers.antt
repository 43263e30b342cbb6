use Rattle.order_book.proofs.Keeping.{kept_statuses}
use Rattle.order_book.proofs.unit_book.UnitBook.set_status.Goals as goal

pub invariant_of-self : goal.invariant_of-self
invariant_of-self c = kept_statuses _ _ _ c.self.invariant _
