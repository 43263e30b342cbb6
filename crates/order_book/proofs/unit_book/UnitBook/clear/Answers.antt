use Rattle.std.proofs.Common.{ℕ, List, nat_eq, sym, subst}
use Rattle.std.specs.List.{IsDistinct}
use Rattle.std.specs.Map.{keys_of}
use Rattle.pitch_messages.specs.declared.order.Order.{Order}
use Rattle.order_book.specs.Standing.{IsKept}
use Rattle.order_book.proofs.Keeping.{kept_clear}
use Rattle.order_book.proofs.unit_book.UnitBook.clear.Goals as goal

pub invariant_of-self : goal.invariant_of-self
invariant_of-self c = subst (λ (es : List (ℕ × Order)). IsKept c.self.inside.second es c.self.inside.statuses.statuses) (sym c.truncate.ensures.entries) (kept_clear _ _ _ c.self.invariant (subst (λ (es : List (ℕ × Order)). IsDistinct nat_eq (keys_of es)) c.truncate.ensures.entries c.truncate.ensures.unique))
