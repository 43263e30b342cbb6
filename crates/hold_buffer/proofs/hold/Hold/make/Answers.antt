use Rattle.hold_buffer.proofs.Kept.{kept_empty}
use Rattle.hold_buffer.proofs.hold.Hold.make.Goals as goal

pub invariant_of-result : goal.invariant_of-result
invariant_of-result c = kept_empty c.places.result c.in_ok-make.field-0 c.in_ok-make.ensures c.places.ensures.within
