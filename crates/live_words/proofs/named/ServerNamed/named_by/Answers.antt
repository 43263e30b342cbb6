use Rattle.std.proofs.Common.{arith, subst, sym}
use Rattle.pitch_words.specs.Numbers.{IsNumber}
use Rattle.live_words.proofs.named.ServerNamed.named_by.Goals as goal

-- src/named.rt:63:13
pub returns-in_default-clause-none : goal.returns-in_default-clause-none
returns-in_default-clause-none c value is =
    let parts = c.in_ok-unit.ensures.byte (omega arith) (λ w o h. h) in
    c.in_default.ensures.none value.unit (subst (λ t. IsNumber 1 255 t value.unit) (sym parts.0) is.unit)
