use Rattle.std.proofs.Common.{◌≡◌, ℕ, arith, ap, sym, subst}
use Rattle.hold_buffer.specs.layers.Places.{IsGap}
use Rattle.hold_buffer.proofs.Rings.{back_gap}
use Rattle.hold_buffer.proofs.ring.place.Goals as goal
use Rattle.hold_buffer.proofs.ring.place.Goals.{in_default-via-in-Some+else-sequence-last, in_default-via-in_default}

pub returns-in_default-clause-gap : goal.returns-in_default-clause-gap
returns-in_default-clause-gap c =
    subst (λ n. IsGap c.args.order.now.items n c.args.sequence) (sym c.len.ensures.len)
    (back_gap c.args.order.now.items c.args.sequence c.requires (λ e at. elim c.in_default.branch [
      | in_default-via-in-Some+else-sequence-last w ↦ let last : e ≡ w.in-Some.last.now = cc (w.in-Some.ensures) in let k : e.0 ≡ w.in-Some.last.now.0 = ap (λ (p : ℕ × ℕ). p.0) last in let less = w.if-sequence-last.false in omega arith
      | in_default-via-in_default w ↦ let none = w.in_default.ensures in absurd (cc (none, at))
    ]))
