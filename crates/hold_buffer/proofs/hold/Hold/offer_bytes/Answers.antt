use Rattle.std.proofs.Common.{◌≡◌, ℕ, ◌+◌, List, arith, sym, ap, ◌∙◌, subst, refl, true, false, Some, slice_get}
use Rattle.std.specs.FinMap as map
use Rattle.std.specs.Option.{option_eq, option_map}
use Rattle.std.proofs.Common.{eqb}
use Rattle.hold_buffer.specs.HoldView.{HoldView}
use Rattle.hold_buffer.specs.layers.Offered.{Answers}
use Rattle.hold_buffer.specs.layers.Places.{hold_of}
use Rattle.hold_buffer.specs.declared.hold.Offer.TheVariants.{Repeat, Next}
use Rattle.hold_buffer.proofs.Kept.{first_held, next_unheld, kept_next}
use Rattle.hold_buffer.proofs.hold.Hold.offer_bytes.Goals as goal

-- it is the first that is held
pub returns-then-eq-clause-answer : goal.returns-then-eq-clause-answer
returns-then-eq-clause-answer c =
    let test : option_eq eqb (option_map (λ (e : ℕ × List ℕ). e.0) (slice_get c.self.inside.ring.items 0)) (Some c.args.sequence) ≡ true =
    ap (λ first. option_eq eqb first (Some c.args.sequence)) (sym c.first_sequence.ensures) ∙ sym c.eq.ensures ∙ c.if-eq.true in
    let held = first_held c.self.inside.floor c.self.inside.ring c.self.invariant c.args.sequence test in
    subst (λ (h : HoldView). Answers Repeat h c.args.sequence c.args.bytes.now h) c.self.view_is (omega arith, held, refl)

-- it is next
follows : (c : goal.After-self-1) → c.args.sequence ≡ c.self.inside.floor + 1
follows c = let test = c.if-sequence-self.false in let next = c.if-sequence-self-2.true in omega arith

unheld : (c : goal.After-self-1) → map.contains_key (hold_of c.self.inside.floor c.self.inside.ring).held c.args.sequence ≡ false
unheld c = next_unheld c.self.inside.floor c.self.inside.ring c.self.invariant c.args.sequence (ap (λ first. option_eq eqb first (Some c.args.sequence)) (sym c.first_sequence.ensures) ∙ sym c.eq.ensures ∙ c.if-eq.false) (follows c)

pub invariant_of-self : goal.invariant_of-self
invariant_of-self c = kept_next c.self.inside.floor c.self.inside.ring c.self.invariant c.args.sequence (follows c) (unheld c)

pub returns-then-sequence-self-2-clause-answer : goal.returns-then-sequence-self-2-clause-answer
returns-then-sequence-self-2-clause-answer c =
    subst (λ (h : HoldView). Answers Next h c.args.sequence c.args.bytes.now (hold_of c.args.sequence c.self.inside.ring)) c.self.view_is (follows c, unheld c, refl)

pub returns-then-sequence-self-2-clause-kept : goal.returns-then-sequence-self-2-clause-kept
returns-then-sequence-self-2-clause-kept c = (invariant_of-self c).hold

-- it is beyond what follows
pub invariant_of-self-2 : goal.invariant_of-self-2
invariant_of-self-2 c = c.store.ensures.kept c.self.inside.floor (omega arith) c.self.invariant

pub returns-clause-kept : goal.returns-clause-kept
returns-clause-kept c = (invariant_of-self-2 c).hold
