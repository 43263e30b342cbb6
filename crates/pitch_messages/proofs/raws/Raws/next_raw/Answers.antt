use Rattle.std.proofs.Common.{ℕ, ◌<◌, ◌-◌, List, ◌∷◌, length, sym, ◌∙◌, arith, subst}
use Rattle.pitch_messages.specs.Raw.{IsRaw, raws_of}
use Rattle.pitch_messages.specs.layers.Chains.{IsChain}
use Rattle.pitch_messages.proofs.Chains.{starts}
use Rattle.pitch_messages.proofs.raws.Raws.next_raw.Goals as goal

pub bounds-self-inside-0 : goal.bounds-self-inside-0
bounds-self-inside-0 c =
    let s = starts c.self.inside.count c.self.inside.rest.now c.if-self-eq0.false c.self.invariant in
    let some : 0 < length c.self.inside.rest.now = omega (arith, s.least, s.fits) in
    search (Rattle.std.proofs.Common.rules, some)

pub split_at-requires : goal.split_at-requires
split_at-requires c = (starts c.self.inside.count c.self.inside.rest.now c.if-self-eq0.false c.self.invariant).fits

pub invariant_of-self : goal.invariant_of-self
invariant_of-self c =
    let s = starts c.self.inside.count c.self.inside.rest.now c.if-self-eq0.false c.self.invariant in
    subst (λ (body : List ℕ). IsChain (c.self.inside.count - 1) body) (sym c.split_at.ensures.back) s.rest

pub returns : goal.returns
returns c =
    let s = starts c.self.inside.count c.self.inside.rest.now c.if-self-eq0.false c.self.invariant in
    (sym c.self.view_is ∙ s.are ∙ (λ i. sym c.split_at.ensures.front i ∷ raws_of (c.self.inside.count - 1) (sym c.split_at.ensures.back i)), subst (λ (raw : List ℕ). IsRaw raw) (sym c.split_at.ensures.front) s.raw)
