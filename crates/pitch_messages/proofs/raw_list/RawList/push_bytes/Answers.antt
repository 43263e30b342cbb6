use Rattle.std.proofs.Common.{ℕ, List, ◌+◌, ◌++◌, ◌∷◌, [], sym, ap, ◌∙◌, arith, subst, length}
use Rattle.pitch_messages.specs.Room.{Roomy}
use Rattle.pitch_messages.specs.Raw.{raws_of}
use Rattle.pitch_messages.specs.layers.Chains.{IsChain}
use Rattle.pitch_messages.proofs.Chains.{chain_push, chain_count}
use Rattle.pitch_messages.proofs.raw_list.RawList.push_bytes.Goals as goal

pub overflow_add-self : goal.overflow_add-self
overflow_add-self c =
    let chain = c.self.invariant in
    let many = chain_count (raws_of c.self.inside.count c.self.inside.bytes.items) chain.raws in
    record { fits = omega (arith, many, chain.many, ap length chain.whole, c.self.inside.bytes.small) }

pub invariant_of-self-2 : goal.invariant_of-self-2
invariant_of-self-2 c =
    let pushed = chain_push c.self.inside.count c.self.inside.bytes.items c.args.raw.now c.self.invariant c.requires in
    subst (λ (bytes : List ℕ). IsChain (c.self.inside.count + 1) bytes) (sym c.in_ok-extend_from_slice.ensures.items) pushed.chain

pub returns-clause-ok : goal.returns-clause-ok
returns-clause-ok c =
    let pushed = chain_push c.self.inside.count c.self.inside.bytes.items c.args.raw.now c.self.invariant c.requires in
    ap (λ (bytes : List ℕ). raws_of (c.self.inside.count + 1) bytes) c.in_ok-extend_from_slice.ensures.items
    ∙ pushed.are
    ∙ ap (λ (list : Roomy (List ℕ)). list.items ++ c.args.raw.now ∷ []) c.self.view_is
