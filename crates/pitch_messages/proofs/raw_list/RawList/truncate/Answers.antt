use Rattle.std.proofs.Common.{◌≡◌, ℕ, ◌+◌, ◌-◌, List, sym, ap, ◌∙◌, arith, subst, drop, take, length, min}
use Rattle.std.specs.List.{concat}
use Rattle.pitch_messages.specs.Room.{Roomy}
use Rattle.pitch_messages.specs.Raw.{raws_of}
use Rattle.pitch_messages.proofs.Chains.{Chain, chain_take, rest_within}
use Rattle.pitch_messages.proofs.raw_list.RawList.truncate.Goals as goal

-- what stands past the kept messages
past : (n : ℕ) (rs all raws after : List (List ℕ)) (bytes : List ℕ) → rs ≡ all → raws ≡ all → after ≡ drop n raws → bytes ≡ concat after → bytes ≡ concat (drop n rs)
past n rs all raws after bytes same lent cut joined = joined ∙ ap concat (cut ∙ ap (λ (xs : List (List ℕ)). drop n xs) (lent ∙ sym same))

pub overflow_sub-kept : goal.overflow_sub-kept
overflow_sub-kept c =
    let rs : List (List ℕ) = raws_of c.self.inside.count c.self.inside.bytes.items in
    let view = ap (λ (list : Roomy (List ℕ)). list.items) c.self.view_is in
    let rest = past c.args.length rs c.args.self.now.items c.raws.result c.after.result c.joined-past.result.now view c.raws.ensures c.after.ensures c.joined-past.ensures.joined in
    let within = rest_within c.args.length c.self.inside.count c.self.inside.bytes.items c.self.invariant in
    omega (arith, within, ap length rest, c.len.ensures, c.self.inside.bytes.ok)

kept : (c : goal.After-self-1) → Chain c.min-self-inside.result c.truncate.new.self.items (take c.args.length (raws_of c.self.inside.count c.self.inside.bytes.items))
kept c =
    let rs : List (List ℕ) = raws_of c.self.inside.count c.self.inside.bytes.items in
    let k : ℕ = c.len.result - length c.joined-past.result.now in
    let view = ap (λ (list : Roomy (List ℕ)). list.items) c.self.view_is in
    let rest = past c.args.length rs c.args.self.now.items c.raws.result c.after.result c.joined-past.result.now view c.raws.ensures c.after.ensures c.joined-past.ensures.joined in
    let within = rest_within c.args.length c.self.inside.count c.self.inside.bytes.items c.self.invariant in
    let sum : k + length (concat (drop c.args.length rs)) ≡ length c.self.inside.bytes.items = omega (arith, within, ap length rest, c.len.ensures, c.self.inside.bytes.ok) in
    let cut = chain_take c.args.length c.self.inside.count k c.self.inside.bytes.items c.self.invariant sum in
    subst (λ (n : ℕ). Chain n c.truncate.new.self.items (take c.args.length rs)) (sym c.min-self-inside.ensures)
    (subst (λ (bytes : List ℕ). Chain (min c.args.length c.self.inside.count) bytes (take c.args.length rs)) (sym c.truncate.ensures.items) cut)

pub invariant_of-self : goal.invariant_of-self
invariant_of-self c = (kept c).chain

pub returns-clause-items : goal.returns-clause-items
returns-clause-items c = (kept c).are ∙ ap (λ (list : Roomy (List ℕ)). take c.args.length list.items) c.self.view_is
