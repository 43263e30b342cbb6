use Rattle.std.proofs.Common.{◌≡◌, ℕ, ◌≤◌, ap, sym, ◌∙◌, subst, refl, arith}
use Rattle.std.proofs.lemmas.Bool.{both_ways}
use Rattle.unit_packets.specs.Pushing.{Packing, next_sequence}
use Rattle.unit_packets.proofs.Beginning.{took, one_begun}
use Rattle.unit_packets.proofs.Packs.{takes_more, begins_block}
use Rattle.unit_packets.proofs.packer.Packer.push_bytes.Goals as goal

pub overflow_add-self : goal.overflow_add-self
overflow_add-self c =
    let t = took _ _ _ _ _ _ _ c.self.invariant c.requires.raw refl c.self.view_is (c.takes.ensures.0 c.if-takes.true) c.requires.next in
    let few = t.few in
    omega (arith, few)

pub invariant_of-self-then-takes : goal.invariant_of-self-then-takes
invariant_of-self-then-takes c =
    (took _ _ _ _ _ _ _ c.self.invariant c.requires.raw (c.in_ok-extend_from_slice.ensures.items) c.self.view_is (c.takes.ensures.0 c.if-takes.true) c.requires.next).begins.begun

pub returns-then-takes-clause-ok : goal.returns-then-takes-clause-ok
returns-then-takes-clause-ok c =
    let p = c.takes.ensures.0 c.if-takes.true in
    let t = took _ _ _ _ _ _ _ c.self.invariant c.requires.raw (c.in_ok-extend_from_slice.ensures.items) c.self.view_is p c.requires.next in
    takes_more _ _ _ _ _ p.1 (ap (λ (q : Packing). q.unit) c.self.view_is) (ap (λ (q : Packing). q.sequence) c.self.view_is) t.begins.are refl

pub invariant_of-self-2 : goal.invariant_of-self-2
invariant_of-self-2 c =
    let next : c.self-2.inside.sequence ≡ next_sequence c.args.self.now = ap (λ (q : Packing). q.sequence) (c.self-2.view_is ∙ c.in_ok-finish.ensures.after) in
    let least : c.self-2.inside.sequence ≤ 4294967294 = subst (λ (n : ℕ). n ≤ 4294967294) (sym next) c.requires.next in
    (one_begun _ c.in_ok-begun.begun.items c.args.raw.now (c.in_ok-begun.ensures.size) (c.in_ok-begun.ensures.body) c.requires.raw least).begun

pub returns-clause-ok : goal.returns-clause-ok
returns-clause-ok c =
    let done = c.in_ok-finish.ensures.ok in
    let empty = c.self-2.view_is ∙ c.in_ok-finish.ensures.after in
    let next : c.self-2.inside.sequence ≡ next_sequence c.args.self.now = ap (λ (q : Packing). q.sequence) empty in
    let least : c.self-2.inside.sequence ≤ 4294967294 = subst (λ (n : ℕ). n ≤ 4294967294) (sym next) c.requires.next in
    let one = one_begun _ c.in_ok-begun.begun.items c.args.raw.now (c.in_ok-begun.ensures.size) (c.in_ok-begun.ensures.body) c.requires.raw least in
    begins_block _ _ _ _ _ done.added c.requires.raw (λ p. both_ways c.takes.result c.if-takes.false (c.takes.ensures.1 p)) done.given done.gives
    (ap (λ (q : Packing). q.unit) empty) next one.are
