use Rattle.std.proofs.Common.{◌≡◌, ℕ, ◌<◌, List, drop, ap, sym, ◌∙◌, arith, length, subst, Vec, Global, []}
use Rattle.pitch_messages.proofs.Chains.{no_raws}
use Rattle.unit_packets.specs.BlockBytes.{block_bytes}
use Rattle.unit_packets.specs.Packing.{sequence_after}
use Rattle.unit_packets.specs.Pushing.{Packing, next_sequence}
use Rattle.unit_packets.proofs.Beginning.{none_begun, closed}
use Rattle.unit_packets.proofs.packer.Packer.close.Goals as goal

pub invariant_of-self : goal.invariant_of-self
invariant_of-self c = none_begun _ _ (ap (λ (v : Vec ℕ Global). v.items) c.replace-bytes.ensures.after ∙ c.new-next.ensures.items)

pub returns-clause-bytes : goal.returns-clause-bytes
returns-clause-bytes c =
    let many : length c.args.self.now.begun ≡ c.self.inside.count = sym (ap (λ (p : Packing). length p.begun) c.self.view_is) ∙ c.self.invariant.chain.many in
    let some : 0 < c.self.inside.count = subst (λ (n : ℕ). 0 < n) many c.requires in
    let was : c.replace-bytes.result.items ≡ c.self.inside.bytes.items = ap (λ (v : Vec ℕ Global). v.items) c.replace-bytes.ensures.value in
    let kept : c.replace-bytes.result.len ≡ length c.self.inside.bytes.items = omega (arith, ap length was) in
    let size : c.len.result ≡ length c.self.inside.bytes.items = omega arith in
    closed c.self.inside.unit c.self.inside.sequence c.self.inside.count _ _ c.self.inside.bytes.items _ _ _ c.self.invariant some was c.deref_mut.ensures.value size kept c.put_header.ensures
    ∙ ap (λ (p : Packing). block_bytes (record { unit = p.unit; sequence = p.sequence; raws = p.begun })) c.self.view_is

pub returns-clause-after : goal.returns-clause-after
returns-clause-after c =
    let next : c.sequence_after-self-inside.result ≡ next_sequence c.args.self.now =
    c.sequence_after-self-inside.ensures ∙ ap (sequence_after c.self.inside.sequence) (sym c.self.invariant.chain.many) ∙ ap next_sequence c.self.view_is in
    ap (λ (rs : List (List ℕ)). record { unit = c.self.inside.unit; sequence = c.sequence_after-self-inside.result; begun = rs }) (no_raws (drop 8 c.replace-bytes.new.dest.items))
    ∙ ap (λ (s : ℕ). record { unit = c.self.inside.unit; sequence = s; begun = [] }) next
    ∙ ap (λ (p : Packing). record { unit = p.unit; sequence = next_sequence c.args.self.now; begun = [] }) c.self.view_is
