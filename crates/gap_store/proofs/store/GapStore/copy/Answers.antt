use Rattle.std.proofs.Common.{◌≤◌, ◌∙◌, ap, sym, arith, length, List, ℕ, Some}
use Rattle.circular_buffer.specs.Buffer.{Buffer}
use Rattle.gap_store.proofs.Keeping.{ring_more}
use Rattle.gap_store.proofs.store.GapStore.copy.Goals as goal

pub kept-preserved : goal.kept-preserved
kept-preserved c =
    let fits : length c.self.inside.ring.items ≤ c.kept.ring.capacity = omega (arith, c.kept.invariant.1, c.capacity.ensures.within, c.capacity.ensures.capacity) in (
      ap (λ (b : Buffer (List ℕ)). b.items) c.push_back.ensures.items ∙ ring_more c.self.inside.ring.items c.kept.ring.items c.kept.ring.capacity c.kept.i c.copy.result c.kept.invariant.0 (sym c.in-Some.ensures ∙ ap (λ (raw : List ℕ). Some raw) (sym c.copy.ensures)) fits,
      ap (λ (b : Buffer (List ℕ)). b.capacity) c.push_back.ensures.items ∙ c.kept.invariant.1,
    )
