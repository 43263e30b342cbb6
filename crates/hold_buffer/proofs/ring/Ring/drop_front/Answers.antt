use Rattle.std.proofs.Common.{ℕ, List, drop, ap, ◌∙◌}
use Rattle.std.proofs.lemmas.List.{drop-drop}
use Rattle.circular_buffer.specs.Buffer.{Buffer, buffer}
use Rattle.hold_buffer.proofs.ring.Ring.drop_front.Goals as goal

pub loop-dropped-preserved : goal.loop-dropped-preserved
loop-dropped-preserved c =
    c.pop_front.ensures.items
    ∙ ap (λ (b : Buffer (ℕ × List ℕ)). buffer (drop 1 b.items) b.capacity) c.loop-dropped.invariant
    ∙ ap (λ (xs : List (ℕ × List ℕ)). buffer xs c.args.self.now.capacity) (drop-drop 1 c.loop-dropped._dropped c.args.self.now.items)
