use Rattle.std.proofs.Common.{◌≡◌, ◌+◌, length, subst, arith}
use Rattle.pitch_model.specs.Advertising.{accepted_by}
use Rattle.venue_core.specs.Stands.{Stands}
use Rattle.shared_unit.specs.layers.Moments.{Writing}
use Rattle.shared_unit.proofs.writer.Writer.accepted.Goals as goal

pub overflow_sub-result : goal.overflow_sub-result
overflow_sub-result g c = omega (arith, c.next_sequence.ensures _ 0 c.self.invariant)

pub returns : goal.returns
returns g c =
    let next : c.next_sequence.result ≡ length (accepted_by c.args.self.now.history) + 1 = c.next_sequence.ensures _ 0 (subst (λ (h : Writing). Stands c.self.inside.venue (accepted_by h.history) 0) c.self.view_is c.self.invariant) in
    omega (arith, next)
