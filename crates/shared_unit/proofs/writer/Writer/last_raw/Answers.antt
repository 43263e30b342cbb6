use Rattle.std.proofs.Common.{subst}
use Rattle.pitch_model.specs.Advertising.{accepted_by}
use Rattle.venue_core.specs.Stands.{Stands}
use Rattle.shared_unit.specs.layers.Moments.{Writing}
use Rattle.shared_unit.proofs.writer.Writer.last_raw.Goals as goal

pub returns : goal.returns
returns g c = c.last_raw.ensures _ 0 (subst (λ (h : Writing). Stands c.self.inside.venue (accepted_by h.history) 0) c.self.view_is c.self.invariant)
