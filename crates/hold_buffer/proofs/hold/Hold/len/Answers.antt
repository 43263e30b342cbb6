use Rattle.std.proofs.Common.{◌∙◌, ap, sym}
use Rattle.std.specs.FinMap as map
use Rattle.hold_buffer.specs.HoldView.{HoldView}
use Rattle.hold_buffer.proofs.Kept.{len_held}
use Rattle.hold_buffer.proofs.hold.Hold.len.Goals as goal

pub returns : goal.returns
returns c = c.len.ensures.len ∙ sym (len_held c.self.inside.floor c.self.inside.ring c.self.invariant) ∙ ap (λ (h : HoldView). map.len h.held) c.self.view_is
