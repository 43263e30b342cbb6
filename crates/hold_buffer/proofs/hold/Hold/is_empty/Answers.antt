use Rattle.std.proofs.Common.{◌∙◌, ◌≡◌, ap, sym, length, arith}
use Rattle.std.specs.FinMap as map
use Rattle.std.proofs.lemmas.Bool.Decides.{nat_tests}
use Rattle.hold_buffer.specs.HoldView.{HoldView}
use Rattle.hold_buffer.proofs.Kept.{len_held}
use Rattle.hold_buffer.proofs.hold.Hold.is_empty.Goals as goal

pub returns : goal.returns
returns c =
    let size : length c.self.inside.ring.items ≡ map.len c.args.self.now.held = sym (len_held c.self.inside.floor c.self.inside.ring c.self.invariant) ∙ ap (λ (h : HoldView). map.len h.held) c.self.view_is in
    let test = c.is_empty.ensures in
    (grind (arith, nat_tests), grind (arith, nat_tests))
