use Rattle.std.proofs.Common.{◌≡◌, ltb, subst}
use Rattle.std.specs.FinMap as map
use Rattle.hold_buffer.specs.HoldView.{HoldView}
use Rattle.hold_buffer.specs.layers.Places.{hold_of}
use Rattle.hold_buffer.proofs.Kept.{jumped_is, kept_jumped}
use Rattle.hold_buffer.proofs.hold.Hold.jump.Goals as goal

pub invariant_of-self : goal.invariant_of-self
invariant_of-self c = kept_jumped c.self.inside.floor c.self.inside.ring c.self.invariant c.drop_through.new.self c.args.floor c.drop_through.ensures

pub returns-clause-jumped : goal.returns-clause-jumped
returns-clause-jumped c =
    subst (λ (h : HoldView). hold_of c.args.floor c.drop_through.new.self ≡ record h { floor = c.args.floor; held = map.retain_keys h.held (λ k. ltb c.args.floor k) }) c.self.view_is
    (jumped_is c.self.inside.floor c.self.inside.ring c.self.invariant c.drop_through.new.self c.args.floor c.drop_through.ensures)

pub returns-clause-kept : goal.returns-clause-kept
returns-clause-kept c = (invariant_of-self c).hold
