use Rattle.std.proofs.Common.{◌≡◌, ℕ, ◌+◌, suc, length, ap, arith, subst}
use Rattle.live_venue.specs.Standing.{Passes}
use Rattle.live_venue.proofs.Passing.{passes_none, passes_more}
use Rattle.live_venue.proofs.seconds.pass_second.Goals as goal

pub units-init : goal.units-init
units-init c = λ s. passes_none s c.args.units.now

pub units-preserved : goal.units-preserved
units-preserved c = λ s.
    let one : suc c.units.at ≡ c.units.at + 1 = omega arith in
    subst (λ (n : ℕ). Passes s n c.args.units.now c.pass_for.new.units) one
    (passes_more s c.units.at c.args.units.now c.units.units c.pass_for.new.units (c.units.invariant s) (c.pass_for.ensures s))

pub returns : goal.returns
returns c =
    let all : c.units.at ≡ length c.args.setup.now = omega (arith, ap length c.units-at-end.ensures.units) in
    subst (λ (n : ℕ). Passes c.args.setup.now n c.args.units.now c.units.units) all (c.units.invariant c.args.setup.now)
