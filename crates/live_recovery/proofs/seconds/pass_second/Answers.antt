use Rattle.std.proofs.Common.{◌≡◌, ℕ, ◌+◌, suc, arith, subst}
use Rattle.live_recovery.specs.Standing.{SecondsPass}
use Rattle.live_recovery.proofs.Bringing.{seconds_none, seconds_more}
use Rattle.live_recovery.proofs.seconds.pass_second.Goals as goal

pub units-init : goal.units-init
units-init c = λ s start written first came st same. seconds_none s start written first c.args.units.now came st same

pub units-preserved : goal.units-preserved
units-preserved c = λ s start written first came st same.
    let one : suc c.units.unit ≡ c.units.unit + 1 = omega arith in
    subst (λ (n : ℕ). SecondsPass s start written first n c.pass_for.new.units) one
    (seconds_more s start written first c.units.unit c.units.units c.pass_for.new.units (c.units.invariant s start written first came st same) c.pass_for.ensures)

pub returns : goal.returns
returns c = λ s start written first came st same.
    let all : c.units.unit ≡ 256 = omega arith in
    subst (λ (n : ℕ). SecondsPass s start written first n c.units.units) all (c.units.invariant s start written first came st same)

pub returns-2 : goal.returns-2
returns-2 c = λ s start written first came st same.
    let all : suc c.units.unit ≡ 256 = omega arith in
    subst (λ (n : ℕ). SecondsPass s start written first n c.pass_for.new.units) all
    (seconds_more s start written first c.units.unit c.units.units c.pass_for.new.units (c.units.invariant s start written first came st same) c.pass_for.ensures)
