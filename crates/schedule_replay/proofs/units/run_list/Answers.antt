use Rattle.std.proofs.Common.{arith, get_or, ◌≡◌, ◌+◌, ◌-◌, ◌∙◌, ℕ, List, take, drop, ap}
use Rattle.std.proofs.lemmas.Option.{slice_get-get_or}
use Rattle.schedule_replay.specs.declared.stretches.Stretch.{Stretch}
use Rattle.schedule_replay.proofs.Parting.{walks_none, walks_more, walks_all, walks_unit}
use Rattle.schedule_replay.proofs.units.run_list.Goals as goal

pub stretches-init : goal.stretches-init
stretches-init c = walks_none c.args.text.now c.args.list.now c.args.run.now

pub returns-then-at-text-clause-unit : goal.returns-then-at-text-clause-unit
returns-then-at-text-clause-unit c = walks_unit c.args.text.now c.args.run.now.unit c.args.list.now c.stretches.stretch-index c.args.run.now c.stretches.run c.stretches.invariant

pub returns-in_err-run_stretch-clause-unit : goal.returns-in_err-run_stretch-clause-unit
returns-in_err-run_stretch-clause-unit c =
    c.run_stretch.ensures.unit ∙ walks_unit c.args.text.now c.args.run.now.unit c.args.list.now c.stretches.stretch-index c.args.run.now c.stretches.run c.stretches.invariant

pub stretches-preserved : goal.stretches-preserved
stretches-preserved c =
    let text : List ℕ = c.args.text.now in
    let list : List Stretch = c.args.list.now in
    let i : ℕ = c.stretches.stretch-index in
    let s : Stretch = get_or list i (record { at = 0; size = 0; before = 0 }) in
    let many : s.at + s.size - s.at ≡ s.size = omega arith in
    walks_more text c.args.run.now.unit list i s (take (s.at + s.size - s.at) (drop s.at text)) c.args.run.now c.stretches.run c.run_stretch.new.run
    (slice_get-get_or list i (record { at = 0; size = 0; before = 0 }) (omega (arith, c.stretches-test.true)))
    (ap (λ (n : ℕ). take n (drop s.at text)) many) c.run_stretch.ensures.unit c.in_ok-run_stretch.ensures.ran c.stretches.invariant

pub returns-clause-unit : goal.returns-clause-unit
returns-clause-unit c = walks_unit c.args.text.now c.args.run.now.unit c.args.list.now c.stretches.stretch-index c.args.run.now c.stretches.run c.stretches.invariant

pub returns-clause-ran : goal.returns-clause-ran
returns-clause-ran c = walks_all c.args.text.now c.args.run.now.unit c.args.list.now c.stretches.stretch-index c.args.run.now c.stretches.run c.stretches-test.false c.stretches.invariant
