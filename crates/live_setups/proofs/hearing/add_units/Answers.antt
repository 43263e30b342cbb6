use Rattle.std.proofs.Common.{◌∙◌, ℕ, List, rules, ap, sym, slice_index_or}
use Rattle.live_setups.specs.Hearing.{with_unit}
use Rattle.live_setups.proofs.Units.{added}
use Rattle.live_setups.proofs.hearing.add_units.Goals as goal

pub units-preserved : goal.units-preserved
units-preserved c =
    let more = c.args.more.now in
    let at = c.units.unit-index in
    c.in_ok-add_unit.ensures ∙ ap (λ (units : List ℕ). with_unit units (slice_index_or more at 0)) c.units.invariant
    ∙ sym (added c.args.units.now.items more at 0 (search rules))
