use Rattle.std.proofs.Common.{◌≡◌, take}
use Rattle.live_setups.specs.Hearing.{with_units}
use Rattle.live_setups.proofs.hearing.add_units.Given as goal

-- the units so far were added
abbrev pub invariant-units : goal.invariant-units
invariant-units l = l.units.items ≡ with_units l.fn.units.items (take l.unit-index l.more)
