use Rattle.std.proofs.Common.{◌≡◌, take}
use Rattle.live_setups.specs.Serving.{doors_of}
use Rattle.live_setups.proofs.serving.doors_by_number.Given as goal

-- the doors of the units so far
abbrev pub invariant-units : goal.invariant-units
invariant-units l = l.doors.items ≡ doors_of (take l.words-index l.units)
