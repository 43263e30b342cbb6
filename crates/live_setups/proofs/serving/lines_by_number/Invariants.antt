use Rattle.std.proofs.Common.{◌≡◌, take}
use Rattle.live_setups.specs.Serving.{lines_of}
use Rattle.live_setups.proofs.serving.lines_by_number.Given as goal

-- the lines of the units so far
abbrev pub invariant-units : goal.invariant-units
invariant-units l = l.lines.items ≡ lines_of (take l.words-index l.units)
