use Rattle.std.proofs.Common.{◌≡◌, map}
use Rattle.pitch_c.specs.Reports.{level_shown}
use Rattle.pitch_c.proofs.Filling.{begun}
use Rattle.pitch_c.proofs.levels.fill_levels.Given as goal

abbrev pub invariant-levels : goal.invariant-levels
invariant-levels l = l.told ≡ begun l.at (map level_shown l.levels) l.initial.told
