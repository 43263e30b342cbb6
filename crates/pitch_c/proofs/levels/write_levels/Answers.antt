use Rattle.leveled_units.specs.BestFirst.{levels_of}
use Rattle.pitch_c.specs.Reports.{level_shown}
use Rattle.pitch_c.proofs.Filling.{fills_first}
use Rattle.pitch_c.proofs.levels.write_levels.Goals as goal

pub returns : goal.returns
returns c = λ book symbol side tells.
    fills_first level_shown (levels_of book symbol side) c.args.levels.now c.args.told.now c.fill_levels.new.told c.args.count tells.levels c.fill_levels.ensures tells.count_is
