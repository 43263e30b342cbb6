use Rattle.std.proofs.Common.{◌<◌, ℕ, List, length, refl, arith}
use Rattle.std.proofs.lemmas.Option.{slice_get_read}
use Rattle.pitch_c.specs.Reports.{level_shown}
use Rattle.pitch_c.proofs.Filling.{fills_more}
use Rattle.pitch_c.proofs.levels.fill_levels.Goals as goal

pub levels-preserved : goal.levels-preserved
levels-preserved c =
    let all : List (ℕ × ℕ) = c.args.levels.now in
    let test = c.levels-test.true in
    let fits = c.fitting-count.ensures.within in
    let within : c.levels.at < length all = omega (arith, test, fits.0) in
    let room : c.levels.at < length c.args.told.now = omega (arith, test, fits.1) in
    fills_more level_shown all c.args.told.now c.levels.told c.levels.at c.index-levels-at.result c.level_out.result c.levels.invariant
    (slice_get_read all (length all) c.levels.at c.index-levels-at.result refl within c.index-levels-at.is) c.level_out.ensures room
