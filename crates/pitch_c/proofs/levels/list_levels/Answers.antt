use Rattle.std.proofs.Common.{ℕ, List, length, sym, subst}
use Rattle.client_core.specs.Client.{current_book}
use Rattle.leveled_units.specs.BestFirst.{TellsLevels}
use Rattle.pitch_c.proofs.levels.list_levels.Goals as goal

pub returns-in-Ok-clause-levels : goal.returns-in-Ok-clause-levels
returns-in-Ok-clause-levels c ok =
    let book = current_book c.args.client.now in
    let symbol = c.args.symbol in
    let side = c.args.side in
    c.write_levels.ensures book symbol side
    (subst (λ (levels : List (ℕ × ℕ)). TellsLevels book symbol side (length c.args.told.now) levels c.as_slice.result.now c.in-Ok.count) c.make-levels.ensures
    (subst (λ (levels : List (ℕ × ℕ)). TellsLevels book symbol side (length c.args.told.now) c.make-levels.result.items levels c.in-Ok.count) (sym c.as_slice.ensures) c.in-Ok.ensures.levels))
