use Rattle.std.proofs.Common.{List, ℕ, sym, ap, ◌∙◌}
use Rattle.std.specs.Map.{lookup}
use Rattle.std.specs.Ordering.{nat_cmp}
use Rattle.std.specs.Str.{bytes_eq}
use Rattle.std.specs.BTreeMap.{get}
use Rattle.best_quotes.specs.Leveling.{side_of, level_of, level_in}
use Rattle.best_quotes.proofs.Sided.{nearest_in}
use Rattle.best_quotes.proofs.levels.nearest.Goals as goal

pub returns-in-Some : goal.returns-in-Some
returns-in-Some c =
    let side = c.args.side in
    nearest_in side (get nat_cmp (side_of side c.in-Some.depth.now)) (level_in c.args.levels.now.entries c.args.symbol side) c.best_in.result
    (λ price.
    ap (λ (b : List ℕ). level_of side price (lookup (bytes_eq b) c.args.levels.now.entries)) (sym c.bytes.ensures)
    ∙ ap (level_of side price) (sym c.in-Some.ensures.value))
    c.best_in.ensures
