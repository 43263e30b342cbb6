use Rattle.std.proofs.Common.{ℕ, List, length, take, ap, ◌++◌, ◌∙◌, subst}
use Rattle.std.specs.Map.{lookup}
use Rattle.std.specs.Str.{bytes_eq}
use Rattle.std.specs.Ordering.{nat_cmp}
use Rattle.std.specs.BTreeMap.{IsOrdered}
use Rattle.leveled_units.specs.BestFirst.{best_first}
use Rattle.best_quotes.specs.Leveling.{Prices, level_of, side_of}
use Rattle.leveled_units.proofs.Rising.{tells_levels, tells_none}
use Rattle.leveled_units.proofs.best_first.append_levels.Goals as goal

pub returns-in_ok-count-in-Some : goal.returns-in_ok-count-in-Some
returns-in_ok-count-in-Some c = λ book is has.
    let symbol = c.args.symbol in
    let side = c.args.side in
    let prices = c.prices_in.result.now in
    let are = c.prices_in.ensures in
    let told = c.args.out.now.items in
    tells_levels book is symbol side (side_of side c.in-Some.depth.now).entries
    (subst (IsOrdered nat_cmp) are c.in_ok-count-in-Some.ensures.ordered)
    (λ q.
    ap (level_of side q) c.in-Some.ensures.value
    ∙ ap (λ (b : List ℕ). level_of side q (lookup (bytes_eq b) c.args.levels.now.entries)) c.bytes.ensures
    ∙ has symbol side q)
    c.args.most c.in_ok-count-in-Some.count told c.append_side.new.out.items
    (c.in_ok-count-in-Some.ensures.levels ∙ ap (λ (p : Prices). told ++ take c.args.most (best_first side p.entries)) are)
    (c.in_ok-count-in-Some.ensures.count ∙ ap (λ (p : Prices). length p.entries) are)

pub returns-in-None : goal.returns-in-None
returns-in-None c = λ book is has.
    let side = c.args.side in
    tells_none book is c.args.symbol side
    (λ q.
    ap (level_of side q) c.in-None.ensures.value
    ∙ ap (λ (b : List ℕ). level_of side q (lookup (bytes_eq b) c.args.levels.now.entries)) c.bytes.ensures
    ∙ has c.args.symbol side q)
    c.args.most c.args.out.now.items
