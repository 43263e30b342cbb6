use Rattle.std.proofs.Common.{ℕ, List, Option, ap, ◌∙◌}
use Rattle.std.specs.Prelude.{unwrap_or}
use Rattle.std.specs.Map.{lookup}
use Rattle.std.specs.Str.{bytes_eq}
use Rattle.std.specs.Ordering.{nat_cmp}
use Rattle.std.specs.BTreeMap.{get}
use Rattle.best_quotes.specs.Leveling.{Prices, level_of}
use Rattle.best_quotes.proofs.Pricing.{unwrapped}
use Rattle.best_quotes.proofs.levels.level_at.Goals as goal

pub returns-in-Some : goal.returns-in-Some
returns-in-Some c = λ shares has.
    let side = c.args.side in
    let price = c.args.price in
    c.shares_at.ensures
    ∙ ap (λ (p : Prices). unwrap_or (get nat_cmp p price) 0) c.prices_in.ensures
    ∙ ap (λ (o : Option ℕ). unwrap_or o 0)
    (ap (level_of side price) c.in-Some.ensures.value
    ∙ ap (λ (b : List ℕ). level_of side price (lookup (bytes_eq b) c.args.levels.now.entries)) c.bytes.ensures
    ∙ has c.args.symbol side price)
    ∙ unwrapped (shares c.args.symbol side price)

pub returns-in-None : goal.returns-in-None
returns-in-None c = λ shares has.
    let side = c.args.side in
    let price = c.args.price in
    ap (λ (o : Option ℕ). unwrap_or o 0)
    (ap (level_of side price) c.in-None.ensures.value
    ∙ ap (λ (b : List ℕ). level_of side price (lookup (bytes_eq b) c.args.levels.now.entries)) c.bytes.ensures
    ∙ has c.args.symbol side price)
    ∙ unwrapped (shares c.args.symbol side price)
