use Rattle.std.proofs.Common.{List, ℕ, Some, cond, sym, ap, ◌∙◌}
use Rattle.std.specs.Map.{lookup}
use Rattle.std.specs.Str.{bytes_eq}
use Rattle.std.proofs.lemmas.Cmp.{nat_list_eq_equiv}
use Rattle.indexmap.specs.IndexMap.{set_value_at}
use Rattle.indexmap.proofs.CallerLemmas.{updates-with_value_at}
use Rattle.best_quotes.proofs.Sided.{placed, turned_at}
use Rattle.best_quotes.proofs.levels.turn_at.Goals as goal

pub returns : goal.returns
returns c = λ symbol there on on'.
    let levels = c.args.levels.now in
    let place = c.pair_mut-depth.ensures in
    let sides = c.pair_mut-depth.result.1.now in
    let key = c.pair_mut-depth.result.0.now in
    let own = placed levels.entries symbol key sides c.args.place there place.value in
    let updates = updates-with_value_at levels c.args.place c.turn_in.new.depth nat_list_eq_equiv place.unique key sides place.value in
    turned_at levels.entries (set_value_at levels.entries c.args.place c.turn_in.new.depth) symbol sides c.turn_in.new.depth own.0
    (λ q. updates.0 q ∙ ap (λ (k : List ℕ). cond (bytes_eq k q) (Some c.turn_in.new.depth) (lookup (bytes_eq q) levels.entries)) (sym own.1))
    c.args.side c.args.before.now c.args.now.now on on' c.in_ok-bests.ensures.others c.in_ok-bests.ensures.moves
    c.in_ok-bests.bests c.in_ok-bests.ensures.was c.in_ok-bests.ensures.is
