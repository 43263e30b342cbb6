use Rattle.std.proofs.Common.{List, ℕ, Some, None, Option, sym, ◌∙◌, subst}
use Rattle.std.specs.Option.{IfSome}
use Rattle.std.specs.Str.{bytes_eq}
use Rattle.indexmap.specs.IndexMap.{Updates}
use Rattle.best_quotes.specs.declared.levels.Sides.{Sides}
use Rattle.best_quotes.proofs.Sided.{same_where}
use Rattle.best_quotes.proofs.levels.drop_empty.Goals as goal

pub returns-then-is_empty : goal.returns-then-is_empty
returns-then-is_empty c =
    let levels = c.args.levels.now in
    let sides = c.in-Some.depth.now in
    let removed = c.swap_remove_index.ensures in
    let updates = subst (λ (r : Option (List ℕ × Sides)). IfSome r (λ p. Updates bytes_eq levels c.swap_remove_index.new.self p.0 None))
    (removed.entry ∙ sym c.in-Some.ensures.entry) removed.updates in
    same_where levels.entries c.swap_remove_index.new.self.entries c.in-Some.field-0-0.now (Some sides) None
    c.in-Some.ensures.value updates.0 (λ side price. sym (c.is_empty.ensures c.if-is_empty.true side price))
