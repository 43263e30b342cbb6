use Rattle.std.proofs.Common.{refl, sym, ap, ◌∙◌, subst, inl, inr, rules}
use Rattle.std.specs.Ordering.{ordering_reverse}
use Rattle.std.specs.declared.cmp.Ordering.TheVariants.{Greater}
use Rattle.std.specs.FinMap.{slice_cmp-IsAntisymmetric, nat_cmp-IsAntisymmetric}
use Rattle.std.proofs.lemmas.Cmp.{nat_list_cmp_total}
use Rattle.best_quotes.specs.layers.Turning.{IsOf, IsOfTwo}
use Rattle.best_quotes.proofs.steps.turn_both.Goals as goal

pub turn_two-requires-in-Greater : goal.turn_two-requires-in-Greater
turn_two-requires-in-Greater c =
    nat_list_cmp_total.antisymm c.args.other.now.symbol c.args.order.now.symbol ∙ ap ordering_reverse {y = Greater} (search rules)

pub returns-in_ok-turn_two-in-Less : goal.returns-in_ok-turn_two-in-Less
returns-in_ok-turn_two-in-Less c =
    let first = c.args.order.now.symbol in
    let second = c.args.other.now.symbol in
    c.in_ok-turn_two-in-Less.ensures (subst (IsOfTwo first second) (sym c.requires.before) (inl refl)) (subst (IsOfTwo first second) (sym c.requires.now) (inr refl))

pub returns-in_ok-turn_one-in-Equal : goal.returns-in_ok-turn_one-in-Equal
returns-in_ok-turn_one-in-Equal c =
    let first = c.args.order.now.symbol in
    let second = c.args.other.now.symbol in
    c.in_ok-turn_one-in-Equal.ensures (subst (IsOf first) (sym c.requires.before) refl)
    (subst (IsOf first) (sym c.requires.now) (sym (slice_cmp-IsAntisymmetric nat_cmp-IsAntisymmetric first second (search rules))))

pub returns-in_ok-turn_two-in-Greater : goal.returns-in_ok-turn_two-in-Greater
returns-in_ok-turn_two-in-Greater c =
    let first = c.args.other.now.symbol in
    let second = c.args.order.now.symbol in
    c.in_ok-turn_two-in-Greater.ensures (subst (IsOfTwo first second) (sym c.requires.before) (inr refl)) (subst (IsOfTwo first second) (sym c.requires.now) (inl refl))
