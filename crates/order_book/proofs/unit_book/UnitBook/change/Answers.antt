use Rattle.std.proofs.Common.{◌≡◌, ◌≤◌, ℕ, length, Option, None, nat_eq, arith, refl, sym, ap, subst, ◌∙◌}
use Rattle.std.specs.Option.{IfSome}
use Rattle.std.specs.Cmp.{nat_eq_equiv}
use Rattle.std.specs.List.{IsDistinct}
use Rattle.pitch_messages.specs.declared.order.Order.{Order}
use Rattle.pitch_model.specs.Book.{Book, changed, changed_by}
use Rattle.indexmap.specs.IndexMap.{Updates, set_value_at}
use Rattle.indexmap.proofs.CallerLemmas.{keys-with_value_at, updates-with_value_at, index_map_len-with_value_at}
use Rattle.order_book.specs.Standing.{Standing, book_of}
use Rattle.order_book.proofs.Changing.{same_value, nothing_changed, rewritten, taken_out}
use Rattle.order_book.proofs.Keeping.{kept_change}
use Rattle.order_book.proofs.unit_book.UnitBook.change.Goals as goal

pub returns-in_default-clause-book : goal.returns-in_default-clause-book
returns-in_default-clause-book c =
    let old = ap (λ (s : Standing). s.book) c.self.view_is in
    subst (λ (b : Book). b ≡ changed b c.args.id (changed_by c.args.change)) old
    (nothing_changed c.self.inside.second c.self.inside.orders.entries c.self.inside.statuses.statuses c.args.id (changed_by c.args.change) (sym c.in_default.ensures.value))

pub returns-then-shares_left-eq0-clause-book : goal.returns-then-shares_left-eq0-clause-book
returns-then-shares_left-eq0-clause-book c =
    let old = ap (λ (s : Standing). s.book) c.self.view_is in
    let removed = c.swap_remove_index.ensures in
    let updates = subst (λ (r : Option (ℕ × Order)). IfSome r (λ p. Updates nat_eq c.self.inside.orders c.swap_remove_index.new.self p.0 None)) (removed.entry ∙ c.in-Some.ensures.entry) removed.updates in
    subst (λ (b : Book). book_of c.self.inside.second c.swap_remove_index.new.self.entries c.self.inside.statuses.statuses ≡ changed b c.args.id (changed_by c.args.change)) old
    (taken_out c.self.inside.second c.self.inside.orders.entries c.self.inside.statuses.statuses c.args.id (changed_by c.args.change) c.swap_remove_index.new.self.entries
    c.in-Some.field-0-1.now c.in-Some.order.now (changed_by c.args.change c.in-Some.order.now) (sym c.in-Some.ensures.value) (sym c.in-Some.ensures.key) refl
    (sym c.shares_left.ensures ∙ c.if-shares_left-eq0.true) updates.0)

pub returns-clause-book : goal.returns-clause-book
returns-clause-book c =
    let old = ap (λ (s : Standing). s.book) c.self.view_is in
    let place = c.pair_mut-place.ensures in
    let made : c.make_change.new.order ≡ changed_by c.args.change c.in-Some.order.now = c.make_change.ensures ∙ ap (changed_by c.args.change) (same_value _ _ (sym place.value ∙ c.in-Some.ensures.entry)) in
    let written = set_value_at c.self.inside.orders.entries c.in-Some.index c.make_change.new.order in
    let updates = updates-with_value_at c.self.inside.orders c.in-Some.index c.make_change.new.order nat_eq_equiv place.unique c.in-Some.field-0-1.now c.in-Some.order.now c.in-Some.ensures.entry in
    subst (λ (b : Book). book_of c.self.inside.second written c.self.inside.statuses.statuses ≡ changed b c.args.id (changed_by c.args.change)) old
    (rewritten c.self.inside.second c.self.inside.orders.entries c.self.inside.statuses.statuses c.args.id (changed_by c.args.change) written
    c.in-Some.field-0-1.now c.in-Some.order.now c.make_change.new.order (sym c.in-Some.ensures.value) (sym c.in-Some.ensures.key) made
    (λ none. c.if-shares_left-eq0.false (c.shares_left.ensures ∙ sym (ap (λ (o : Order). o.quantity) made) ∙ none)) updates.0)

pub invariant_of-self : goal.invariant_of-self
invariant_of-self c =
    let removed = c.swap_remove_index.ensures in
    let fewer : length c.swap_remove_index.new.self.entries ≤ length c.self.inside.orders.entries = omega (arith, removed.len) in
    let updates = subst (λ (r : Option (ℕ × Order)). IfSome r (λ p. Updates nat_eq c.self.inside.orders c.swap_remove_index.new.self p.0 None)) (removed.entry ∙ c.in-Some.ensures.entry) removed.updates in
    kept_change c.self.inside.second c.self.inside.orders.entries c.self.inside.statuses.statuses c.self.invariant c.swap_remove_index.new.self.entries c.args.id c.args.change removed.unique fewer
    (taken_out c.self.inside.second c.self.inside.orders.entries c.self.inside.statuses.statuses c.args.id (changed_by c.args.change) c.swap_remove_index.new.self.entries
    c.in-Some.field-0-1.now c.in-Some.order.now (changed_by c.args.change c.in-Some.order.now) (sym c.in-Some.ensures.value) (sym c.in-Some.ensures.key) refl
    (sym c.shares_left.ensures ∙ c.if-shares_left-eq0.true) updates.0)

pub invariant_of-self-2 : goal.invariant_of-self-2
invariant_of-self-2 c =
    let place = c.pair_mut-place.ensures in
    let made : c.make_change.new.order ≡ changed_by c.args.change c.in-Some.order.now = c.make_change.ensures ∙ ap (changed_by c.args.change) (same_value _ _ (sym place.value ∙ c.in-Some.ensures.entry)) in
    let written = set_value_at c.self.inside.orders.entries c.in-Some.index c.make_change.new.order in
    let count = index_map_len-with_value_at c.self.inside.orders c.in-Some.index c.make_change.new.order in
    let keys = keys-with_value_at c.self.inside.orders c.in-Some.index c.make_change.new.order in
    let unique = subst (IsDistinct nat_eq) (sym keys) place.unique in
    let fewer : length written ≤ length c.self.inside.orders.entries = omega arith in
    let updates = updates-with_value_at c.self.inside.orders c.in-Some.index c.make_change.new.order nat_eq_equiv place.unique c.in-Some.field-0-1.now c.in-Some.order.now c.in-Some.ensures.entry in
    kept_change c.self.inside.second c.self.inside.orders.entries c.self.inside.statuses.statuses c.self.invariant written c.args.id c.args.change unique fewer
    (rewritten c.self.inside.second c.self.inside.orders.entries c.self.inside.statuses.statuses c.args.id (changed_by c.args.change) written
    c.in-Some.field-0-1.now c.in-Some.order.now c.make_change.new.order (sym c.in-Some.ensures.value) (sym c.in-Some.ensures.key) made
    (λ none. c.if-shares_left-eq0.false (c.shares_left.ensures ∙ sym (ap (λ (o : Order). o.quantity) made) ∙ none)) updates.0)

pub returns-clause-spare : goal.returns-clause-spare
returns-clause-spare c =
    let spare = ap (λ (s : Standing). s.spare) c.self.view_is in
    let count = index_map_len-with_value_at c.self.inside.orders c.in-Some.index c.make_change.new.order in
    omega arith
