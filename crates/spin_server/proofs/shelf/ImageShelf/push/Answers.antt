use Rattle.std.proofs.Common.{◌≡◌, ◌<◌, ◌≤◌, ◌+◌, ℕ, List, length, ap, ◌∙◌, sym, subst, arith, refl}
use Rattle.std.proofs.lemmas.Bool.{eqb-true}
use Rattle.std.specs.FinMap as map
use Rattle.pitch_model.specs.Book.{Book}
use Rattle.pitch_model.proofs.Books.{after_len}
use Rattle.spin_server.specs.Shelves.{Shelf}
use Rattle.spin_server.specs.Stands.{ShelfStands}
use Rattle.pitch_model.specs.Advertising.{accepted_by}
use Rattle.spin_server.proofs.Shelving.{kept_first, kept_more, keeps_first, keeps_more, not_none, stands_pushed}
use Rattle.spin_server.proofs.shelf.ImageShelf.push.Goals as goal

pub invariant_of-self-then-is_empty : goal.invariant_of-self-then-is_empty
invariant_of-self-then-is_empty c =
    let pushed = ap (λ (s : Shelf). s.pushed) c.self.view_is in
    let none : length c.self.inside.served.items ≡ 0 = sym (ap length c.as_slice.ensures.value) ∙ eqb-true (length c.as_slice.result.now) 0 (sym c.if-is_empty.ensures) in
    kept_first c.self.inside.base.book _ _ _ _ c.self.invariant none (omega (arith, pushed))
    (subst (λ (b : Book). map.len b.orders ≤ map.len c.self.inside.base.book.orders + 1) (sym c.in_ok-apply.ensures.ok) (after_len c.self.inside.base.book c.args.raw.now))

pub invariant_of-self-2 : goal.invariant_of-self-2
invariant_of-self-2 c =
    let pushed = ap (λ (s : Shelf). s.pushed) c.self.view_is in
    let some : 0 < length c.self.inside.served.items = subst (λ (l : List ℕ). 0 < length l) c.as_slice.ensures.value (not_none (length c.as_slice.result.now) (sym c.if-is_empty.ensures)) in
    kept_more _ _ _ c.args.raw.now _ _ c.self.invariant some (omega (arith, pushed)) c.in_ok-push.ensures.ok

pub returns-then-is_empty-clause-ok : goal.returns-then-is_empty-clause-ok
returns-then-is_empty-clause-ok c = λ operations stands.
    let none : length c.self.inside.served.items ≡ 0 = sym (ap length c.as_slice.ensures.value) ∙ eqb-true (length c.as_slice.result.now) 0 (sym c.if-is_empty.ensures) in
    let s = subst (λ (shelf : Shelf). ShelfStands shelf operations) (sym c.self.view_is) stands in
    stands_pushed _ _ operations c.args.raw.now s (keeps_first c.self.inside.base.book c.apply.new.self.book c.self.inside.after.items c.args.raw.now c.self.inside.pushed c.self.inside.served.items (accepted_by operations) s.keeps none c.in_ok-apply.ensures.ok) refl

pub returns-clause-ok : goal.returns-clause-ok
returns-clause-ok c = λ operations stands.
    let some : 0 < length c.self.inside.served.items = subst (λ (l : List ℕ). 0 < length l) c.as_slice.ensures.value (not_none (length c.as_slice.result.now) (sym c.if-is_empty.ensures)) in
    let s = subst (λ (shelf : Shelf). ShelfStands shelf operations) (sym c.self.view_is) stands in
    stands_pushed _ _ operations c.args.raw.now s (keeps_more c.self.inside.base.book c.self.inside.after.items _ c.args.raw.now c.self.inside.pushed c.self.inside.served.items (accepted_by operations) c.self.invariant s.keeps some c.in_ok-push.ensures.ok) refl
