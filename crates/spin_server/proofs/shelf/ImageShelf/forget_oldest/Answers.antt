use Rattle.std.proofs.Common.{◌≡◌, ◌-◌, ℕ, List, length, get_or, drop, take, fold, ap, ◌∙◌, sym, subst, refl, arith}
use Rattle.pitch_model.specs.Book.{after}
use Rattle.spin_server.specs.Shelves.{Shelf, ShelfKeeps}
use Rattle.spin_server.proofs.Shelving.{Moves, moves, first_two, kept_moved, keeps_moved, remove_first}
use Rattle.spin_server.proofs.shelf.ImageShelf.forget_oldest.Goals as goal

pub advance-requires-clause-there : goal.advance-requires-clause-there
advance-requires-clause-there c =
    let served : List ℕ = c.self.inside.served.items in
    let full : length served ≡ 10 = ap (λ (s : Shelf). length s.served) c.self.view_is ∙ c.requires in
    let two = first_two c.self.inside.base.book c.self.inside.after.items c.self.inside.pushed served c.self.invariant full in
    let size = c.self.invariant.size in
    let up = two.0 in
    let top = two.1 in
    let at = two.2 in
    let a : get_or c.as_slice-served.result.now 0 0 ≡ get_or served 0 0 = ap (λ (l : List ℕ). get_or l 0 0) c.as_slice-served.ensures.value in
    let b : get_or c.as_slice-served.result.now 1 0 ≡ get_or served 1 0 = ap (λ (l : List ℕ). get_or l 1 0) c.as_slice-served.ensures.value in
    let there = ap length c.raws-2.ensures in
    omega arith

moved : (c : goal.After-remove) → Moves c.self.inside.base.book c.advance.new.book.book c.self.inside.after.items c.in_ok-left.left.items c.self.inside.served.items c.remove.new.self.items (get_or c.as_slice-served.result.now 1 0 - get_or c.as_slice-served.result.now 0 0)
moved c =
    let served : List ℕ = c.self.inside.served.items in
    let full : length served ≡ 10 = ap (λ (s : Shelf). length s.served) c.self.view_is ∙ c.requires in
    let count : ℕ = get_or c.as_slice-served.result.now 1 0 - get_or c.as_slice-served.result.now 0 0 in
    moves c.self.inside.base.book c.advance.new.book.book c.self.inside.base.book c.self.inside.after.items c.in_ok-left.left.items served c.remove.new.self.items
    (get_or c.as_slice-served.result.now 0 0) (get_or c.as_slice-served.result.now 1 0) count full
    (ap (λ (l : List ℕ). get_or l 0 0) c.as_slice-served.ensures.value) (ap (λ (l : List ℕ). get_or l 1 0) c.as_slice-served.ensures.value)
    (c.remove.ensures.items ∙ remove_first served) refl
    (c.in_ok-advance.ensures.ok ∙ ap (λ (l : List (List ℕ)). fold after c.self.inside.base.book (take count l)) c.raws-2.ensures)
    c.in_ok-advance.ensures.few
    (c.in_ok-left.ensures ∙ c.after.ensures ∙ ap (drop count) c.raws.ensures)

pub invariant_of-self-2 : goal.invariant_of-self-2
invariant_of-self-2 c = kept_moved _ _ _ _ _ _ _ _ (moved c) c.self.invariant

pub returns-clause-keeps : goal.returns-clause-keeps
returns-clause-keeps c = λ messages keeps. keeps_moved _ _ _ _ _ _ _ _ messages (moved c) c.self.invariant (subst (λ (s : Shelf). ShelfKeeps s messages) (sym c.self.view_is) keeps)
