use Rattle.std.proofs.Common.{◌≡◌, ◌-◌, length, fold, take, ap, ◌∙◌, subst, arith, List, ℕ}
use Rattle.pitch_model.specs.Book.{Book, after}
use Rattle.spin_server.specs.Shelves.{Shelf}
use Rattle.spin_server.specs.layers.ShelfCode.{IsShelf}
use Rattle.spin_server.proofs.Shelving.{served_between, book_to}
use Rattle.spin_server.proofs.shelf.ImageShelf.book_at.Goals as goal

kept : (c : goal.After-raws) → IsShelf c.args.self.now
kept c = subst (λ (s : Shelf). IsShelf s) c.self.view_is c.self.invariant

pub overflow_sub-sequence : goal.overflow_sub-sequence
overflow_sub-sequence c =
    let now : Shelf = c.args.self.now in
    let between = served_between now.base now.after now.pushed now.served c.args.sequence (kept c) c.requires in
    omega (arith, between.0, c.oldest-oldest.ensures.oldest)

pub advance-requires-clause-there : goal.advance-requires-clause-there
advance-requires-clause-there c =
    let now : Shelf = c.args.self.now in
    let between = served_between now.base now.after now.pushed now.served c.args.sequence (kept c) c.requires in
    let size = (kept c).size in
    let there : length c.raws.result ≡ length now.after = ap length c.raws.ensures ∙ ap (λ (s : Shelf). length s.after) c.self.view_is in
    omega (arith, between.1, c.oldest-oldest.ensures.oldest)

pub returns : goal.returns
returns c = λ messages keeps.
    let now : Shelf = c.args.self.now in
    let kept_now : IsShelf now = subst (λ (s : Shelf). IsShelf s) c.self.view_is c.self.invariant in
    let between = served_between now.base now.after now.pushed now.served c.args.sequence kept_now c.requires in
    let o : ℕ = c.oldest-oldest.result in
    c.in_ok-advance.ensures.ok
    ∙ ap (λ (b : Book). fold after b (take (c.args.sequence - o) c.raws.result)) (c.in_ok-book.ensures ∙ ap (λ (s : Shelf). s.base) c.self.view_is)
    ∙ ap (λ (l : List (List ℕ)). fold after now.base (take (c.args.sequence - o) l)) (c.raws.ensures ∙ ap (λ (s : Shelf). s.after) c.self.view_is)
    ∙ ap (λ (n : ℕ). fold after now.base (take (c.args.sequence - n) now.after)) c.oldest-oldest.ensures.oldest
    ∙ book_to now.base now.after now.pushed now.served messages c.args.sequence keeps between.0
