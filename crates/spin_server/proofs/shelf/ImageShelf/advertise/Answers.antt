use Rattle.std.proofs.Common.{◌++◌, ◌∷◌, [], List, ℕ, length, ap, ◌∙◌, sym, drop}
use Rattle.std.proofs.lemmas.Bool.{eqb-true}
use Rattle.pitch_model.specs.Advertising.{accepted_by}
use Rattle.spin_server.specs.Shelves.{Shelf}
use Rattle.spin_server.proofs.Shelving.{stands_again, stands_on, stands_moved, below_ten}
use Rattle.spin_server.proofs.shelf.ImageShelf.advertise.Goals as goal

pub returns-then-serves_newest-clause-ok : goal.returns-then-serves_newest-clause-ok
returns-then-serves_newest-clause-ok c = λ operations stands. stands_again c.args.self.now operations stands (sym c.if-serves_newest.ensures)

pub returns-then-is_full-clause-ok : goal.returns-then-is_full-clause-ok
returns-then-is_full-clause-ok c = λ operations stands.
    let f : Shelf = c.forget_oldest.new.self in
    stands_moved c.args.self.now c.serve_newest.new.self operations stands (sym c.if-serves_newest.ensures) (eqb-true (length c.args.self.now.served) 10 (sym c.if-is_full.ensures.full))
    (c.serve_newest.ensures.keeps (accepted_by operations) (c.in_ok-forget_oldest.ensures.keeps (accepted_by operations) stands.keeps))
    (c.serve_newest.ensures.served ∙ ap (λ (l : List ℕ). l ++ f.pushed ∷ []) c.in_ok-forget_oldest.ensures.served ∙ ap (λ (n : ℕ). drop 1 c.args.self.now.served ++ n ∷ []) c.in_ok-forget_oldest.ensures.pushed)

pub serve_newest-requires-2 : goal.serve_newest-requires-2
serve_newest-requires-2 c = below_ten (length c.args.self.now.served) (sym c.if-is_full.ensures.full) c.is_full.ensures.ten

pub returns-clause-ok : goal.returns-clause-ok
returns-clause-ok c = λ operations stands.
    stands_on c.args.self.now c.serve_newest-2.new.self operations stands (sym c.if-serves_newest.ensures) (below_ten (length c.args.self.now.served) (sym c.if-is_full.ensures.full) c.is_full.ensures.ten)
    (c.serve_newest-2.ensures.keeps (accepted_by operations) stands.keeps) c.serve_newest-2.ensures.served
