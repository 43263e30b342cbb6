use Rattle.std.proofs.Common.{◌∙◌, sym, subst}
use Rattle.spin_server.specs.layers.ShelfCode.{IsShelf}
use Rattle.spin_server.proofs.Shelving.{looks_not, looks_image}
use Rattle.spin_server.proofs.shelf.ImageShelfImageLookup.image.Goals as goal

pub returns-then-not-serves-clause-found : goal.returns-then-not-serves-clause-found
returns-then-not-serves-clause-found c = λ v shows.
    looks_not _ v c.args.self.now c.args.sequence _ shows (subst IsShelf c.self.view_is c.self.invariant) shows (sym c.serves.ensures.served ∙ c.if-not-serves.true)

pub returns-clause-found : goal.returns-clause-found
returns-clause-found c = λ v shows.
    looks_image _ v c.args.self.now c.args.sequence _ c.in_ok-book.book.book _ _ shows (subst IsShelf c.self.view_is c.self.invariant) shows (sym c.serves.ensures.served ∙ c.if-not-serves.false)
    (c.in_ok-book.ensures v.messages shows.keeps) c.in_ok-orders.ensures.count c.in_ok-orders.ensures.ok
