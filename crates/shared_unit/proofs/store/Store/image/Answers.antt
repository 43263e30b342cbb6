use Rattle.std.proofs.Common.{◌≡◌, ◌∙◌, List, ℕ, Option, Some, ap, sym, subst, slice_get}
use Rattle.std.specs.Option.{IsSomeAnd, option_map}
use Rattle.std.specs.Arc.{arc_value}
use Rattle.pitch_messages.specs.Room.{Roomy}
use Rattle.pitch_model.specs.Advertising.{Operation}
use Rattle.spin_server.specs.declared.lookup.Imaged.TheVariants.{Image}
use Rattle.shared_unit.specs.declared.published.Picture.{Picture}
use Rattle.shared_unit.specs.layers.Answers.{AnswersImage}
use Rattle.shared_unit.specs.layers.Histories.{served_at}
use Rattle.shared_unit.specs.layers.Stored.{raws_in}
use Rattle.shared_unit.proofs.Copying.{image_found}
use Rattle.shared_unit.proofs.store.Store.image.Goals as goal

pub returns-clause-answer : goal.returns-clause-answer
returns-clause-answer g c =
    let p : Picture = c.in-Some-get.picture.now in
    let at : slice_get c.self.inside.shelves.pictures.items c.in-Some.place ≡ Some p = sym c.in-Some-get.ensures in
    let is : p.sequence ≡ c.args.sequence = subst (λ (o : Option Picture). IsSomeAnd o (λ q. q.sequence ≡ c.args.sequence)) at c.in-Some.ensures.some in
    let has : raws_in p ≡ Some c.raws.result =
    ap (option_map (λ shared. (arc_value {X = Roomy (List ℕ)} shared).items)) c.in-Some-raws.is ∙ ap (λ (l : Roomy (List ℕ)). Some l.items) (sym c.deref.ensures) ∙ ap (λ (l : List (List ℕ)). Some l) (sym c.raws.ensures) in
    subst (λ (h : List Operation). AnswersImage (served_at h) c.args.sequence (Image p.orders) c.args.out.now.items c.append_raws.new.out.items) c.self.view_is
    (image_found (served_at c.self.inside.past) c.self.inside.shelves.pictures.items c.in-Some.place c.args.sequence p c.raws.result _ _ c.self.invariant.pictures_are c.self.invariant.right at is has c.in_ok-append_raws.ensures.ok)
