use Rattle.std.proofs.Common.{ap, ◌∙◌}
use Rattle.pitch_model.specs.Advertising.{newest_of}
use Rattle.spin_server.specs.Shelves.{Shelf}
use Rattle.spin_server.proofs.Shelving.{sees_newest}
use Rattle.spin_server.proofs.shelf.ImageShelfImageLookup.newest.Goals as goal

pub returns-clause-sees : goal.returns-clause-sees
returns-clause-sees c = λ v shows. sees_newest _ v _ _ shows shows
    (c.copied.ensures ∙ c.last.ensures.value ∙ ap newest_of c.as_slice.ensures.value ∙ ap (λ (s : Shelf). newest_of s.served) c.self.view_is)
