use Rattle.spin_server.proofs.Shelving.{sees_served}
use Rattle.spin_server.proofs.shelf.ImageShelfImageLookup.has_image.Goals as goal

pub returns-clause-sees : goal.returns-clause-sees
returns-clause-sees c = λ v shows. sees_served _ v c.args.self.now c.args.sequence _ shows c.serves.ensures.ten shows c.serves.ensures.served
