use Rattle.std.proofs.Common.{sym, ◌∙◌}
use Rattle.world_model.proofs.Sessions.{passes_settled, passes_still}
use Rattle.world_model.proofs.world.World.settle.Goals as goal

pub returns-then-not-has_connection : goal.returns-then-not-has_connection
returns-then-not-has_connection c = λ s has. passes_settled c.args.session c.args.self.now s has c.cut.new.venue (sym (c.has_connection.ensures s has) ∙ c.if-not-has_connection.true) c.cut.ensures

pub returns-else-not-has_connection : goal.returns-else-not-has_connection
returns-else-not-has_connection c = λ s has. passes_still c.args.session c.args.self.now s has (sym (c.has_connection.ensures s has) ∙ c.if-not-has_connection.false)
