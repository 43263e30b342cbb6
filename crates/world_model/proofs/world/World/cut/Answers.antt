use Rattle.std.proofs.Common.{sym, subst, ◌∙◌}
use Rattle.sending_end.specs.Waiting.{ended}
use Rattle.sending_end.specs.Stands.{Passes}
use Rattle.sending_end.specs.declared.session.Session.{Session}
use Rattle.world_model.proofs.Sessions.{acts_cut, passes_ended}
use Rattle.world_model.proofs.world.World.cut.Goals as goal

pub returns-then-has_connection : goal.returns-then-has_connection
returns-then-has_connection c = λ s has.
    acts_cut c.args.session c.args.self.now s has _ c.calm.result (sym (c.has_connection.ensures s has) ∙ c.if-has_connection.true)
    (passes_ended c.args.session c.args.self.now s has c.cut.new.venue c.cut-then-has_connection.new.self c.cut.ensures (subst (λ (session : Session). Passes c.args.self.now.client c.cut-then-has_connection.new.self (ended session)) c.at_client.ensures c.cut-then-has_connection.ensures)) c.calm.ensures
