use Rattle.std.proofs.Common.{subst}
use Rattle.std.proofs.lemmas.Result.{on_ok_weaker}
use Rattle.sending_end.specs.Waiting.{made}
use Rattle.sending_end.specs.Stands.{Passes}
use Rattle.sending_end.specs.declared.session.Session.{Session}
use Rattle.world_model.proofs.Sessions.{passes_opened}
use Rattle.world_model.proofs.world.World.open.Goals as goal

pub returns : goal.returns
returns c = on_ok_weaker c.connected.result (λ passes s has.
    passes_opened c.args.session c.args.self.now s has c.connect.new.venue c.connected.new.self c.in_ok-connect.ensures
    (subst (λ (session : Session). Passes c.args.self.now.client c.connected.new.self (made session)) c.at_client.ensures passes)) c.connected.ensures.passes
