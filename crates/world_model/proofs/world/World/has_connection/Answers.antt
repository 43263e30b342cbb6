use Rattle.std.proofs.Common.{◌≡◌, is_some, ap, ◌∙◌}
use Rattle.sending_end.specs.Waiting.{link_of}
use Rattle.sending_end.specs.declared.session.Session.{Session}
use Rattle.world_model.proofs.Acting.{seen_client}
use Rattle.world_model.proofs.world.World.has_connection.Goals as goal

pub returns : goal.returns
returns c = λ s has.
    seen_client c.args.self.now s has (λ setup now. c.has.result ≡ is_some (link_of c.at_client.result now)) c.has.ensures ∙ ap (λ (session : Session). is_some (link_of session s.client)) c.at_client.ensures
