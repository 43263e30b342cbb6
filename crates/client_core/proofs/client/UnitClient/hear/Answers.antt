use Rattle.client_core.specs.Client.{held_number}
use Rattle.client_core.proofs.ItemRoom.{all_can}
use Rattle.client_core.proofs.Outcomes.{if_ok}
use Rattle.client_core.proofs.client.UnitClient.hear.Goals as goal

pub returns-clause-applies : goal.returns-clause-applies
returns-clause-applies c = if_ok _ _ c.hear_with.result (λ change applies other. let a = applies other in (a.0, a.2)) c.hear_with.ensures.applies

pub returns-clause-memory : goal.returns-clause-memory
returns-clause-memory c = λ room. c.hear_with.ensures.memory room (all_can c.args.item.now (held_number c.args.self.now) _ (λ count. tt))
