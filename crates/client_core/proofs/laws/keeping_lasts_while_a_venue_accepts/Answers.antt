use Rattle.client_core.proofs.KeepingLemmas.{keeps_more}
use Rattle.client_core.proofs.laws.keeping_lasts_while_a_venue_accepts.Goals as goal

pub returns : goal.returns
returns c = λ client V more within K. keeps_more client.hold client.book.book V more within K
