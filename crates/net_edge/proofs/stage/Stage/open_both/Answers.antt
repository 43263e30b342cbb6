use Rattle.std.proofs.lemmas.Result.{on_ok_weaker}
use Rattle.net_edge.proofs.Staging.{becomes_then}
use Rattle.net_edge.proofs.stage.Stage.open_both.Goals as goal

pub returns : goal.returns
returns g c = on_ok_weaker c.open-2.result (λ second. becomes_then c.in_ok-open.ensures second) c.open-2.ensures
