use Rattle.net_edge.proofs.Sharing.{has_nothing}
use Rattle.net_edge.proofs.shared.SharedMarket.open.Goals as goal

pub returns : goal.returns
returns g c = has_nothing c.in_ok-writer.writer c.in_ok-writer.ensures.writer c.in_ok-writer.ensures.reaches
