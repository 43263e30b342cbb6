use Rattle.net_edge.specs.Due.{setting}
use Rattle.net_edge.proofs.Sending.{sends_pieces}
use Rattle.net_edge.proofs.running.demo.Goals as goal

pub returns-clause-pieces : goal.returns-clause-pieces
returns-clause-pieces g c = sends_pieces (setting c.args.number c.args.count) _ _ _ _ c.demo_opened.result c.demo_opened.ensures.ran c.demo_opened.ensures.broke
