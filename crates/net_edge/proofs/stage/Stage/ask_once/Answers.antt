use Rattle.venue_end.proofs.Tables.{if_ok_map}
use Rattle.std.proofs.lemmas.Result.{IfErr-weaker}
use Rattle.net_edge.proofs.stage.Stage.ask_once.Goals as goal

pub returns-in-Line-clause-asked : goal.returns-in-Line-clause-asked
returns-in-Line-clause-asked g c = rw c.in-Line.is (if_ok_map _ _ c.hear_once.result c.hear_once.ensures.asked (λ answer asked s base now at may. asked s base now c.args.more at may))

pub returns-in-Line-clause-broke : goal.returns-in-Line-clause-broke
returns-in-Line-clause-broke g c = rw c.in-Line.is (IfErr-weaker c.hear_once.result _ _ (λ error broke s base now at may. broke s base now c.args.more at may) c.hear_once.ensures.broke)

pub returns-in-End-clause-broke : goal.returns-in-End-clause-broke
returns-in-End-clause-broke g c = rw c.in-End.is c.take_once.ensures.broke
