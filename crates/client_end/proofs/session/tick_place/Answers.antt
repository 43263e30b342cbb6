use Rattle.std.proofs.lemmas.Result.{on_ok_weaker}
use Rattle.session_ends.specs.Events.{Ticked}
use Rattle.client_end.proofs.Places.{said_some}
use Rattle.client_end.proofs.session.tick_place.Goals as goal

pub returns-in-Some-clause-says : goal.returns-in-Some-clause-says
returns-in-Some-clause-says g c = on_ok_weaker c.tick.result (λ says setup link is. said_some setup link c.args.place.now c.in-Some.link Ticked c.args.said.now.items c.tick.new.out.items c.in-Some.is says is) c.tick.ensures.says
