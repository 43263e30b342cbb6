use Rattle.std.proofs.Common.{OnOk, sym, subst}
use Rattle.pitch_text.specs.declared.verb.Session.{Session}
use Rattle.venue_end.specs.Stands.{Comes}
use Rattle.world_model.specs.Ends.{server_took}
use Rattle.world_model.proofs.venue.take.Goals as goal

pub returns-in-Grp-clause-comes : goal.returns-in-Grp-clause-comes
returns-in-Grp-clause-comes c = subst (λ (session : Session). OnOk c.take_proxy.result (Comes c.args.venue.now c.take_proxy.new.self (server_took session c.args.piece.now))) (sym c.in-Grp.is) c.take_proxy.ensures.stands

pub returns-in-Spin-clause-comes : goal.returns-in-Spin-clause-comes
returns-in-Spin-clause-comes c = subst (λ (session : Session). OnOk c.take_spin.result (Comes c.args.venue.now c.take_spin.new.self (server_took session c.args.piece.now))) (sym c.in-Spin.is) c.take_spin.ensures.stands
