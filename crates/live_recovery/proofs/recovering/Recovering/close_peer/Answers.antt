use Rattle.std.proofs.Common.{refl, sym}
use Rattle.std.proofs.lemmas.Bool.{eq-eqb}
use Rattle.live_net.specs.LiveCalls.{LiveCall, Close}
use Rattle.live_turns.specs.declared.due.Due.TheVariants as to
use Rattle.live_units.specs.Coming.{to_unit, with_came}
use Rattle.sending_end.specs.Waiting.{ended}
use Rattle.live_recovery.specs.Standing.{devices}
use Rattle.live_recovery.specs.declared.recovering.Recovering.{Recovering}
use Rattle.live_units.proofs.Growing.{grown_none}
use Rattle.live_recovery.proofs.Bringing.{ends_comes}
use Rattle.live_recovery.proofs.Going.{goes_on, goes_still}
use Rattle.live_recovery.proofs.recovering.Recovering.close_peer.Goals as goal

pub returns-in_default-clause-goes : goal.returns-in_default-clause-goes
returns-in_default-clause-goes g c = λ start w about. goes_still c.args.setup.now start (devices (g.N.LiveNet.calls c.args.net.now) w) c.args.self.now (to.Close c.args.at) about

pub returns-clause-goes : goal.returns-clause-goes
returns-clause-goes g c = λ start w about.
    let s = c.args.setup.now in
    let r : Recovering = c.args.self.now in
    let peer = c.in-Some.peer in
    let call : LiveCall = Close c.args.at in
    let cut = ends_comes s c.args.at peer (sym c.in-Some.ensures) r.units c.end_peer.new.self.units start.written w about.came about.stands.units c.end_peer.ensures.units in
    goes_on s start (devices (g.N.LiveNet.calls c.args.net.now) w) r (to.Close c.args.at) about call refl (devices (g.N.LiveNet.calls c.close.new.self) w) c.end_peer.new.self
    (with_came s.listens (to_unit peer.unit (ended peer.session)) about.came) c.close.ensures.calls cut.1 cut.0 c.end_peer.ensures.counts (grown_none w) tt c.end_peer.ensures.copies (c.end_peer.ensures.turns call (eq-eqb c.args.at c.args.at refl))
