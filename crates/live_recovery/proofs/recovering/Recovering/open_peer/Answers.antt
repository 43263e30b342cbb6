use Rattle.std.proofs.Common.{refl, sym}
use Rattle.std.proofs.lemmas.Bool.{eq-eqb}
use Rattle.live_net.specs.LiveCalls.{LiveCall, Open}
use Rattle.live_net.specs.declared.live.PeerOpened.TheVariants as opened
use Rattle.live_turns.specs.declared.due.Due.TheVariants as to
use Rattle.live_recovery.specs.Standing.{devices, now_of}
use Rattle.live_recovery.specs.declared.recovering.Recovering.{Recovering}
use Rattle.live_units.proofs.Growing.{grown_none}
use Rattle.live_recovery.proofs.Bringing.{opens, same_still}
use Rattle.live_recovery.proofs.Going.{goes_on, goes_still}
use Rattle.live_recovery.proofs.recovering.Recovering.open_peer.Goals as goal

pub returns-in_default-clause-goes : goal.returns-in_default-clause-goes
returns-in_default-clause-goes g c = λ start w about. goes_still c.args.setup.now start (devices (g.N.LiveNet.calls c.args.net.now) w) c.args.self.now (to.Open c.args.at) about

pub returns-in-Begun-clause-goes : goal.returns-in-Begun-clause-goes
returns-in-Begun-clause-goes g c = λ start w about.
    let s = c.args.setup.now in
    let r : Recovering = c.args.self.now in
    let peer = c.in-Some.peer in
    let made = opens s c.args.at peer (sym c.in-Some.ensures) r.units c.connected-made.new.self c.connected-made.result c.connected-made.ensures.passes c.connected-made.ensures.err start.written w about.came about.stands.units in
    goes_on s start (devices (g.N.LiveNet.calls c.args.net.now) w) r (to.Open c.args.at) about (Open c.args.at opened.Begun) refl (devices (g.N.LiveNet.calls c.open.new.self) w)
    (record r { turns = c.begun.new.self; units = c.connected-made.new.self }) made.after c.in-Begun.ensures.calls made.brings made.stand refl (grown_none w) tt refl c.begun.ensures

pub returns-in-Refused-clause-goes : goal.returns-in-Refused-clause-goes
returns-in-Refused-clause-goes g c = λ start w about.
    let r : Recovering = c.args.self.now in
    let call : LiveCall = Open c.args.at opened.Refused in
    goes_on c.args.setup.now start (devices (g.N.LiveNet.calls c.args.net.now) w) r (to.Open c.args.at) about call refl (devices (g.N.LiveNet.calls c.open.new.self) w)
    (record r { turns = c.ended.new.self }) about.came c.in-Refused.ensures.calls (same_still (now_of about.came r.units)) about.stands.units refl (grown_none w) tt refl (c.ended.ensures call (eq-eqb c.args.at c.args.at refl))
