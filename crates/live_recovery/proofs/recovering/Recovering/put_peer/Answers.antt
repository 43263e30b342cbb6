use Rattle.std.proofs.Common.{ℕ, List, take, refl, sym}
use Rattle.std.proofs.lemmas.Bool.{eq-eqb}
use Rattle.live_net.specs.LiveCalls.{LiveCall, Put}
use Rattle.live_net.specs.declared.live.PeerPut.TheVariants as put
use Rattle.live_turns.specs.declared.due.Due.TheVariants as to
use Rattle.live_units.specs.Coming.{to_unit, with_came}
use Rattle.sending_end.specs.Waiting.{ended}
use Rattle.live_recovery.specs.Standing.{devices, now_of}
use Rattle.live_recovery.specs.declared.recovering.Recovering.{Recovering}
use Rattle.live_units.proofs.Growing.{grown_none}
use Rattle.live_recovery.proofs.Bringing.{ends_comes, is_first, same_still, sends_so}
use Rattle.live_recovery.proofs.Going.{goes_on, goes_still}
use Rattle.live_recovery.proofs.recovering.Recovering.put_peer.Goals as goal

pub returns-in_default-clause-goes : goal.returns-in_default-clause-goes
returns-in_default-clause-goes g c = λ start w about. goes_still c.args.setup.now start (devices (g.N.LiveNet.calls c.args.net.now) w) c.args.self.now (to.Put c.args.at) about

pub returns-then-is_empty-clause-goes : goal.returns-then-is_empty-clause-goes
returns-then-is_empty-clause-goes g c = λ start w about. goes_still c.args.setup.now start (devices (g.N.LiveNet.calls c.args.net.now) w) c.args.self.now (to.Put c.args.at) about

pub returns-in-Wrote-clause-goes : goal.returns-in-Wrote-clause-goes
returns-in-Wrote-clause-goes g c = λ start w about.
    let s = c.args.setup.now in
    let r : Recovering = c.args.self.now in
    let peer = c.in-Some.peer in
    let waits : List ℕ = c.waiting_bytes-waiting.result.now in
    let piece : List ℕ = take c.min.result waits in
    let first = is_first s c.args.at peer (sym c.in-Some.ensures) r.units about.came waits c.min.result c.waiting_bytes-waiting.ensures c.min.ensures in
    goes_on s start (devices (g.N.LiveNet.calls c.args.net.now) w) r (to.Put c.args.at) about (Put c.args.at piece (put.Wrote c.in-Wrote.count)) (refl, first) (devices (g.N.LiveNet.calls c.put.new.self) w)
    (record r { turns = c.wrote.new.self; units = c.sent.new.self }) about.came c.in-Wrote.ensures.calls (sends_so s c.args.at peer (sym c.in-Some.ensures) r.units c.sent.new.self c.in-Wrote.count about.came c.sent.ensures)
    (c.sent.ensures.stand w s.listens start.written about.came about.stands.units) refl (grown_none w) tt refl (c.wrote.ensures c.in-Wrote.count piece)

pub returns-in-Full-clause-goes : goal.returns-in-Full-clause-goes
returns-in-Full-clause-goes g c = λ start w about.
    let s = c.args.setup.now in
    let r : Recovering = c.args.self.now in
    let waits : List ℕ = c.waiting_bytes-waiting.result.now in
    let piece : List ℕ = take c.min.result waits in
    let first = is_first s c.args.at c.in-Some.peer (sym c.in-Some.ensures) r.units about.came waits c.min.result c.waiting_bytes-waiting.ensures c.min.ensures in
    goes_on s start (devices (g.N.LiveNet.calls c.args.net.now) w) r (to.Put c.args.at) about (Put c.args.at piece put.Full) (refl, first) (devices (g.N.LiveNet.calls c.put.new.self) w)
    (record r { turns = c.full.new.self }) about.came c.in-Full.ensures.calls (same_still (now_of about.came r.units)) about.stands.units refl (grown_none w) tt refl (c.full.ensures piece)

pub returns-in-Ended-clause-goes : goal.returns-in-Ended-clause-goes
returns-in-Ended-clause-goes g c = λ start w about.
    let s = c.args.setup.now in
    let r : Recovering = c.args.self.now in
    let peer = c.in-Some.peer in
    let waits : List ℕ = c.waiting_bytes-waiting.result.now in
    let piece : List ℕ = take c.min.result waits in
    let first = is_first s c.args.at peer (sym c.in-Some.ensures) r.units about.came waits c.min.result c.waiting_bytes-waiting.ensures c.min.ensures in
    let call : LiveCall = Put c.args.at piece put.Ended in
    let cut = ends_comes s c.args.at peer (sym c.in-Some.ensures) r.units c.end_peer.new.self.units start.written w about.came about.stands.units c.end_peer.ensures.units in
    goes_on s start (devices (g.N.LiveNet.calls c.args.net.now) w) r (to.Put c.args.at) about call (refl, first) (devices (g.N.LiveNet.calls c.put.new.self) w) c.end_peer.new.self
    (with_came s.listens (to_unit peer.unit (ended peer.session)) about.came) c.in-Ended.ensures.calls cut.1 cut.0 c.end_peer.ensures.counts (grown_none w) tt c.end_peer.ensures.copies (c.end_peer.ensures.turns call (eq-eqb c.args.at c.args.at refl))
