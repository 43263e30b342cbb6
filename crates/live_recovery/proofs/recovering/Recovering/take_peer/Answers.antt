use Rattle.std.proofs.Common.{ℕ, List, [], take, length, refl, sym}
use Rattle.std.proofs.lemmas.Bool.{eq-eqb}
use Rattle.live_net.specs.LiveCalls.{LiveCall, Take}
use Rattle.live_net.specs.declared.live.PeerTaken.TheVariants as taken
use Rattle.live_turns.specs.declared.due.Due.TheVariants as to
use Rattle.live_units.specs.Coming.{to_unit, with_came}
use Rattle.stream_print.specs.declared.failure.PrintError.TheVariants as printing
use Rattle.sending_end.specs.Waiting.{ended}
use Rattle.live_recovery.specs.Standing.{devices, now_of}
use Rattle.live_recovery.specs.declared.error.RecoverError.TheVariants as errors
use Rattle.live_recovery.specs.declared.recovering.Recovering.{Recovering}
use Rattle.live_units.proofs.Growing.{grown_none}
use Rattle.live_recovery.proofs.Bringing.{comes_now, ends_comes, same_still, takes, untold}
use Rattle.live_recovery.proofs.Ending.{ends_by_puts, leaves_prefix, steps_same}
use Rattle.live_recovery.proofs.Going.{goes_on, goes_still}
use Rattle.live_recovery.proofs.recovering.Recovering.take_peer.Goals as goal

pub returns-in_default-clause-steps : goal.returns-in_default-clause-steps
returns-in_default-clause-steps g c = λ start about. goes_still c.args.setup.now start (devices (g.N.LiveNet.calls c.args.net.now) (g.O.Sink.written c.args.out.now)) c.args.self.now (to.Take c.args.at) about

pub returns-in_err-took-in-Got-clause-steps : goal.returns-in_err-took-in-Got-clause-steps
returns-in_err-took-in-Got-clause-steps g c = λ start about.
    let s = c.args.setup.now in
    let r : Recovering = c.args.self.now in
    let bytes : List ℕ = take c.in-Got.count c.take.new.into in
    let room : ℕ = length c.args.into.now in
    let u = devices (g.N.LiveNet.calls c.args.net.now) (g.O.Sink.written c.args.out.now) in
    let v = devices (g.N.LiveNet.calls c.take.new.self) (g.O.Sink.written c.took.new.out) in
    let failed = c.in_err-took-in-Got.ensures.takes in
    steps_same s c.from_residual.result _ start v _ c.from_residual.ensures
    (ends_by_puts s start u r (to.Take c.args.at) about (Take c.args.at room bytes (taken.Got c.in-Got.count)) (refl, c.requires.room) v c.in-Got.ensures.calls
    (comes_now s c.in-Some.peer.unit failed.0 (now_of about.came r.units)) (untold s c.args.at c.in-Some.peer (sym c.in-Some.ensures) r.units about.came room c.in-Got.count bytes failed.1.0 failed.0 failed.1.1.0)
    (c.took.ensures.grows s.listens start.written about.came about.stands.units) errors.Write (leaves_prefix printing.Write) (failed.1.1.1 s.listens start.written about.came about.stands.units))

pub returns-in_ok-took-in-Got-clause-steps : goal.returns-in_ok-took-in-Got-clause-steps
returns-in_ok-took-in-Got-clause-steps g c = λ start about.
    let s = c.args.setup.now in
    let r : Recovering = c.args.self.now in
    let bytes : List ℕ = take c.in-Got.count c.take.new.into in
    let room : ℕ = length c.args.into.now in
    let u = devices (g.N.LiveNet.calls c.args.net.now) (g.O.Sink.written c.args.out.now) in
    let v = devices (g.N.LiveNet.calls c.take.new.self) (g.O.Sink.written c.took.new.out) in
    let brought = takes s c.args.at c.in-Some.peer (sym c.in-Some.ensures) r.units c.took.new.self room c.in-Got.count bytes c.in_ok-took-in-Got.field-0 (g.O.Sink.written c.args.out.now) (g.O.Sink.written c.took.new.out)
    c.in_ok-took-in-Got.ensures.takes start.written about.came about.stands.units in
    goes_on s start u r (to.Take c.args.at) about (Take c.args.at room bytes (taken.Got c.in-Got.count)) (refl, c.requires.room) v (record r { turns = c.took-in-Got.new.self; units = c.took.new.self }) brought.after c.in-Got.ensures.calls
    brought.brings brought.stand refl (c.took.ensures.grows s.listens start.written about.came about.stands.units) tt refl (c.took-in-Got.ensures room c.in-Got.count bytes)

pub returns-in-Quiet-clause-steps : goal.returns-in-Quiet-clause-steps
returns-in-Quiet-clause-steps g c = λ start about.
    let r : Recovering = c.args.self.now in
    let room : ℕ = length c.args.into.now in
    let w = g.O.Sink.written c.args.out.now in
    goes_on c.args.setup.now start (devices (g.N.LiveNet.calls c.args.net.now) w) r (to.Take c.args.at) about (Take c.args.at room [] taken.Quiet) (refl, c.requires.room) (devices (g.N.LiveNet.calls c.take.new.self) w)
    (record r { turns = c.peer_is_quiet.new.self }) about.came c.in-Quiet.ensures.calls (same_still (now_of about.came r.units)) about.stands.units refl (grown_none w) tt refl (c.peer_is_quiet.ensures room)

pub returns-in-Ended-clause-steps : goal.returns-in-Ended-clause-steps
returns-in-Ended-clause-steps g c = λ start about.
    let s = c.args.setup.now in
    let r : Recovering = c.args.self.now in
    let room : ℕ = length c.args.into.now in
    let w = g.O.Sink.written c.args.out.now in
    let peer = c.in-Some.peer in
    let call : LiveCall = Take c.args.at room [] taken.Ended in
    let cut = ends_comes s c.args.at peer (sym c.in-Some.ensures) r.units c.end_peer.new.self.units start.written w about.came about.stands.units c.end_peer.ensures.units in
    goes_on s start (devices (g.N.LiveNet.calls c.args.net.now) w) r (to.Take c.args.at) about call (refl, c.requires.room) (devices (g.N.LiveNet.calls c.take.new.self) w) c.end_peer.new.self
    (with_came s.listens (to_unit peer.unit (ended peer.session)) about.came) c.in-Ended.ensures.calls cut.1 cut.0 c.end_peer.ensures.counts (grown_none w) tt c.end_peer.ensures.copies (c.end_peer.ensures.turns call (eq-eqb c.args.at c.args.at refl))
