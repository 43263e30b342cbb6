use Rattle.std.proofs.Common.{ℕ, List, [], take, length, refl, subst}
use Rattle.live_net.specs.LiveCalls.{LiveCall, Receive}
use Rattle.live_net.specs.declared.net.Received.TheVariants as received
use Rattle.live_turns.specs.Turning.{Passes}
use Rattle.live_turns.specs.declared.due.Due.TheVariants as to
use Rattle.live_turns.specs.declared.turns.LiveTurns.{LiveTurns}
use Rattle.live_units.specs.Coming.{with_datagram}
use Rattle.stream_print.specs.declared.failure.PrintError.TheVariants as printing
use Rattle.live_recovery.specs.Standing.{devices, now_of}
use Rattle.live_recovery.specs.declared.error.RecoverError.TheVariants as errors
use Rattle.live_recovery.specs.declared.recovering.Recovering.{Recovering}
use Rattle.live_units.proofs.Growing.{grown_none}
use Rattle.live_recovery.proofs.Bringing.{same_still}
use Rattle.live_recovery.proofs.Ending.{ends_by_failing, ends_by_puts, ends_unheard, leaves_prefix, steps_same}
use Rattle.live_recovery.proofs.Going.{goes_by, goes_on}
use Rattle.live_recovery.proofs.recovering.Recovering.ask_line.Goals as goal

pub returns-in_err-hear-in-Got-clause-steps : goal.returns-in_err-hear-in-Got-clause-steps
returns-in_err-hear-in-Got-clause-steps g c = λ start about.
    let s = c.args.setup.now in
    let r : Recovering = c.args.self.now in
    let bytes : List ℕ = take c.in-Got.count c.receive.new.into in
    let u = devices (g.N.LiveNet.calls c.args.net.now) (g.O.Sink.written c.args.out.now) in
    let v = devices (g.N.LiveNet.calls c.receive.new.self) (g.O.Sink.written c.hear.new.out) in
    steps_same s c.from_residual.result _ start v _ c.from_residual.ensures
    (ends_unheard s start u r (to.Receive c.args.line) about c.args.line (length c.args.into.now) c.in-Got.count bytes (refl, c.requires.room) v c.in-Got.ensures.calls
    (c.hear.ensures.grows s.listens start.written about.came about.stands.units) _ (c.in_err-hear-in-Got.ensures.err start.written about.came about.stands.units about.stands.agree))

pub returns-in_ok-hear-in-Got-clause-steps : goal.returns-in_ok-hear-in-Got-clause-steps
returns-in_ok-hear-in-Got-clause-steps g c = λ start about.
    let s = c.args.setup.now in
    let r : Recovering = c.args.self.now in
    let hears = c.in_ok-hear-in-Got.ensures.hears in
    let bytes : List ℕ = take c.in-Got.count c.receive.new.into in
    let room : ℕ = length c.args.into.now in
    let u = devices (g.N.LiveNet.calls c.args.net.now) (g.O.Sink.written c.args.out.now) in
    let v = devices (g.N.LiveNet.calls c.receive.new.self) (g.O.Sink.written c.hear.new.out) in
    let heard : Recovering = c.hear.new.self in
    let call : LiveCall = Receive c.args.line room bytes (received.Got c.in-Got.count) in
    goes_by s start u r (to.Receive c.args.line) about call (refl, c.requires.room) v (record heard { turns = c.received.new.self }) (with_datagram s.listens bytes about.came) c.in-Got.ensures.calls
    (record { came_is = refl; waits = λ unit session. hears.waits unit session }) (hears.units s.listens start.written about.came about.stands.units) (hears.counts s.listens start.written about.came about.stands.units)
    (c.hear.ensures.grows s.listens start.written about.came about.stands.units)
    (c.in_ok-hear-in-Got.ensures.agrees about.came about.stands.agree) (subst (λ (t : LiveTurns). Passes t c.received.new.self call) hears.turns (c.received.ensures room c.in-Got.count bytes))

pub returns-in-Quiet-clause-steps : goal.returns-in-Quiet-clause-steps
returns-in-Quiet-clause-steps g c = λ start about.
    let s = c.args.setup.now in
    let r : Recovering = c.args.self.now in
    let room : ℕ = length c.args.into.now in
    let w = g.O.Sink.written c.args.out.now in
    goes_on s start (devices (g.N.LiveNet.calls c.args.net.now) w) r (to.Receive c.args.line) about (Receive c.args.line room [] received.Quiet) (refl, c.requires.room) (devices (g.N.LiveNet.calls c.receive.new.self) w)
    (record r { turns = c.line_is_quiet.new.self }) about.came c.in-Quiet.ensures.calls (same_still (now_of about.came r.units)) about.stands.units refl (grown_none w) tt refl (c.line_is_quiet.ensures room)

pub returns-in_err-flush-in-Failed-clause-steps : goal.returns-in_err-flush-in-Failed-clause-steps
returns-in_err-flush-in-Failed-clause-steps g c = λ start about.
    let s = c.args.setup.now in
    let r : Recovering = c.args.self.now in
    let u = devices (g.N.LiveNet.calls c.args.net.now) (g.O.Sink.written c.args.out.now) in
    let v = devices (g.N.LiveNet.calls c.receive.new.self) (g.O.Sink.written c.flush.new.out) in
    steps_same s c.from_residual-in_err-flush-in-Failed.result _ start v _ c.from_residual-in_err-flush-in-Failed.ensures
    (ends_by_puts s start u r (to.Receive c.args.line) about (Receive c.args.line (length c.args.into.now) [] received.Failed) (refl, c.requires.room) v c.in-Failed.ensures.calls
    (now_of about.came r.units) (same_still (now_of about.came r.units)) (c.flush.ensures.grows s.listens start.written about.came about.stands.units) errors.Write (leaves_prefix printing.Write) (c.in_err-flush-in-Failed.ensures.err s.listens start.written about.came about.stands.units))

pub returns-in_ok-flush-in-Failed-clause-steps : goal.returns-in_ok-flush-in-Failed-clause-steps
returns-in_ok-flush-in-Failed-clause-steps g c = λ start about.
    let s = c.args.setup.now in
    let r : Recovering = c.args.self.now in
    let u = devices (g.N.LiveNet.calls c.args.net.now) (g.O.Sink.written c.args.out.now) in
    let v = devices (g.N.LiveNet.calls c.receive.new.self) (g.O.Sink.written c.flush.new.out) in
    ends_by_failing s start u r (to.Receive c.args.line) about (Receive c.args.line (length c.args.into.now) [] received.Failed) (refl, c.requires.room) v c.in-Failed.ensures.calls
    (now_of about.came r.units) (same_still (now_of about.came r.units)) (c.flush.ensures.grows s.listens start.written about.came about.stands.units) tt about.stands.agree.none (c.in_ok-flush-in-Failed.ensures.written s.listens start.written about.came about.stands.units)
