use Rattle.std.proofs.Common.{sym, ◌∙◌}
use Rattle.live_turns.specs.declared.due.Due.TheVariants as to
use Rattle.live_recovery.specs.Standing.{devices}
use Rattle.live_recovery.proofs.Seeing.{is_about, is_at_end, turns_on}
use Rattle.live_recovery.proofs.recovering.Recovering.step.Goals as goal

pub returns-in-None-clause-steps : goal.returns-in-None-clause-steps
returns-in-None-clause-steps g c = λ start goes.
    turns_on c.args.setup.now start (devices (g.N.LiveNet.calls c.args.net.now) (g.O.Sink.written c.args.out.now)) c.args.self.now c.due.new.self c.seen-has.result.0 c.seen-has.result.1 goes c.seen-has.ensures c.in-None.ensures

pub returns-then-are_ended-clause-steps : goal.returns-then-are_ended-clause-steps
returns-then-are_ended-clause-steps g c = λ start goes.
    is_at_end c.args.setup.now start (devices (g.N.LiveNet.calls c.args.net.now) (g.O.Sink.written c.args.out.now)) c.args.self.now c.due.new.self c.seen-has.result.0 c.seen-has.result.1 goes c.seen-has.ensures c.in-Some-Wait.field-0 c.in-Some-Wait.more c.in-Some-Wait.field-0-is
    (sym (c.are_ended.ensures start.written (g.O.Sink.written c.args.out.now) goes.came goes.stands.units) ∙ c.if-are_ended.true) c.in-Some-Wait.ensures

pub returns-else-are_ended-clause-steps : goal.returns-else-are_ended-clause-steps
returns-else-are_ended-clause-steps g c = λ start goes.
    c.wait.ensures.steps c.args.setup.now start
    (is_about c.args.setup.now start (devices (g.N.LiveNet.calls c.args.net.now) (g.O.Sink.written c.args.out.now)) c.args.self.now c.due.new.self c.seen-has.result.0 c.seen-has.result.1 goes c.seen-has.ensures c.in-Some-Wait.field-0 (to.Wait c.in-Some-Wait.more) c.in-Some-Wait.field-0-is
    (sym (c.are_ended.ensures start.written (g.O.Sink.written c.args.out.now) goes.came goes.stands.units) ∙ c.if-are_ended.false) c.in-Some-Wait.ensures)

pub returns-in-Some-Receive-clause-steps : goal.returns-in-Some-Receive-clause-steps
returns-in-Some-Receive-clause-steps g c = λ start goes.
    c.ask_line.ensures.steps start
    (is_about c.args.setup.now start (devices (g.N.LiveNet.calls c.args.net.now) (g.O.Sink.written c.args.out.now)) c.args.self.now c.due.new.self c.seen-has.result.0 c.seen-has.result.1 goes c.seen-has.ensures c.in-Some-Receive.field-0 (to.Receive c.in-Some-Receive.line) c.in-Some-Receive.field-0-is tt c.in-Some-Receive.ensures)

pub returns-in-Some-Take-clause-steps : goal.returns-in-Some-Take-clause-steps
returns-in-Some-Take-clause-steps g c = λ start goes.
    c.take_peer.ensures.steps start
    (is_about c.args.setup.now start (devices (g.N.LiveNet.calls c.args.net.now) (g.O.Sink.written c.args.out.now)) c.args.self.now c.due.new.self c.seen-has.result.0 c.seen-has.result.1 goes c.seen-has.ensures c.in-Some-Take.field-0 (to.Take c.in-Some-Take.at) c.in-Some-Take.field-0-is tt c.in-Some-Take.ensures)

pub returns-in-Some-Open-clause-steps : goal.returns-in-Some-Open-clause-steps
returns-in-Some-Open-clause-steps g c = λ start goes.
    c.open_peer.ensures.goes start (g.O.Sink.written c.args.out.now)
    (is_about c.args.setup.now start (devices (g.N.LiveNet.calls c.args.net.now) (g.O.Sink.written c.args.out.now)) c.args.self.now c.due.new.self c.seen-has.result.0 c.seen-has.result.1 goes c.seen-has.ensures c.in-Some-Open.field-0 (to.Open c.in-Some-Open.at) c.in-Some-Open.field-0-is tt c.in-Some-Open.ensures)

pub returns-in-Some-Put-clause-steps : goal.returns-in-Some-Put-clause-steps
returns-in-Some-Put-clause-steps g c = λ start goes.
    c.put_peer.ensures.goes start (g.O.Sink.written c.args.out.now)
    (is_about c.args.setup.now start (devices (g.N.LiveNet.calls c.args.net.now) (g.O.Sink.written c.args.out.now)) c.args.self.now c.due.new.self c.seen-has.result.0 c.seen-has.result.1 goes c.seen-has.ensures c.in-Some-Put.field-0 (to.Put c.in-Some-Put.at) c.in-Some-Put.field-0-is tt c.in-Some-Put.ensures)

pub returns-in-Some-Close-clause-steps : goal.returns-in-Some-Close-clause-steps
returns-in-Some-Close-clause-steps g c = λ start goes.
    c.close_peer.ensures.goes start (g.O.Sink.written c.args.out.now)
    (is_about c.args.setup.now start (devices (g.N.LiveNet.calls c.args.net.now) (g.O.Sink.written c.args.out.now)) c.args.self.now c.due.new.self c.seen-has.result.0 c.seen-has.result.1 goes c.seen-has.ensures c.in-Some-Close.field-0 (to.Close c.in-Some-Close.at) c.in-Some-Close.field-0-is tt c.in-Some-Close.ensures)
