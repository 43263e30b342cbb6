use Rattle.venue_turns.specs.declared.due.Due.TheVariants as to
use Rattle.live_venue.proofs.Seeing.{is_about, turns_on}
use Rattle.live_venue.proofs.serving.Serving.step.Goals as goal

pub returns-in-None-clause-steps : goal.returns-in-None-clause-steps
returns-in-None-clause-steps g c = λ start goes.
    turns_on c.args.setup.now start (g.N.VenueNet.calls c.args.net.now) c.args.self.now c.due.new.self c.seen-shut.result.0 c.seen-shut.result.1 goes (c.seen-shut.ensures c.args.setup.now) c.in-None.ensures

pub returns-in-Some-Wait-clause-steps : goal.returns-in-Some-Wait-clause-steps
returns-in-Some-Wait-clause-steps g c = λ start goes.
    c.wait.ensures.steps start
    (is_about c.args.setup.now start (g.N.VenueNet.calls c.args.net.now) c.args.self.now c.due.new.self c.seen-shut.result.0 c.seen-shut.result.1 goes (c.seen-shut.ensures c.args.setup.now) c.in-Some-Wait.field-0 (to.Wait c.in-Some-Wait.more) c.in-Some-Wait.field-0-is c.in-Some-Wait.ensures)

pub returns-in-Some-Read-clause-steps : goal.returns-in-Some-Read-clause-steps
returns-in-Some-Read-clause-steps g c = λ start goes.
    c.read.ensures.steps start
    (is_about c.args.setup.now start (g.N.VenueNet.calls c.args.net.now) c.args.self.now c.due.new.self c.seen-shut.result.0 c.seen-shut.result.1 goes (c.seen-shut.ensures c.args.setup.now) c.in-Some-Read.field-0 to.Read c.in-Some-Read.field-0-is c.in-Some-Read.ensures)

pub returns-in-Some-Take-clause-steps : goal.returns-in-Some-Take-clause-steps
returns-in-Some-Take-clause-steps g c = λ start goes.
    c.take.ensures.steps c.args.setup.now start
    (is_about c.args.setup.now start (g.N.VenueNet.calls c.args.net.now) c.args.self.now c.due.new.self c.seen-shut.result.0 c.seen-shut.result.1 goes (c.seen-shut.ensures c.args.setup.now) c.in-Some-Take.field-0 (to.Take c.in-Some-Take.place) c.in-Some-Take.field-0-is c.in-Some-Take.ensures)

pub returns-in-Some-Accept-clause-steps : goal.returns-in-Some-Accept-clause-steps
returns-in-Some-Accept-clause-steps g c = λ start goes.
    c.accept.ensures.goes c.args.setup.now start
    (is_about c.args.setup.now start (g.N.VenueNet.calls c.args.net.now) c.args.self.now c.due.new.self c.seen-shut.result.0 c.seen-shut.result.1 goes (c.seen-shut.ensures c.args.setup.now) c.in-Some-Accept.field-0 (to.Accept c.in-Some-Accept.place) c.in-Some-Accept.field-0-is c.in-Some-Accept.ensures)

pub returns-in-Some-Put-clause-steps : goal.returns-in-Some-Put-clause-steps
returns-in-Some-Put-clause-steps g c = λ start goes.
    c.put.ensures.goes c.args.setup.now start
    (is_about c.args.setup.now start (g.N.VenueNet.calls c.args.net.now) c.args.self.now c.due.new.self c.seen-shut.result.0 c.seen-shut.result.1 goes (c.seen-shut.ensures c.args.setup.now) c.in-Some-Put.field-0 (to.Put c.in-Some-Put.place) c.in-Some-Put.field-0-is c.in-Some-Put.ensures)

pub returns-in-Some-Close-clause-steps : goal.returns-in-Some-Close-clause-steps
returns-in-Some-Close-clause-steps g c = λ start goes.
    c.close.ensures.goes c.args.setup.now start
    (is_about c.args.setup.now start (g.N.VenueNet.calls c.args.net.now) c.args.self.now c.due.new.self c.seen-shut.result.0 c.seen-shut.result.1 goes (c.seen-shut.ensures c.args.setup.now) c.in-Some-Close.field-0 (to.Close c.in-Some-Close.place) c.in-Some-Close.field-0-is c.in-Some-Close.ensures)
