use Rattle.live_venue.specs.Input.{rest_heard}
use Rattle.live_venue.proofs.Parts.{before_flush, has_heard, serves_heard}
use Rattle.live_venue.proofs.serving.Serving.hear_rest.Goals as goal

pub returns-clause-heard : goal.returns-clause-heard
returns-clause-heard c = λ now serve read idle.
    let s = c.args.setup.now in
    let heard = rest_heard s now.text now.came in
    let hears = c.in_ok-fault.ensures s now.text now.came read serve.stand in
    let before = serves_heard s heard now.text now c.args.self.now.units c.hear_rest.new.units c.args.self.now.outbox c.in_ok-fault.fault serve idle.sent hears in
    has_heard s heard now.text now (record c.args.self.now { units = c.flush_all.new.units; outbox = c.flush_all.new.outbox }) c.hear_rest.new.units c.in_ok-fault.fault hears
    (c.in_ok-flush_all.ensures (before_flush s heard now.text now) before) (λ none. read)
