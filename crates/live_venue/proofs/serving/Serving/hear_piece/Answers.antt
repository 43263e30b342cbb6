use Rattle.std.proofs.Common.{◌++◌}
use Rattle.live_venue.specs.Input.{piece_heard}
use Rattle.live_venue.proofs.Parts.{before_flush, has_heard, serves_heard}
use Rattle.live_venue.proofs.serving.Serving.hear_piece.Goals as goal

pub returns-clause-heard : goal.returns-clause-heard
returns-clause-heard c = λ now serve read idle.
    let s = c.args.setup.now in
    let text = now.text ++ c.args.piece.now in
    let heard = piece_heard s now.text c.args.piece.now now.came in
    let hears = c.in_ok-fault.ensures.heard s now.text now.came read serve.stand in
    let before = serves_heard s heard text now c.args.self.now.units c.hear.new.units c.args.self.now.outbox c.in_ok-fault.fault serve idle.sent hears in
    has_heard s heard text now (record c.args.self.now { units = c.flush_all.new.units; reader = c.hear.new.self; outbox = c.flush_all.new.outbox }) c.hear.new.units c.in_ok-fault.fault hears
    (c.in_ok-flush_all.ensures (before_flush s heard text now) before) (λ none. c.in_ok-fault.ensures.read now.text read none)
