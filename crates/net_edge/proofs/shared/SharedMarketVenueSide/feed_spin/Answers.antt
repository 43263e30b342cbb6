use Rattle.std.proofs.Common.{refl}
use Rattle.shared_unit.specs.layers.Histories.{served_at}
use Rattle.net_edge.proofs.Sharing.{spin_answers}
use Rattle.net_edge.proofs.shared.SharedMarketVenueSide.feed_spin.Goals as goal

pub returns-clause-fed : goal.returns-clause-fed
returns-clause-fed g c = λ j es has stands.
    let before = c.hear_told.new.self.history in
    spin_answers c.self.inside.writer before c.feed.new.lookup.history j es c.args.piece.now c.args.server.now c.feed.new.self c.args.said.now.items c.feed.new.reply.items
    (rw c.self.view_is has) (rw c.tell.ensures.told at c.hear_told.ensures.that) (rw c.tell.ensures.same at c.covers.ensures.begins)
    (c.in_ok-feed.ensures.fed es (served_at before) stands refl)
