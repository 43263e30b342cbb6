use Rattle.std.proofs.Common.{refl}
use Rattle.unit_packets.specs.Packing.{bytes_in}
use Rattle.grp_session.specs.Budget.{Counted}
use Rattle.shared_unit.specs.layers.Histories.{kept_at}
use Rattle.net_edge.proofs.Sharing.{proxy_answers}
use Rattle.net_edge.proofs.shared.SharedMarketVenueSide.feed_proxy.Goals as goal

pub returns-clause-fed : goal.returns-clause-fed
returns-clause-fed g c = λ j es spent has stands counted.
    let before = c.hear_told.new.self.history in
    proxy_answers c.self.inside.writer before c.feed.new.lookup.0.history g.J.Naming.kept j es c.args.piece.now c.args.server.now c.feed.new.self c.args.budget.now.limits spent (Counted c.feed.new.budget)
    c.args.said.now.items c.feed.new.reply.items (bytes_in c.args.lines.now.items) (bytes_in c.feed.new.gap_line.items)
    c.self.invariant.1 (rw c.self.view_is has) (rw c.tell.ensures.told at c.hear_told.ensures.that) (rw c.tell.ensures.same at c.covers.ensures.begins)
    (c.in_ok-feed.ensures.fed es spent (kept_at g.J.Naming.kept before) stands counted refl)
