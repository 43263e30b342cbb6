use Rattle.std.proofs.Common.{refl, ap}
use Rattle.grp_session.specs.Budget.{Counted}
use Rattle.unit_market.specs.Markets.{kept_view}
use Rattle.unit_market.specs.Standing.{MarketState}
use Rattle.unit_packets.specs.Packing.{bytes_in}
use Rattle.venue_end.proofs.Feeding.{market_answers}
use Rattle.venue_end.proofs.side.MarketVenueSide.feed_proxy.Goals as goal

pub returns-clause-fed : goal.returns-clause-fed
returns-clause-fed c = λ j es spent has stands counted.
    market_answers j c.args.piece.now c.args.said.now.items c.feed.new.reply.items c.args.self.now.store c.feed.new.lookup.0.store c.args.budget.now.limits spent es c.args.server.now c.feed.new.self (Counted c.feed.new.budget) (bytes_in c.args.lines.now.items) (bytes_in c.feed.new.gap_line.items)
    c.look_laws.ensures.store has.store_is (ap (λ (m : MarketState). m.store) (c.feed.ensures.same refl)) (c.in_ok-feed.ensures.fed es spent (kept_view j) stands counted has.store_is)
