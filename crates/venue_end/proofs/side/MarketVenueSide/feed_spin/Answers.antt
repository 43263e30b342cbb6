use Rattle.std.proofs.Common.{refl, ap}
use Rattle.unit_market.specs.Standing.{MarketState}
use Rattle.venue_end.proofs.Feeding.{market_shows}
use Rattle.venue_end.proofs.side.MarketVenueSide.feed_spin.Goals as goal

pub returns-clause-fed : goal.returns-clause-fed
returns-clause-fed c = λ j es has stands.
    market_shows j c.args.piece.now c.args.said.now.items c.feed.new.reply.items c.args.self.now.shelf c.feed.new.lookup.shelf es c.args.server.now c.feed.new.self
    c.image_look_laws.ensures.piece has.shelf (ap (λ (m : MarketState). m.shelf) (c.feed.ensures.same refl)) (λ view shows. c.in_ok-feed.ensures.fed es view stands shows)
