use Rattle.live_units.proofs.Routing.{sends_at}
use Rattle.live_units.proofs.units.LiveUnits.sent.Goals as goal

pub returns : goal.returns
returns c = sends_at c.args.self.now c.args.unit c.place_at.result.now c.sent_at.new.place c.place_at.ensures.there c.args.session c.args.count c.sent_at.ensures
