use Rattle.live_venue.proofs.Bringing.{ends}
use Rattle.live_venue.proofs.serving.Serving.end.Goals as goal

pub returns-clause-goes : goal.returns-clause-goes
returns-clause-goes c = λ s now serve sent. ends s c.args.place c.args.self.now.outbox now c.args.self.now.units c.cut.new.self c.cut.ensures.stands serve
