use Rattle.live_venue.proofs.Passing.{passes_for}
use Rattle.live_venue.proofs.seconds.pass_for.Goals as goal

pub returns : goal.returns
returns c = λ s.
    passes_for s c.args.at c.args.units.now c.second-ticked.new.self c.advertise-advertised.new.self c.second-ticked.result c.advertise-advertised.result
    c.second-ticked.ensures.stands c.second-ticked.ensures.err c.advertise-advertised.ensures.stands c.advertise-advertised.ensures.err
