use Rattle.live_venue.specs.Running.{Now, beaten}
use Rattle.live_venue.specs.Standing.{Serve}
use Rattle.live_venue.proofs.queueing.beat_all.Given as goal

abbrev pub invariant-units : goal.invariant-units
invariant-units l = (now : Now) → Serve l.setup l.units l.fn.outbox now → Serve l.setup l.units l.outbox (beaten l.setup l.at now)
