use Rattle.client_end.specs.Came.{end_history}
use Rattle.live_units.proofs.Ends.{maybe_ended, not_ended}
use Rattle.live_units.proofs.unit.LiveUnit.has_ended.Goals as goal

pub returns-in-None : goal.returns-in-None
returns-in-None c = λ s before is. not_ended s.hold (end_history s before) c.args.self.now.first_end c.in-None.is is.ends_are

pub returns-in-Some : goal.returns-in-Some
returns-in-Some c = λ s before is. maybe_ended s.hold (end_history s before) c.reach.result c.args.self.now.first_end c.in-Some.first c.in-Some.is is.ends_are (c.reach.ensures s before is.end_is)
