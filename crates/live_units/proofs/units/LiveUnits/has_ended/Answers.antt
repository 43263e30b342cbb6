use Rattle.std.proofs.Common.{Bool, List}
use Rattle.client_end.specs.Came.{Came, EndSetup, end_history}
use Rattle.live_units.specs.Ended.{is_ended}
use Rattle.live_units.proofs.Taking.{tells_none, tells_some}
use Rattle.live_units.proofs.units.LiveUnits.has_ended.Goals as goal

abbrev ended : EndSetup → List Came → Bool
ended s before = is_ended s.hold (end_history s before)

pub returns-in-None : goal.returns-in-None
returns-in-None c = λ now. tells_none c.args.self.now c.args.unit ended c.place.result.now c.place.ensures now c.in-None.is

pub returns-in-Some : goal.returns-in-Some
returns-in-Some c = λ now. tells_some c.args.self.now c.args.unit ended c.place.result.now c.place.ensures now _ _ c.in-Some.is c.has_ended.ensures
