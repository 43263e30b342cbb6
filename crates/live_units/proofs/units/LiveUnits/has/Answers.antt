use Rattle.std.proofs.Common.{Bool, List}
use Rattle.std.specs.Prelude.{is_some}
use Rattle.client_end.specs.Came.{Came, EndSetup, end_after}
use Rattle.sending_end.specs.Waiting.{link_of}
use Rattle.sending_end.specs.declared.session.Session.{Session}
use Rattle.live_units.proofs.Taking.{tells_none, tells_some}
use Rattle.live_units.proofs.units.LiveUnits.has.Goals as goal

abbrev stands : Session → EndSetup → List Came → Bool
stands session s before = is_some (link_of session (end_after s before))

pub returns-in-None : goal.returns-in-None
returns-in-None c = λ now. tells_none c.args.self.now c.args.unit (stands c.args.session) c.place.result.now c.place.ensures now c.in-None.is

pub returns-in-Some : goal.returns-in-Some
returns-in-Some c = λ now. tells_some c.args.self.now c.args.unit (stands c.args.session) c.place.result.now c.place.ensures now _ _ c.in-Some.is c.has.ensures
