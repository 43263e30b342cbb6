use Rattle.std.proofs.Common.{ap, sym, ◌∙◌, Option}
use Rattle.std.specs.Option.{option_flatten}
use Rattle.live_units.specs.Places.{waits_at}
use Rattle.live_units.specs.declared.unit.LiveUnit.{LiveUnit}
use Rattle.live_units.proofs.units.LiveUnits.waiting_bytes.Goals as goal

pub returns : goal.returns
returns c = c.waiting_at.ensures ∙ sym (ap (λ (o : Option (Option LiveUnit)). waits_at (option_flatten o) c.args.session) c.place.ensures)
