use Rattle.sending_end.specs.Waiting.{ended}
use Rattle.live_units.proofs.Quiet.{quiet_ended}
use Rattle.live_units.proofs.Routing.{passes_at}
use Rattle.live_units.proofs.units.LiveUnits.cut.Goals as goal

pub returns : goal.returns
returns c = passes_at c.args.self.now c.args.unit c.place_at.result.now c.cut_at.new.place c.place_at.ensures.there (ended c.args.session) (quiet_ended c.args.session) c.cut_at.ensures
