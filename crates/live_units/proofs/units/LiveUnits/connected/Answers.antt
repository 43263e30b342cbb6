use Rattle.sending_end.specs.Waiting.{made}
use Rattle.pitch_model.proofs.Results.{on_err}
use Rattle.live_units.specs.Units.{StayAll}
use Rattle.live_units.proofs.Quiet.{quiet_made}
use Rattle.live_units.proofs.Routing.{passes_at, stay_all, with_unit}
use Rattle.live_units.proofs.units.LiveUnits.connected.Goals as goal

pub returns-clause-passes : goal.returns-clause-passes
returns-clause-passes c =
    passes_at c.args.self.now c.args.unit c.place_at.result.now c.connect_at.new.place c.place_at.ensures.there (made c.args.session) (quiet_made c.args.session) c.in_ok-connect_at.ensures.passes

pub returns-in_err-connect_at-clause-err : goal.returns-in_err-connect_at-clause-err
returns-in_err-connect_at-clause-err c =
    on_err (StayAll c.args.self.now (with_unit c.args.self.now c.args.unit c.connect_at.new.place)) _
    (stay_all c.args.self.now c.args.unit c.place_at.result.now c.connect_at.new.place c.place_at.ensures.there c.in_err-connect_at.ensures.err)
