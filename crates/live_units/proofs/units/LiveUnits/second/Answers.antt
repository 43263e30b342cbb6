use Rattle.std.proofs.Common.{refl, sym, true≢false}
use Rattle.client_end.specs.Came.{Second}
use Rattle.pitch_model.proofs.Results.{on_err}
use Rattle.live_units.specs.Units.{LosesAt}
use Rattle.live_units.proofs.Losing.{loses_at}
use Rattle.live_units.proofs.Quiet.{quiet_second}
use Rattle.live_units.proofs.Routing.{passes_at, with_unit}
use Rattle.live_units.proofs.units.LiveUnits.second.Goals as goal

pub returns-clause-passes : goal.returns-clause-passes
returns-clause-passes c = passes_at c.args.self.now c.args.unit c.place_at.result.now c.second_at.new.place c.place_at.ensures.there Second quiet_second c.in_ok-second_at.ensures.passes

pub returns-in_err-second_at-clause-err : goal.returns-in_err-second_at-clause-err
returns-in_err-second_at-clause-err c =
    on_err (LosesAt c.args.self.now (with_unit c.args.self.now c.args.unit c.second_at.new.place) c.args.unit) _
    (loses_at c.args.self.now c.args.unit c.place_at.result.now c.second_at.new.place c.place_at.ensures.there c.in_err-second_at.ensures.err)

pub returns-clause-none : goal.returns-clause-none
returns-clause-none c = λ now s start came st no. refl

pub returns-in_err-second_at-clause-none : goal.returns-in_err-second_at-clause-none
returns-in_err-second_at-clause-none c = λ now s start came st no.
    absurd (true≢false (sym (c.in_err-second_at.ensures.none s came c.args.unit (st.units_are.each c.args.unit c.place_at.result.now c.place_at.ensures.there) no)))
