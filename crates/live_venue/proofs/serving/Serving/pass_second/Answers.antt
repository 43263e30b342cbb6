use Rattle.std.proofs.Common.{length}
use Rattle.std.proofs.lemmas.Result.{on_ok_weaker}
use Rattle.live_venue.specs.Running.{Now, beaten}
use Rattle.live_venue.specs.Standing.{Serve}
use Rattle.live_venue.proofs.Parts.{serves_second}
use Rattle.live_venue.proofs.serving.Serving.pass_second.Goals as goal

pub returns-clause-passes : goal.returns-clause-passes
returns-clause-passes c =
    let s = c.args.setup.now in
    on_ok_weaker c.beat_all.result
    (λ (beats : (after : Now) → Serve s c.pass_second.new.units c.args.self.now.outbox after → Serve s c.pass_second.new.units c.beat_all.new.outbox (beaten s (length s) after)) now serve none.
    serves_second s c.args.self.now.units c.pass_second.new.units c.args.self.now.outbox c.beat_all.new.outbox now c.pass_second.ensures beats serve none) c.beat_all.ensures
