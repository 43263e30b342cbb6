use Rattle.std.proofs.Common.{refl}
use Rattle.sending_end.specs.Waiting.{ended}
use Rattle.live_units.specs.declared.unit.LiveUnit.{LiveUnit}
use Rattle.live_units.proofs.Passing.{not_ended, passes_so}
use Rattle.live_units.proofs.unit.LiveUnit.cut.Goals as goal

pub returns : goal.returns
returns c =
    let u : LiveUnit = c.args.self.now in
    passes_so u (record u { end = c.cut.new.self }) (ended c.args.session) (not_ended c.args.session) c.cut.ensures (refl, (refl, refl))
