use Rattle.std.proofs.Common.{refl}
use Rattle.std.proofs.lemmas.Result.{on_ok_weaker, on_err_weaker}
use Rattle.sending_end.specs.Waiting.{made}
use Rattle.live_units.specs.declared.unit.LiveUnit.{LiveUnit}
use Rattle.live_units.proofs.Passing.{not_made, passes_so}
use Rattle.live_units.proofs.unit.LiveUnit.connected.Goals as goal

pub returns-clause-passes : goal.returns-clause-passes
returns-clause-passes c =
    let u : LiveUnit = c.args.self.now in
    on_ok_weaker c.connected.result (λ p. passes_so u (record u { end = c.connected.new.self }) (made c.args.session) (not_made c.args.session) p (refl, (refl, refl))) c.connected.ensures.passes

pub returns-clause-err : goal.returns-clause-err
returns-clause-err c =
    on_err_weaker c.connected.result (λ p. record {
      stands = λ s before is. record { unit_is = is.unit_is; end_is = p.stands s before is.end_is; blocks_are = is.blocks_are; ends_are = is.ends_are };
      waits = p.waits;
    }) c.connected.ensures.err
