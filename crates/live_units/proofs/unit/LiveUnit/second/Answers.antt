use Rattle.std.proofs.Common.{◌∷◌, inl, inr, refl}
use Rattle.pitch_model.proofs.Results.{on_err}
use Rattle.client_end.specs.Came.{Second}
use Rattle.live_units.specs.Standing.{UnitLoses}
use Rattle.live_units.specs.declared.unit.LiveUnit.{LiveUnit}
use Rattle.live_units.proofs.Passing.{ends_cut, ends_second, passes_so}
use Rattle.live_units.proofs.unit.LiveUnit.second.Goals as goal

pub returns-clause-passes : goal.returns-clause-passes
returns-clause-passes c =
    let u : LiveUnit = c.args.self.now in
    passes_so u (record u { end = c.second.new.self }) Second refl c.in_ok-_ask.ensures.passes (refl, (refl, refl))

pub returns-in_err-_ask-clause-err : goal.returns-in_err-_ask-clause-err
returns-in_err-_ask-clause-err c =
    let u : LiveUnit = c.args.self.now in
    let p = c.in_err-_ask.ensures.err in
    on_err (UnitLoses u (record u { end = c.second.new.self })) c.from_residual.result (record {
      stands = elim p.stands [
        | inl without ↦ inl (λ s before is. record { unit_is = is.unit_is; end_is = without s before is.end_is; blocks_are = is.blocks_are; ends_are = ends_cut s before u.first_end is.ends_are })
        | inr after ↦ inr (λ s before is. record { unit_is = is.unit_is; end_is = after s before is.end_is; blocks_are = is.blocks_are; ends_are = ends_cut s (Second ∷ before) u.first_end (ends_second s before u.first_end is.ends_are) })
      ];
      waits = p.waits;
    })
