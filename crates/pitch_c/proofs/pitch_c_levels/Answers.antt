use Rattle.std.proofs.Common.{Option, sym, subst}
use Rattle.std.specs.Option.{IsSomeAnd}
use Rattle.unit_clients.specs.Clients.{Units}
use Rattle.pitch_c.specs.Clients.{TellLevels, HasSide}
use Rattle.pitch_c.proofs.pitch_c_levels.Goals as goal

pub returns-clause-levels : goal.returns-clause-levels
returns-clause-levels c zero =
    let told = c.tell_levels-code.new.told in
    let number = c.tell_levels-code.new.number in
    subst (λ (u : Option Units). IsSomeAnd u (λ units. TellLevels units c.args.unit c.args.symbol.now c.args.side c.args.told.now told number)) (sym c.in-Some.ensures.taken)
    (subst (λ (units : Units). TellLevels units c.args.unit c.args.symbol.now c.args.side c.args.told.now told number) c.deref.ensures (c.tell_levels-code.ensures.levels zero))

pub returns-clause-memory : goal.returns-clause-memory
returns-clause-memory c want =
    subst (λ (u : Option Units). IsSomeAnd u (λ units. HasSide units c.args.unit c.args.symbol.now c.args.side)) (sym c.in-Some.ensures.taken)
    (subst (λ (units : Units). HasSide units c.args.unit c.args.symbol.now c.args.side) c.deref.ensures (c.tell_levels-code.ensures.memory want))
