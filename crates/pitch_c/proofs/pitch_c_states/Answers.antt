use Rattle.std.proofs.Common.{Option, sym, subst}
use Rattle.std.specs.Option.{IsSomeAnd}
use Rattle.unit_clients.specs.Clients.{Units}
use Rattle.pitch_c.specs.Clients.{TellStates}
use Rattle.pitch_c.proofs.pitch_c_states.Goals as goal

pub returns-clause-states : goal.returns-clause-states
returns-clause-states c zero =
    let told = c.tell_states-code.new.told in
    let number = c.tell_states-code.new.number in
    subst (λ (u : Option Units). IsSomeAnd u (λ units. TellStates units c.args.unit c.args.told.now told number)) (sym c.in-Some.ensures.taken)
    (subst (λ (units : Units). TellStates units c.args.unit c.args.told.now told number) c.deref.ensures (c.tell_states-code.ensures.states zero))
