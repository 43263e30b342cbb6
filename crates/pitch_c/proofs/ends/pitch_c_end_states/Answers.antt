use Rattle.std.proofs.Common.{Option, sym, subst}
use Rattle.std.specs.Option.{IsSomeAnd}
use Rattle.sending_end.specs.declared.end.SendingEnd.{SendingEnd}
use Rattle.pitch_c.specs.Ends.{TellEndStates}
use Rattle.pitch_c.proofs.ends.pitch_c_end_states.Goals as goal

pub returns-clause-states : goal.returns-clause-states
returns-clause-states c zero =
    let told = c.tell_states-code.new.told in
    let number = c.tell_states-code.new.number in
    subst (λ (o : Option SendingEnd). IsSomeAnd o (λ e. TellEndStates e c.args.told.now told number)) (sym c.in-Some.ensures.taken)
    (subst (λ (e : SendingEnd). TellEndStates e c.args.told.now told number) c.deref.ensures (c.tell_states-code.ensures.states zero))
