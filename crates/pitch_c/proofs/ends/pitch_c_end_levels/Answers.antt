use Rattle.std.proofs.Common.{Option, sym, subst}
use Rattle.std.specs.Option.{IsSomeAnd}
use Rattle.sending_end.specs.declared.end.SendingEnd.{SendingEnd}
use Rattle.pitch_c.specs.Ends.{TellEndLevels, HasEndSide}
use Rattle.pitch_c.proofs.ends.pitch_c_end_levels.Goals as goal

pub returns-clause-levels : goal.returns-clause-levels
returns-clause-levels c zero =
    let told = c.tell_levels-code.new.told in
    let number = c.tell_levels-code.new.number in
    subst (λ (o : Option SendingEnd). IsSomeAnd o (λ e. TellEndLevels e c.args.symbol.now c.args.side c.args.told.now told number)) (sym c.in-Some.ensures.taken)
    (subst (λ (e : SendingEnd). TellEndLevels e c.args.symbol.now c.args.side c.args.told.now told number) c.deref.ensures (c.tell_levels-code.ensures.levels zero))

pub returns-clause-memory : goal.returns-clause-memory
returns-clause-memory c want =
    subst (λ (o : Option SendingEnd). IsSomeAnd o (λ e. HasEndSide e c.args.symbol.now c.args.side)) (sym c.in-Some.ensures.taken)
    (subst (λ (e : SendingEnd). HasEndSide e c.args.symbol.now c.args.side) c.deref.ensures (c.tell_levels-code.ensures.memory want))
