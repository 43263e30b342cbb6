use Rattle.std.proofs.Common.{Option, sym, subst}
use Rattle.std.specs.Prelude.{IfSome}
use Rattle.std.specs.Option.{IsSomeAnd}
use Rattle.unit_clients.specs.Clients.{Units}
use Rattle.pitch_c.specs.Answers.{MayTakeQuoted}
use Rattle.pitch_c.specs.Clients.{StillHave}
use Rattle.pitch_c.proofs.pitch_c_hear_quoted.Goals as goal

pub returns-clause-still : goal.returns-clause-still
returns-clause-still c low told =
    subst (λ (u : Option Units). IfSome u (λ old. IsSomeAnd c.opened.result.handle.value (λ new. StillHave old new))) (sym c.in-Some.ensures.taken)
    (subst (λ (u : Option Units). IsSomeAnd u (λ new. StillHave c.in-Some.units.value new)) (sym c.opened.ensures)
    (subst (λ (old : Units). StillHave old c.hear_quoted_first-code.new.units) c.deref_mut.ensures.value (c.hear_quoted_first-code.ensures.still low told)))

pub returns-clause-memory : goal.returns-clause-memory
returns-clause-memory c want =
    subst (λ (u : Option Units). IsSomeAnd u (λ old. MayTakeQuoted c.args.bytes.now old)) (sym c.in-Some.ensures.taken)
    (subst (λ (old : Units). MayTakeQuoted c.args.bytes.now old) c.deref_mut.ensures.value (c.hear_quoted_first-code.ensures.memory want))
