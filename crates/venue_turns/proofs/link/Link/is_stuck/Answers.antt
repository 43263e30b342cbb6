use Rattle.std.proofs.Common.{subst}
use Rattle.venue_turns.specs.Turning.{Knows}
use Rattle.venue_turns.specs.declared.link.Link.TheVariants.{Open}
use Rattle.venue_turns.proofs.Linking.{not_stuck}
use Rattle.venue_turns.proofs.link.Link.is_stuck.Goals as goal

pub returns-in-Open : goal.returns-in-Open
returns-in-Open c = λ place run knows stood.
    let known : Knows place run Open = subst (Knows place run) c.in-Open.is knows in
    not_stuck place run known.link_is.1
