use Rattle.std.proofs.Common.{subst}
use Rattle.venue_turns.specs.Turning.{Knows}
use Rattle.venue_turns.specs.declared.link.Link.TheVariants.{Open}
use Rattle.venue_turns.proofs.Linking.{knows_full}
use Rattle.venue_turns.proofs.link.Link.full.Goals as goal

pub returns-in-Open : goal.returns-in-Open
returns-in-Open c = λ place run piece knows.
    let known : Knows place run Open = subst (Knows place run) c.in-Open.is knows in
    knows_full place run piece known.link_is.0 known.link_is.1
