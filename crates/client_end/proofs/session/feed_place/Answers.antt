use Rattle.std.proofs.Common.{Option, subst}
use Rattle.session_ends.specs.Ending.{Ending}
use Rattle.client_end.specs.Stands.{SessionStands}
use Rattle.client_end.proofs.Places.{fed_some}
use Rattle.client_end.proofs.session.feed_place.Goals as goal

pub returns-in_ok-feed_link-in-Some-clause-has : goal.returns-in_ok-feed_link-in-Some-clause-has
returns-in_ok-feed_link-in-Some-clause-has g c = λ H setup session is.
    fed_some H setup c.args.client.now c.feed_link.new.client session c.args.piece.now c.in-Some.link c.feed_link.new.link c.in_ok-feed_link-in-Some.ensures.setup c.in_ok-feed_link-in-Some.ensures.stands c.in_ok-feed_link-in-Some.ensures.has
    (subst (λ (o : Option Ending). SessionStands H setup o c.args.client.now session) c.in-Some.is is)
