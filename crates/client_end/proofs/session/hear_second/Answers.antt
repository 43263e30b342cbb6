use Rattle.session_ends.specs.Events.{Ticked}
use Rattle.client_end.specs.Sessions.{link_happened}
use Rattle.client_end.proofs.session.hear_second.Goals as goal

pub returns-clause-has : goal.returns-clause-has
returns-clause-has g c = λ H setup session is.
    c.settle.ensures.has H setup (link_happened Ticked session)
    (record { link_is = c.in_ok-tick_place.ensures.has setup session.link is.link_is; has = is.has })
