use Rattle.std.proofs.Common.{ap, ◌∙◌, sym, subst, ◌++◌}
use Rattle.session_ends.specs.Sending.{sent_at_tick}
use Rattle.session_ends.specs.Ending.{Ending, known_of}
use Rattle.grp_session.specs.Serving.{ProxyStands, grp_sends}
use Rattle.grp_session.proofs.Serves.{stands_ticked}
use Rattle.grp_session.proofs.server.GrpServer.tick.Goals as goal

pub returns-clause-stands : goal.returns-clause-stands
returns-clause-stands c = λ es stands.
    let old : Ending = c.self.inside.end in
    stands_ticked old _ es c.in_ok-tick.ensures.setup (c.in_ok-tick.ensures.stands (known_of (grp_sends old.setup) old.setup es) (subst (λ (v : Ending). ProxyStands v es) (sym c.self.view_is) stands))

pub returns-clause-says : goal.returns-clause-says
returns-clause-says c = λ es stands.
    let old : Ending = c.self.inside.end in
    c.in_ok-tick.ensures.says (known_of (grp_sends old.setup) old.setup es) (subst (λ (v : Ending). ProxyStands v es) (sym c.self.view_is) stands)
    ∙ ap (λ (v : Ending). c.args.reply.now.items ++ sent_at_tick (grp_sends v.setup) v.setup es) c.self.view_is
