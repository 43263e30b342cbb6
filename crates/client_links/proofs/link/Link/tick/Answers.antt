use Rattle.std.proofs.Common.{ap, ◌∙◌, sym, subst, ◌++◌}
use Rattle.session_ends.specs.Ending.{Ending, EndKnows, known_of}
use Rattle.session_ends.specs.layers.Ticking.{tick_bytes}
use Rattle.client_links.specs.Linking.{link_sends}
use Rattle.client_links.proofs.Linked.{stands_ticked}
use Rattle.client_links.proofs.link.Link.tick.Goals as goal

pub returns-clause-stands : goal.returns-clause-stands
returns-clause-stands g c = λ es stands.
    let old : Ending = c.args.self.now in
    stands_ticked old _ es (c.in_ok-tick.ensures.setup ∙ ap (λ (v : Ending). v.setup) c.self.view_is)
    (c.in_ok-tick.ensures.stands (known_of (link_sends old.setup) old.setup es) (subst (λ (v : Ending). EndKnows v (known_of (link_sends old.setup) old.setup es)) (sym c.self.view_is) stands))

pub returns-clause-says : goal.returns-clause-says
returns-clause-says g c = λ es stands.
    let old : Ending = c.args.self.now in
    c.in_ok-tick.ensures.says (known_of (link_sends old.setup) old.setup es) (subst (λ (v : Ending). EndKnows v (known_of (link_sends old.setup) old.setup es)) (sym c.self.view_is) stands)
    ∙ ap (λ (v : Ending). c.args.out.now.items ++ tick_bytes v.setup (known_of (link_sends old.setup) old.setup es)) c.self.view_is
