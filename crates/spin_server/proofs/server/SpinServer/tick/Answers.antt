use Rattle.std.proofs.Common.{ap, ◌∙◌, sym, subst, ◌++◌}
use Rattle.session_ends.specs.Ending.{Ending, EndKnows, known_of}
use Rattle.session_ends.specs.layers.Ticking.{tick_bytes}
use Rattle.spin_server.specs.Serving.{Serving, spin_sends}
use Rattle.spin_server.proofs.Serves.{stands_ticked}
use Rattle.spin_server.proofs.server.SpinServer.tick.Goals as goal

pub returns-clause-stands : goal.returns-clause-stands
returns-clause-stands c = λ es stands.
    let old : Ending = c.args.self.now.end in
    stands_ticked c.args.self.now _ es (c.in_ok-tick.ensures.setup ∙ ap (λ (v : Serving). v.end.setup) c.self.view_is)
    (c.in_ok-tick.ensures.stands (known_of (spin_sends old.setup) old.setup es) (subst (λ (v : Serving). EndKnows v.end (known_of (spin_sends old.setup) old.setup es)) (sym c.self.view_is) stands.end_is))
    (ap (λ (v : Serving). v.spin) c.self.view_is) stands

pub returns-clause-says : goal.returns-clause-says
returns-clause-says c = λ es stands.
    let old : Ending = c.args.self.now.end in
    c.in_ok-tick.ensures.says (known_of (spin_sends old.setup) old.setup es) (subst (λ (v : Serving). EndKnows v.end (known_of (spin_sends old.setup) old.setup es)) (sym c.self.view_is) stands.end_is)
    ∙ ap (λ (v : Serving). c.args.reply.now.items ++ tick_bytes v.end.setup (known_of (spin_sends old.setup) old.setup es)) c.self.view_is
