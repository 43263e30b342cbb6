use Rattle.std.proofs.Common.{◌++◌, ℕ, List, [], ap, ◌∙◌, sym, subst, refl}
use Rattle.pitch_messages.specs.Room.{Roomy}
use Rattle.unit_packets.specs.Packing.{bytes_in}
use Rattle.gap_store.specs.layers.Looking.{IsLater}
use Rattle.session_ends.specs.Ending.{Ending}
use Rattle.session_ends.proofs.Ends.{none_is, some_is}
use Rattle.session_ends.proofs.Showing.{lasts_same}
use Rattle.grp_session.specs.Budget.{Counts, Counted}
use Rattle.grp_session.specs.Serving.{ProxyStands}
use Rattle.grp_session.specs.layers.Feeding.{ProxyFeeds}
use Rattle.grp_session.proofs.Asked.{later_order}
use Rattle.grp_session.proofs.Serves.{fed_serves, fed_limits, fed_shut, feeds_behind}
use Rattle.grp_session.proofs.server.GrpServer.feed_from.Goals as goal

pub returns-then-is_closed-clause-fed : goal.returns-then-is_closed-clause-fed
returns-then-is_closed-clause-fed g c = λ es spent view stands counted shows.
    let some = some_is c.self.inside.end.closed (sym c.if-is_closed.ensures) in
    fed_shut es c.args.piece.now c.args.self.now some.0 c.args.there _ spent view _ _ _ _ (sym (ap (λ (v : Ending). v.closed) c.self.view_is) ∙ some.1) stands counted shows

pub returns-in-Ok-append_said-clause-fed : goal.returns-in-Ok-append_said-clause-fed
returns-in-Ok-append_said-clause-fed g c = λ es spent view stands counted shows.
    let still = none_is c.self.inside.end.closed (sym c.if-is_closed.ensures) in
    let before : ProxyStands c.self.inside.end es = subst (λ (v : Ending). ProxyStands v es) (sym c.self.view_is) stands in
    feeds_behind es c.args.piece.now _ _ c.args.there _ spent view _ _ c.hear.new.said.items c.args.reply.now.items _ _ _ _
    (subst (λ (v : Ending). ProxyFeeds es c.args.piece.now v c.hear.new.self c.args.there c.args.budget.now.limits spent view
    (Counted c.hear.new.desk.budget) (g.L.GapLookup.shows c.hear.new.source) [] c.hear.new.said.items [] (bytes_in c.hear.new.desk.lines.items)) c.self.view_is
    (fed_serves _ _ _ _ es c.args.piece.now c.hear.new.said.items c.self.inside.end c.hear.new.self _ _ c.args.there _ spent view still before
    (ap (λ (b : Counts). (c.args.there, b.limits)) c.copy.ensures) c.new-said.ensures.items (ap (λ (l : List (Roomy ℕ)). bytes_in l) c.make.ensures) refl c.in-Ok.ensures.heard (subst (λ (b : Counts). Counted b spent) (sym c.copy.ensures) counted) shows))
    (c.in-Ok-append_said.ensures.reply ∙ ap (λ (x : List ℕ). c.args.reply.now.items ++ x) c.deref.ensures.value) c.in-Ok-append_said.ensures.lines

pub returns-in-Ok-append_said-clause-limits : goal.returns-in-Ok-append_said-clause-limits
returns-in-Ok-append_said-clause-limits g c = fed_limits _ _ _ _ _ _ _ _ _ _ c.in-Ok.ensures.heard ∙ ap (λ (b : Counts). b.limits) c.copy.ensures

pub returns-in-Ok-append_said-clause-same : goal.returns-in-Ok-append_said-clause-same
returns-in-Ok-append_said-clause-same g c = (c.hear.ensures.kept c.args.lookup.now (lasts_same _ _ IsLater later_order _)).same

pub returns-in-Ok-append_said-clause-left : goal.returns-in-Ok-append_said-clause-left
returns-in-Ok-append_said-clause-left g c = (c.hear.ensures.kept c.args.lookup.now (lasts_same _ _ IsLater later_order _)).left

pub returns-clause-same : goal.returns-clause-same
returns-clause-same g c = (c.hear.ensures.kept c.args.lookup.now (lasts_same _ _ IsLater later_order _)).same

pub returns-clause-left : goal.returns-clause-left
returns-clause-left g c = (c.hear.ensures.kept c.args.lookup.now (lasts_same _ _ IsLater later_order _)).left
