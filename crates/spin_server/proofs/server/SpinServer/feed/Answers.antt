use Rattle.std.proofs.Common.{◌++◌, ℕ, List, [], is_some, ap, ◌∙◌, sym, subst, refl}
use Rattle.session_ends.proofs.Ends.{none_is, some_is}
use Rattle.session_ends.proofs.Showing.{shown_same, lasts_same}
use Rattle.spin_server.specs.layers.Feeding.{SpinFeeds}
use Rattle.spin_server.specs.layers.Looking.{ServedLater}
use Rattle.spin_server.specs.Serving.{Serving, SpinStands}
use Rattle.spin_server.proofs.Serves.{later_order, fed_serves, fed_shut, feeds_behind}
use Rattle.spin_server.proofs.server.SpinServer.feed.Goals as goal

pub returns-then-is_closed-clause-fed : goal.returns-then-is_closed-clause-fed
returns-then-is_closed-clause-fed g c = λ es view stands shows.
    let some = some_is c.args.self.now.end.closed (sym c.if-is_closed.ensures) in
    fed_shut es c.args.piece.now c.args.self.now some.0 view _ _ some.1 stands shows

pub returns-in-Ok-extend_from_slice-clause-fed : goal.returns-in-Ok-extend_from_slice-clause-fed
returns-in-Ok-extend_from_slice-clause-fed g c = λ es view stands shows.
    let old : Serving = record { end = c.self.inside.end; spin = c.self.inside.spin } in
    let new : Serving = record { end = c.hear.new.self; spin = c.hear.new.desk.spin } in
    let still = none_is c.self.inside.end.closed (ap (λ (v : Serving). is_some v.end.closed) c.self.view_is ∙ sym c.if-is_closed.ensures) in
    let before : SpinStands old es = subst (λ (v : Serving). SpinStands v es) (sym c.self.view_is) stands in
    feeds_behind es c.args.piece.now _ _ view _ c.hear.new.said.items c.args.reply.now.items _
    (subst (λ (v : Serving). SpinFeeds es c.args.piece.now v new view (g.L.ImageLookup.shows c.hear.new.source) [] c.hear.new.said.items) c.self.view_is
    (fed_serves _ _ es c.args.piece.now c.hear.new.said.items old new _ _ view still before c.new-said.ensures.items refl (sym c.replace.ensures.value) refl c.in-Ok.ensures.heard shows))
    (c.in-Ok-extend_from_slice.ensures.items ∙ ap (λ (x : List ℕ). c.args.reply.now.items ++ x) c.deref.ensures.value)

pub returns-in-Ok-extend_from_slice-clause-same : goal.returns-in-Ok-extend_from_slice-clause-same
returns-in-Ok-extend_from_slice-clause-same g c = (c.hear.ensures.kept c.args.lookup.now (lasts_same _ _ ServedLater later_order _)).same

pub returns-in-Ok-extend_from_slice-clause-left : goal.returns-in-Ok-extend_from_slice-clause-left
returns-in-Ok-extend_from_slice-clause-left g c = (c.hear.ensures.kept c.args.lookup.now (lasts_same _ _ ServedLater later_order _)).left

pub returns-clause-same : goal.returns-clause-same
returns-clause-same g c = (c.hear.ensures.kept c.args.lookup.now (lasts_same _ _ ServedLater later_order _)).same

pub returns-clause-left : goal.returns-clause-left
returns-clause-left g c = (c.hear.ensures.kept c.args.lookup.now (lasts_same _ _ ServedLater later_order _)).left

pub returns-then-is_closed-clause-left : goal.returns-then-is_closed-clause-left
returns-then-is_closed-clause-left g c = λ view shows. shown_same ServedLater later_order _ view shows
