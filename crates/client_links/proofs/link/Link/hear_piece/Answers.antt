use Rattle.std.proofs.Common.{◌≡◌, ◌++◌, None, map, ap, ◌∙◌, sym, subst, refl}
use Rattle.session_ends.specs.Closing.{Setup}
use Rattle.session_ends.specs.Ending.{Ending}
use Rattle.client_links.specs.Linking.{LinkStands, link_tells}
use Rattle.client_links.specs.Telling.{without_spare, run_of}
use Rattle.client_links.proofs.Linked.{link_fed}
use Rattle.client_links.proofs.link.Link.hear_piece.Goals as goal

pub returns-clause-stands : goal.returns-clause-stands
returns-clause-stands g c = λ es stands.
    let still : c.self.inside.end.closed ≡ None = ap (λ (v : Ending). v.closed) c.self.view_is ∙ c.requires in
    let before : LinkStands c.self.inside.end es = subst (λ (v : Ending). LinkStands v es) (sym c.self.view_is) stands in
    (link_fed _ _ es c.args.piece.now c.hear.new.said.items c.self.inside.end c.hear.new.self _ _ still before c.new-said.ensures.items refl (ap (map without_spare) c.new.ensures.items) c.make.ensures c.in_ok-hear.ensures.heard).0

pub returns-clause-tells : goal.returns-clause-tells
returns-clause-tells g c = λ es stands.
    let still : c.self.inside.end.closed ≡ None = ap (λ (v : Ending). v.closed) c.self.view_is ∙ c.requires in
    let before : LinkStands c.self.inside.end es = subst (λ (v : Ending). LinkStands v es) (sym c.self.view_is) stands in
    c.in_ok-put_run.ensures.told
    ∙ ap (λ (s : Setup). map without_spare c.hear.new.desk.told.items ++ run_of s.role c.hear.new.desk.run.items) c.in_ok-hear.ensures.setup
    ∙ (link_fed _ _ es c.args.piece.now c.hear.new.said.items c.self.inside.end c.hear.new.self _ _ still before c.new-said.ensures.items refl (ap (map without_spare) c.new.ensures.items) c.make.ensures c.in_ok-hear.ensures.heard).1
    ∙ ap (λ (v : Ending). link_tells v.setup es c.args.piece.now) c.self.view_is
