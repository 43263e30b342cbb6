use Rattle.std.proofs.Common.{◌≡◌, ◌∙◌, ◌++◌, ◌*◌, ◌-◌, ◌≤◌, List, ℕ, [], length, refl, ap, subst}
use Rattle.venue_plan.specs.Text.{PlanState, due_of, left_of, made_lines}
use Rattle.venue_plan.specs.contracts.text.PlanText.{the_view}
use Rattle.venue_plan.proofs.Giving.{turned_until, within_all, within_same}
use Rattle.venue_plan.proofs.text.PlanText.turn_page.Goals as goal

pub returns-clause-left : goal.returns-clause-left
returns-clause-left c =
    let old : PlanState = the_view c.self.inside in
    let new : PlanState = the_view (record { maker = c.fill-filled.new.maker; rate = c.self.inside.rate; due = c.self.inside.due; page = c.fill-filled.new.page; given = 0 }) in
    let units : c.len.result ≡ length c.self.inside.maker.units.items = c.len.ensures ∙ c.self.inside.maker.units.ok.0 in
    let to : c.fill-filled.new.maker.made ≤ c.self.inside.due * length c.self.inside.maker.units.items =
    within_same c.fill-filled.new.maker.made c.from.result c.len.result c.self.inside.due (length c.self.inside.maker.units.items) c.fill-filled.ensures.until c.from.ensures units in
    let page : new.left ≡ made_lines old.number old.units old.count old.made (new.made - old.made) =
    c.fill-filled.ensures.lines ∙ ap (λ (t : List ℕ). t ++ made_lines old.number old.units old.count old.made (new.made - old.made)) c.clear.ensures.items in
    subst (λ (s : PlanState). s.left ≡ [] → left_of new ≡ left_of s) c.self.view_is
    (λ empty. turned_until old new c.self.inside.maker.count c.fill-filled.new.maker.count empty c.fill-filled.ensures.number c.fill-filled.ensures.units c.fill-filled.ensures.count c.fill-filled.ensures.count page c.fill-filled.ensures.from (within_all c.fill-filled.new.maker.made c.self.inside.due c.self.inside.maker.count (length c.self.inside.maker.units.items) to c.self.invariant.due_within))
    c.requires

pub returns-clause-due : goal.returns-clause-due
returns-clause-due c =
    let old : PlanState = the_view c.self.inside in
    let new : PlanState = the_view (record { maker = c.fill-filled.new.maker; rate = c.self.inside.rate; due = c.self.inside.due; page = c.fill-filled.new.page; given = 0 }) in
    let units : c.len.result ≡ length c.self.inside.maker.units.items = c.len.ensures ∙ c.self.inside.maker.units.ok.0 in
    let to : c.fill-filled.new.maker.made ≤ c.self.inside.due * length c.self.inside.maker.units.items =
    within_same c.fill-filled.new.maker.made c.from.result c.len.result c.self.inside.due (length c.self.inside.maker.units.items) c.fill-filled.ensures.until c.from.ensures units in
    let page : new.left ≡ made_lines old.number old.units old.count old.made (new.made - old.made) =
    c.fill-filled.ensures.lines ∙ ap (λ (t : List ℕ). t ++ made_lines old.number old.units old.count old.made (new.made - old.made)) c.clear.ensures.items in
    subst (λ (s : PlanState). s.left ≡ [] → due_of new ≡ due_of s) c.self.view_is
    (λ empty. turned_until old new c.self.inside.due c.self.inside.due empty c.fill-filled.ensures.number c.fill-filled.ensures.units c.fill-filled.ensures.count refl page c.fill-filled.ensures.from to)
    c.requires
