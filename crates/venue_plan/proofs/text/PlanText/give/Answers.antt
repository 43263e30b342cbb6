use Rattle.std.proofs.Common.{◌≡◌, ◌∙◌, ◌++◌, ◌+◌, ◌*◌, ◌≤◌, [], length, take, drop, arith, ap, subst, sym}
use Rattle.venue_plan.specs.Text.{PlanState, due_of, left_of}
use Rattle.venue_plan.specs.contracts.text.PlanText.{the_view}
use Rattle.venue_plan.proofs.Giving.{given_next, not_both, nothing_left, some_due, some_left, some_lines_due, within_all}
use Rattle.venue_plan.proofs.text.PlanText.give.Goals as goal

pub returns-else-is_made-clause-answer : goal.returns-else-is_made-clause-answer
returns-else-is_made-clause-answer c =
    let empty : c.args.self.now.left ≡ [] =
    sym (ap (λ (s : PlanState). s.left) c.self.view_is)
    ∙ nothing_left c.deref.result.now c.self.inside.page.items c.self.inside.given c.is_empty.result c.deref.ensures.value c.is_empty.ensures c.if-is_empty.true in
    let within : c.args.self.now.made ≤ c.args.self.now.count * length c.args.self.now.units =
    subst (λ (s : PlanState). s.made ≤ s.count * length s.units) c.self.view_is
    (within_all c.self.inside.maker.made c.self.inside.due c.self.inside.maker.count (length c.self.inside.maker.units.items) c.self.invariant.made_within c.self.invariant.due_within) in (
      c.requires.page empty,
      some_lines_due c.args.self.now c.args.self.now.count empty within (λ all. not_both c.is_made.result (c.is_made.ensures.1 all) c.if-is_made.false),
    )

pub returns-clause-left : goal.returns-clause-left
returns-clause-left c =
    let room : c.min-count.result ≤ length c.args.into.now = let m = c.min-count.ensures in omega (arith, m) in
    subst (λ (s : PlanState). left_of s ≡ take c.min-count.result (c.copy_from_slice.new.self ++ drop c.min-count.result c.args.into.now) ++ left_of (the_view (record c.self.inside { given = c.self.inside.given + c.min-count.result }))) c.self.view_is
    (given_next c.deref.result.now c.self.inside.page.items c.args.into.now c.copy_from_slice.new.self _ c.self.inside.given c.min-count.result
    c.deref.ensures.value c.copy_from_slice.ensures.len room c.copy_from_slice.ensures.after)

pub returns-clause-due : goal.returns-clause-due
returns-clause-due c =
    let room : c.min-count.result ≤ length c.args.into.now = let m = c.min-count.ensures in omega (arith, m) in
    subst (λ (s : PlanState). due_of s ≡ take c.min-count.result (c.copy_from_slice.new.self ++ drop c.min-count.result c.args.into.now) ++ due_of (the_view (record c.self.inside { given = c.self.inside.given + c.min-count.result }))) c.self.view_is
    (given_next c.deref.result.now c.self.inside.page.items c.args.into.now c.copy_from_slice.new.self _ c.self.inside.given c.min-count.result
    c.deref.ensures.value c.copy_from_slice.ensures.len room c.copy_from_slice.ensures.after)

pub returns-clause-answer : goal.returns-clause-answer
returns-clause-answer c =
    some_due c.args.self.now c.args.self.now.due
    (λ none. some_left c.deref.result.now c.self.inside.page.items c.self.inside.given c.is_empty.result c.deref.ensures.value c.is_empty.ensures c.if-is_empty.false
    (ap (λ (s : PlanState). s.left) c.self.view_is ∙ none))
