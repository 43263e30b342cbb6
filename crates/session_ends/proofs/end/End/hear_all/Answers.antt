use Rattle.std.proofs.Common.{◌≡◌, ◌∷◌, List, ap, ◌∙◌, sym, subst, refl}
use Rattle.session_ends.specs.declared.inbox.Heard.{Heard}
use Rattle.session_ends.specs.Ending.{Ending}
use Rattle.session_ends.specs.layers.Hearing.{reader_items, says}
use Rattle.session_ends.proofs.Ends.{none_is, some_is}
use Rattle.session_ends.proofs.Runs.{Left, left_none, left_end, left_on, driven_none, driven_on, closed_by, driven_to, driven_end}
use Rattle.session_ends.proofs.end.End.hear_all.Goals as goal

pub items-init : goal.items-init
items-init g c = record {
  still = c.requires;
  rest = refl;
  bytes = c.of-items.ensures.bytes;
  left = subst (λ (l : List Heard). Left c.args.self.now.setup c.args.self.now.logged (reader_items c.args.reader.now) c.args.self.now.logged l) (sym c.of-items.ensures.says) (left_none _ _ _);
  driven = driven_none g.A.Answers.answered _ _ _ _ _ c.of-items.ensures.says;
  kept = λ first k. k;
}

pub items-preserved : goal.items-preserved
items-preserved g c =
    let item : Heard = c.in-Some.item in
    let d : says c.items.items ≡ item ∷ says c.next_item.new.self = c.in-Some.ensures.says in
    let none = none_is c.judge.new.self.closed (sym c.if-is_closed.ensures) in
    let same : c.items.self.setup ≡ c.args.self.now.setup = ap (λ (v : Ending). v.setup) c.items.invariant.rest in
    record {
      still = none;
      rest = c.judge.ensures.rest ∙ ap (λ (v : Ending). record v { closed = c.judge.new.self.closed; logged = c.judge.new.self.logged }) c.items.invariant.rest;
      bytes = c.in-Some.ensures.bytes ∙ c.items.invariant.bytes;
      left = left_on g.A.Answers.answered _ _ _ _ _ item _ _ _ _ _ _ _ c.items.invariant.left c.items.invariant.driven same d c.in_ok-answer.ensures.answered c.judge.ensures.closed c.judge.ensures.logged none;
      driven = driven_on g.A.Answers.answered _ _ _ _ _ item _ _ _ _ _ _ _ c.items.invariant.left c.items.invariant.driven same d c.in_ok-answer.ensures.answered c.judge.ensures.closed c.judge.ensures.logged none;
      kept = λ first k. c.in_ok-answer.ensures.kept first (c.items.invariant.kept first k);
    }

pub returns-then-is_closed-clause-closed : goal.returns-then-is_closed-clause-closed
returns-then-is_closed-clause-closed g c =
    let some = some_is c.judge.new.self.closed (sym c.if-is_closed.ensures) in
    let same : c.items.self.setup ≡ c.args.self.now.setup = ap (λ (v : Ending). v.setup) c.items.invariant.rest in
    closed_by g.A.Answers.answered _ _ _ _ _ c.in-Some.item _ _ _ _ _ _ _ c.items.invariant.left c.items.invariant.driven same c.in-Some.ensures.says c.in_ok-answer.ensures.answered c.judge.ensures.closed c.judge.ensures.logged some.0 some.1

pub returns-then-is_closed-clause-answered : goal.returns-then-is_closed-clause-answered
returns-then-is_closed-clause-answered g c =
    let some = some_is c.judge.new.self.closed (sym c.if-is_closed.ensures) in
    let same : c.items.self.setup ≡ c.args.self.now.setup = ap (λ (v : Ending). v.setup) c.items.invariant.rest in
    driven_to g.A.Answers.answered _ _ _ _ _ c.in-Some.item _ _ _ _ _ _ _ c.items.invariant.left c.items.invariant.driven same c.in-Some.ensures.says c.in_ok-answer.ensures.answered c.judge.ensures.closed c.judge.ensures.logged some.0 some.1

pub returns-clause-closed : goal.returns-clause-closed
returns-clause-closed g c = c.items.invariant.still ∙ (left_end _ _ _ _ _ c.items.invariant.left c.in_default.ensures.says.0).0

pub returns-clause-logged : goal.returns-clause-logged
returns-clause-logged g c = λ still. (left_end _ _ _ _ _ c.items.invariant.left c.in_default.ensures.says.0).1

pub returns-clause-answered : goal.returns-clause-answered
returns-clause-answered g c = driven_end g.A.Answers.answered _ _ _ _ _ _ _ c.items.invariant.driven c.in_default.ensures.says.0
