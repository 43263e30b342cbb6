use Rattle.std.proofs.Common.{◌≡◌, ℕ, ◌-◌, ◌+◌, ◌++◌, ◌∷◌, [], take, reverse, sym, ap, ◌∙◌, arith}
use Rattle.std.proofs.lemmas.List.{reverse-append}
use Rattle.leveled_units.proofs.Rising.{Levels, next_told, none_left, all_told}
use Rattle.leveled_units.proofs.best_first.append_falling.Goals as goal

pub levels-init : goal.levels-init
levels-init c =
    let from : c.args.most - 0 ≡ c.args.most = omega arith in
    ap (λ (n : ℕ). c.args.out.now.items ++ take n (reverse c.iter-left.result)) from
    ∙ ap (λ (l : Levels). c.args.out.now.items ++ take c.args.most (reverse l)) c.iter-left.ensures.rest

pub levels-preserved : goal.levels-preserved
levels-preserved c =
    let split : c.levels.left ≡ c.next_back.new.self ++ (c.in-Some.price.now, c.in-Some.shares.now) ∷ [] = rw c.in-Some.is at c.next_back.ensures.steps in
    let left' = c.next_back.new.self in
    next_told c.levels.out.items (c.args.out.now.items ++ take c.args.most (reverse c.args.prices.now.entries)) (c.args.most - c.levels.counter) (reverse c.levels.left) c.levels.invariant
    c.push.new.self.items (reverse left') (c.from_long.result, c.in-Some.shares.now) (c.args.most - (c.levels.counter + 1))
    c.in_ok-push-in-Some.ensures.ok
    (ap reverse split ∙ reverse-append left' ((c.in-Some.price.now, c.in-Some.shares.now) ∷ []) ∙ ap (λ (p : ℕ). (p, c.in-Some.shares.now) ∷ reverse left') (sym c.from_long.ensures)) (omega arith)

pub returns-in-None : goal.returns-in-None
returns-in-None c =
    let none : (c.levels.left ≡ []) × (c.next_back.new.self ≡ []) = rw c.in-None.is at c.next_back.ensures.steps in
    none_left c.levels.out.items (c.args.out.now.items ++ take c.args.most (reverse c.args.prices.now.entries)) (c.args.most - c.levels.counter) (reverse c.levels.left) c.levels.invariant (ap reverse none.0)

pub returns : goal.returns
returns c =
    all_told c.levels.out.items (c.args.out.now.items ++ take c.args.most (reverse c.args.prices.now.entries)) (c.args.most - c.levels.counter) (reverse c.levels.left) c.levels.invariant (omega arith)
