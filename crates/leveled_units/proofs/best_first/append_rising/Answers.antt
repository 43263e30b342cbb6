use Rattle.std.proofs.Common.{◌≡◌, ℕ, ◌-◌, ◌+◌, ◌++◌, ◌∷◌, take, sym, ap, ◌∙◌, arith}
use Rattle.std.specs.Map.Iter.{deref_pair}
use Rattle.std.proofs.lemmas.Map.Iter.{rest_more, rest_all}
use Rattle.leveled_units.proofs.Rising.{Levels, next_told, none_left, all_told}
use Rattle.leveled_units.proofs.best_first.append_rising.Goals as goal

pub levels-init : goal.levels-init
levels-init c =
    let from : c.args.most - 0 ≡ c.args.most = omega arith in
    ap (λ (n : ℕ). c.args.out.now.items ++ take n c.iter-left.result) from
    ∙ ap (λ (l : Levels). c.args.out.now.items ++ take c.args.most l) c.iter-left.ensures.rest

pub levels-preserved : goal.levels-preserved
levels-preserved c =
    let split = rest_more deref_pair c.levels.left c.next.new.self c.next.result (c.in-Some.price, c.in-Some.shares) c.in-Some.is c.next.ensures.steps in
    next_told c.levels.out.items (c.args.out.now.items ++ take c.args.most c.args.prices.now.entries) (c.args.most - c.levels.counter) c.levels.left c.levels.invariant
    c.push.new.self.items c.next.new.self (c.from_long.result, c.in-Some.shares.now) (c.args.most - (c.levels.counter + 1))
    c.in_ok-push-in-Some.ensures.ok (split ∙ ap (λ (p : ℕ). (p, c.in-Some.shares.now) ∷ c.next.new.self) (sym c.from_long.ensures)) (omega arith)

pub returns-in-None : goal.returns-in-None
returns-in-None c =
    none_left c.levels.out.items (c.args.out.now.items ++ take c.args.most c.args.prices.now.entries) (c.args.most - c.levels.counter) c.levels.left c.levels.invariant
    (rest_all deref_pair c.levels.left c.next.new.self c.next.result c.in-None.is c.next.ensures.steps)

pub returns : goal.returns
returns c =
    all_told c.levels.out.items (c.args.out.now.items ++ take c.args.most c.args.prices.now.entries) (c.args.most - c.levels.counter) c.levels.left c.levels.invariant (omega arith)
