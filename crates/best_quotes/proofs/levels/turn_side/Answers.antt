use Rattle.std.proofs.Common.{refl}
use Rattle.best_quotes.proofs.Sided.{turns_between}
use Rattle.best_quotes.proofs.levels.turn_side.Goals as goal

pub returns-then-is_some : goal.returns-then-is_some
returns-then-is_some c = λ on on'.
    turns_between c.args.levels.now.entries c.place_of.new.levels.entries c.turn_at.new.levels.entries c.turn_at.new.levels.entries
    c.args.symbol c.args.side c.args.before.now c.args.now.now c.in_ok-bests.bests
    c.in_ok-place.ensures.same (c.in_ok-bests.ensures c.args.symbol c.in_ok-place.ensures.place on on') (λ q s price. refl)

pub returns : goal.returns
returns c = λ on on'.
    turns_between c.args.levels.now.entries c.place_of.new.levels.entries c.turn_at.new.levels.entries c.drop_empty.new.levels.entries
    c.args.symbol c.args.side c.args.before.now c.args.now.now c.in_ok-bests.bests
    c.in_ok-place.ensures.same (c.in_ok-bests.ensures c.args.symbol c.in_ok-place.ensures.place on on') c.drop_empty.ensures
