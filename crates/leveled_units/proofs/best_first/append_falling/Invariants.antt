use Rattle.std.proofs.Common.{◌≡◌, ◌-◌, ◌++◌, take, reverse}
use Rattle.leveled_units.proofs.best_first.append_falling.Given as goal

abbrev pub invariant-levels : goal.invariant-levels
invariant-levels l = l.out.items ++ take (l.most - l.counter) (reverse l.left) ≡ l.fn.out.items ++ take l.most (reverse l.prices.entries)
