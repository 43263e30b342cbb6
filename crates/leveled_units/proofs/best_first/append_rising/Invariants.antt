use Rattle.std.proofs.Common.{◌≡◌, ◌-◌, ◌++◌, take}
use Rattle.leveled_units.proofs.best_first.append_rising.Given as goal

abbrev pub invariant-levels : goal.invariant-levels
invariant-levels l = l.out.items ++ take (l.most - l.counter) l.left ≡ l.fn.out.items ++ take l.most l.prices.entries
