use Rattle.std.proofs.Common.{◌≡◌, ◌||◌, List, ℕ}
use Rattle.std.specs.List.{list_any}
use Rattle.std.specs.Ordering.{nat_cmp, eq_by_cmp}
use Rattle.std.specs.Cmp.Lexicographic.{slice_cmp}
use Rattle.std.specs.BTreeSet.{contains}
use Rattle.indexmap.specs.IndexMap.{keys}
use Rattle.best_quotes.proofs.clearing.symbols_of.Given as goal

abbrev pub invariant-loop-symbol : goal.invariant-loop-symbol
invariant-loop-symbol l = (q : List ℕ) → (contains (slice_cmp nat_cmp) l.symbols q || list_any (λ key. eq_by_cmp (slice_cmp nat_cmp) key q) l.symbol-iterator)
    ≡ list_any (λ key. eq_by_cmp (slice_cmp nat_cmp) key q) (keys l.levels)
