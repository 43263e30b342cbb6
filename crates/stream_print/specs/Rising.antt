-- Numbers that pass a test.
use Rattle.std.specs.Prelude.{ℕ, zero, suc, Bool, List, [], ◌∷◌, ◌++◌, if◌then◌else◌}

-- those below n, rising
unfoldable pub named_below : (ℕ → Bool) → ℕ → List ℕ
named_below p zero = []
named_below p (suc n) = named_below p n ++ (if p n then n ∷ [] else [])
