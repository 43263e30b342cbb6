-- How many digits a number has.
use Rattle.std.proofs.Common.{arith, zero, suc, subst, ◌/◌, ◌%◌, ◌≡◌, ap, ℕ, ◌+◌, ◌-◌, ◌<◌, ◌≤◌, ◌^◌, ◌++◌, ◌∷◌, [], List, length, decimal}
use Rattle.std.proofs.lemmas.Fmt.{length-decimal-le, decimal_by_steps, decimal_digit}
use Rattle.std.proofs.lemmas.List.{length-append}

pub one_digit : (n : ℕ) → n < 10 → length (decimal n) ≡ 1
one_digit n l = ap length (decimal_digit n l)

positive : (j : ℕ) → 0 < 10 ^ j
positive zero = omega arith
positive (suc j) = omega (arith, positive j)

at_least : (k n : ℕ) → 10 ^ k ≤ n → n < 2 ^ 64 → k < length (decimal n)
at_least k n big small = decimal_by_steps (λ m ds. (j : ℕ) → 10 ^ j ≤ m → j < length ds) first more n small k big
  where
    first : (m : ℕ) → m < 10 → (j : ℕ) → 10 ^ j ≤ m → j < 1
    first m l zero a = omega arith
    first m l (suc j) a = absurd (omega (arith, positive j))

    more : (m : ℕ) (ds : List ℕ) → 10 ≤ m → ((j : ℕ) → 10 ^ j ≤ m / 10 → j < length ds) → (j : ℕ) → 10 ^ j ≤ m → j < length (ds ++ ((48 + m % 10) ∷ []))
    more m ds l h zero a = omega (arith, length-append ds ((48 + m % 10) ∷ []))
    more m ds l h (suc j) a = omega (arith, length-append ds ((48 + m % 10) ∷ []), h j (omega (arith, positive j)))

-- a number from 10 ^ (k - 1) on and below 10 ^ k has k digits
pub more_digits : (k n : ℕ) → 1 < k → 10 ^ (k - 1) ≤ n → n < 10 ^ k → n < 2 ^ 64 → length (decimal n) ≡ k
more_digits zero n a b c d = absurd (omega arith)
more_digits (suc k) n a b c d =
    let e : suc k - 1 ≡ k = omega arith in
    omega (arith, at_least k n (subst (λ j. 10 ^ j ≤ n) e b) d, length-decimal-le (suc k) n (omega arith) c d)
