-- The words of a message, one after another.
use Rattle.std.proofs.Common.{◌≡◌, ℕ, suc, ◌-◌, ◌/◌, ◌<◌, ◌≤◌, List, length, drop, ap, arith, length-drop}
use Rattle.pitch_fields.specs.Fields.{number_at}
use Rattle.line_copies.specs.Sums.{mixed, summed}

-- one word more
pub summed_more : (rest : List ℕ) (sum : ℕ) → 8 < length rest → summed ((length rest - 1) / 8) sum rest ≡ summed ((length (drop 8 rest) - 1) / 8) (mixed sum (number_at 8 0 rest)) (drop 8 rest)
summed_more rest sum long =
    let words : (length rest - 1) / 8 ≡ suc ((length (drop 8 rest) - 1) / 8) = simp length-drop (omega arith) in
    ap (λ (n : ℕ). summed n sum rest) words

-- and no more
pub summed_all : (rest : List ℕ) (sum : ℕ) → length rest ≤ 8 → summed ((length rest - 1) / 8) sum rest ≡ sum
summed_all rest sum few =
    let words : (length rest - 1) / 8 ≡ 0 = omega arith in
    ap (λ (n : ℕ). summed n sum rest) words
