-- Lines that are compared.
use Rattle.std.specs.Prelude.{◌≡◌, ℕ, List, ◌∷◌, ◌++◌, length, codes, decimal}
use Rattle.run_audit.specs.declared.lines.Compared.{Compared}
use Rattle.run_audit.specs.declared.lines.Compared.TheVariants.{Same, Differs}

-- how the first line of a book begins
abbrev pub book_front : ℕ → ℕ → List ℕ
book_front unit n =
    codes "book unit " ++ (decimal unit ++ (codes " at " ++ (decimal n ++ codes " second ")))

-- so many lines are the same, and are passed
pub record Passes (wanted lines left rest : List (List ℕ)) (count : ℕ) : Type 0 where
  pub same : List (List ℕ)
  pub count_is : count ≡ length same
  pub wanted_is : wanted ≡ same ++ rest
  pub lines_are : lines ≡ same ++ left

-- after so many lines that both have, the next wanted one is not what stands there
pub record Parts (wanted lines : List (List ℕ)) (count : ℕ) : Type 0 where
  pub line : List ℕ
  pub rest : List (List ℕ)
  pub left : List (List ℕ)
  pub passes : Passes wanted lines left (line ∷ rest) count
  pub differs : (more : List (List ℕ)) → left ≡ line ∷ more → ⊥

-- how lines compare with wanted ones, and which are left
abbrev pub Compares : List (List ℕ) → List (List ℕ) → List (List ℕ) → Compared → Type 0
Compares wanted lines left (Same count) = (lines ≡ wanted ++ left) × (count ≡ length wanted)
Compares wanted lines left (Differs count) = Parts wanted lines count
