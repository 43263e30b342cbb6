-- The texts of the items of a list, one after another. Items that came before stand newest first.
use Rattle.std.specs.Prelude.{ℕ, List, [], ◌∷◌, ◌++◌, codes, decimal}

-- the text of each item, by those that came before it
unfoldable pub texts_after : {A : Type 0} → (List A → A → List ℕ) → List A → List A → List ℕ
texts_after text before [] = []
texts_after text before (x ∷ xs) = text before x ++ texts_after text (x ∷ before) xs

-- how the line of block number k begins
abbrev pub block_head : ℕ → ℕ → ℕ → ℕ → List ℕ
block_head k unit first count =
    codes "block " ++ decimal k ++ codes " unit "
    ++ decimal unit ++ codes " first " ++ decimal first ++ codes " count " ++ decimal count
