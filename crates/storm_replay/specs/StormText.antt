-- How the summary of a storm begins. The lines of its units are those of feed_lines.
use Rattle.std.specs.Prelude.{ℕ, List, [], ◌∷◌, ◌++◌, codes}
use Rattle.feed_lines.specs.Show.{number_field}

-- the summary's first line: what the storm was made of
unfoldable pub storm_line : ℕ → ℕ → ℕ → List ℕ
storm_line number units steps =
    number_field (codes "storm number ") number
    ++ (number_field (codes " units ") units ++ (number_field (codes " steps ") steps ++ 10 ∷ []))
