-- The lines of a summary, written piece by piece.
use Rattle.std.proofs.Common.{◌≡◌, ℕ, List, [], ◌∷◌, ◌++◌, codes, ◌∙◌}
use Rattle.feed_lines.proofs.Pieces.{four}
use Rattle.feed_lines.specs.Show.{number_field}
use Rattle.storm_replay.specs.StormText.{storm_line}

pub storm_line_written : (s t u v w : List ℕ) (number units steps of_units of_steps : ℕ) → of_units ≡ units → of_steps ≡ steps → t ≡ s ++ number_field (codes "storm number ") number → u ≡ t ++ number_field (codes " units ") of_units
    → v ≡ u ++ number_field (codes " steps ") of_steps → w ≡ v ++ 10 ∷ [] → w ≡ s ++ storm_line number units steps
unfolding storm_line
storm_line_written s t u v w number units steps of_units of_steps e f a b c d =
    four s t u v w (number_field (codes "storm number ") number) (number_field (codes " units ") of_units) (number_field (codes " steps ") of_steps) (10 ∷ []) a b c d
    ∙ (λ i. s ++ (number_field (codes "storm number ") number ++ (number_field (codes " units ") (e i) ++ (number_field (codes " steps ") (f i) ++ 10 ∷ []))))
