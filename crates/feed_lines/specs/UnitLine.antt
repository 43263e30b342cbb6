-- The line that tells where a unit ended.
use Rattle.std.specs.Prelude.{ℕ, List, [], ◌∷◌, ◌++◌, codes}
use Rattle.pitch_model.specs.declared.status.Status.{Status}
use Rattle.feed_lines.specs.Show.{number_field}
use Rattle.feed_lines.specs.StatusText.{status_text}

-- the line of a unit: its status, and the number of orders and the shares of its book
unfoldable pub unit_line : ℕ → Status → ℕ → ℕ → List ℕ
unit_line unit status orders shares =
    number_field (codes "unit ") unit ++ (codes " " ++ (status_text status
    ++ (number_field (codes " orders ") orders
    ++ (number_field (codes " shares ") shares ++ 10 ∷ []))))
