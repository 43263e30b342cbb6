-- All levels of a symbol on a side.
use Rattle.std.specs.Prelude.{◌≡◌, ℕ, List, [], ◌∷◌, ◌++◌, length, reverse, take}
use Rattle.std.specs.Ordering.{nat_cmp}
use Rattle.std.specs.FinMap.Entries.{put}
use Rattle.pitch_fields.specs.declared.side.Side.{Side}
use Rattle.pitch_fields.specs.declared.side.Side.TheVariants.{Buy, Sell}
use Rattle.pitch_model.specs.Book.{Book}
use Rattle.pitch_model.specs.Levels.{level, prices_on}

-- some prices with what is open at each, by rising price, each once
abbrev pub rising : (ℕ → ℕ) → List ℕ → List (ℕ × ℕ)
rising shares [] = []
rising shares (price ∷ prices) = put nat_cmp price (shares price) (rising shares prices)

-- levels by rising price, turned so that the best stands first
abbrev pub best_first : Side → List (ℕ × ℕ) → List (ℕ × ℕ)
best_first Buy levels = reverse levels
best_first Sell levels = levels

-- the prices at which orders of a symbol on a side are open, with their shares, the best first
unfoldable pub levels_of : Book → List ℕ → Side → List (ℕ × ℕ)
levels_of book symbol side =
    best_first side (rising (level book symbol side) (prices_on book symbol side))

-- the first of them were appended to a list, so many at most, and this is how many there are
pub record TellsLevels (book : Book) (symbol : List ℕ) (side : Side) (most : ℕ)
    (told told' : List (ℕ × ℕ)) (count : ℕ) : Type 0 where
  pub levels : told' ≡ told ++ take most (levels_of book symbol side)
  pub count_is : count ≡ length (levels_of book symbol side)
