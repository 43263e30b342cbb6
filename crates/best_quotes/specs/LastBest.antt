-- The last line of a symbol's side.
use Rattle.std.specs.Prelude.{ℕ, ◌+◌, Bool, ◌&&◌, ◌==◌, List, [], ◌∷◌, ◌++◌, fold, Option, None}
use Rattle.std.specs.Prelude.{if◌then◌else◌, bytes_eq}
use Rattle.unit_packets.specs.Blocks.{Block}
use Rattle.pitch_fields.specs.declared.side.Side.{Side}
use Rattle.pitch_model.specs.Book.{Book, after}
use Rattle.pitch_model.specs.History.{Raw}
use Rattle.pitch_model.specs.Levels.{same_side}
use Rattle.heard_items.specs.Units.{unit_history}
use Rattle.best_quotes.specs.declared.quote.Quote.{Quote}
use Rattle.best_quotes.specs.declared.quote.QuoteLine.{QuoteLine}
use Rattle.best_quotes.specs.Changes.{changes}
use Rattle.best_quotes.specs.Quoting.{numbered, quotes_of_block}

-- those that messages make of a book, one after another, where the first has this sequence
abbrev pub quoted : ℕ → Book → List Raw → List QuoteLine
quoted first book [] = []
quoted first book (raw ∷ raws) =
    numbered first (changes book (after book raw)) ++ quoted (first + 1) (after book raw) raws

-- those of all blocks of a unit, the newest of which stands first
abbrev pub unit_quotes : ℕ → List Raw → ℕ → List Block → List QuoteLine
unit_quotes H V unit [] = []
unit_quotes H V unit (block ∷ before) =
    if block.unit == unit
    then unit_quotes H V unit before ++ quotes_of_block H V (unit_history unit before) block
    else unit_quotes H V unit before

-- ---- What the last line says
abbrev pub is_for : List ℕ → Side → Quote → Bool
is_for symbol side quote = bytes_eq symbol quote.symbol && same_side side quote.side

-- the best that the last line of a symbol and side gives, or else this one
abbrev pub last_or : List ℕ → Side → Option (ℕ × ℕ) → List QuoteLine → Option (ℕ × ℕ)
last_or symbol side first lines =
    fold (λ before line. if is_for symbol side line.quote then line.quote.best else before)
    first lines

-- none where there is no line
abbrev pub last_best : List ℕ → Side → List QuoteLine → Option (ℕ × ℕ)
last_best symbol side lines = last_or symbol side None lines
