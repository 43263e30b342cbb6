-- What a ladder stands for.
use Rattle.std.specs.Prelude.{◌≡◌, Bool, false, refl}
use Rattle.std.specs.Coded.{Coded, code_by, coded×, coded_bool}
use Rattle.order_book.specs.Standing.{Standing, standing_code}
use Rattle.pitch_model.specs.Book.{Book, IsBook}
use Rattle.pitch_model.specs.Levels.{level}
use Rattle.best_quotes.specs.Leveling.{Entries, Has}

-- its book, and whether memory ran out
pub record Ladder : Type 0 where
  pub book : Standing
  pub spent : Bool

-- the levels are those of the book, until memory runs out
pub record IsLadder (book : Book) (levels : Entries) (spent : Bool) : Type 0 where
  pub is_book : IsBook book
  pub has : spent ≡ false → Has levels (level book)

abbrev pub ladder_code : Coded Ladder
ladder_code =
    code_by (Standing × Bool) (coded× standing_code coded_bool)
    (λ l. (l.book, l.spent)) (λ p. record { book = p.0; spent = p.1 }) (λ _. refl)
