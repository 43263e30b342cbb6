-- A shelf as its parts.
use Rattle.std.specs.Prelude.{◌≡◌, ℕ, ◌+◌, ◌≤◌, Bool, false, ◌==◌, List, [], ◌∷◌, length, Option}
use Rattle.std.specs.Prelude.{None, Some, refl}
use Rattle.pitch_fields.specs.Limits.{last_sequence}
use Rattle.std.specs.FinMap as map
use Rattle.std.specs.Coded.{Coded, code_by, coded×, coded_ℕ, coded_list}
use Rattle.pitch_model.specs.Book.{Book}
use Rattle.order_book.specs.Standing.{book_code}
use Rattle.spin_server.specs.Shelves.{Shelf, base_at}

-- there is one, and it is this
abbrev pub is_number : Option ℕ → ℕ → Bool
is_number None sequence = false
is_number (Some n) sequence = n == sequence

-- numbers that do not fall, from one number up to another
abbrev pub Climbs : ℕ → List ℕ → ℕ → Type 0
Climbs low [] top = low ≤ top
Climbs low (n ∷ ns) top = (low ≤ n) × Climbs n ns top

-- what holds of every shelf
pub record IsShelf (shelf : Shelf) : Type 0 where
  pub climbs : Climbs 0 shelf.served shelf.pushed
  pub size : length shelf.after + base_at shelf ≡ shelf.pushed
  pub few : map.len shelf.base.orders ≤ base_at shelf
  pub ten : length shelf.served ≤ 10
  pub top : shelf.pushed ≤ last_sequence

-- ---- Its code: lists and numbers
abbrev pub ShelfParts : Type 0
ShelfParts = Book × (List (List ℕ) × (ℕ × List ℕ))

abbrev pub shelf_from : ShelfParts → Shelf
shelf_from p = record { base = p.0; after = p.1.0; pushed = p.1.1.0; served = p.1.1.1 }

abbrev pub shelf_code : Coded Shelf
shelf_code = code_by ShelfParts (coded× book_code
    (coded× (coded_list (coded_list coded_ℕ)) (coded× coded_ℕ (coded_list coded_ℕ))))
    (λ s. (s.base, (s.after, (s.pushed, s.served)))) shelf_from (λ _. refl)
