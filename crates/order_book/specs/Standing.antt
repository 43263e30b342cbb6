-- What the book of a unit stands for.
use Rattle.std.specs.Prelude.{◌≡◌, ◌≤◌, ℕ, Bool, true, false, List, Option, length, nat_eq, refl}
use Rattle.std.specs.List.{IsDistinct}
use Rattle.std.specs.Map.{keys_of}
use Rattle.std.specs.Ordering.{nat_cmp}
use Rattle.std.specs.FinMap as map
use Rattle.std.specs.Coded.{Coded, code_by, coded×, coded_ℕ, coded_bool, coded_list, coded_option}
use Rattle.pitch_fields.specs.declared.side.Side.{Side}
use Rattle.pitch_fields.specs.declared.side.Side.TheVariants.{Buy, Sell}
use Rattle.pitch_messages.specs.declared.order.Order.{Order}
use Rattle.pitch_model.specs.Book.{Book, IsBook}
use Rattle.order_book.specs.Symbols.{StatusMap, statuses_code}

-- the most orders that a book may have
abbrev pub most_orders : ℕ
most_orders = 4294967295

-- the book, and how many messages of any kind need no memory
pub record Standing : Type 0 where
  pub book : Book
  pub spare : ℕ

-- the book of a second, of a list of entries, and of statuses
abbrev pub book_of : Option ℕ → List (ℕ × Order) → StatusMap → Book
book_of second entries statuses =
    record { second = second; orders = map.from_entries entries; statuses = statuses }

-- what holds of every book that is kept: its orders stand under their ids and have shares, no id
-- stands twice, and there are not too many
pub record IsKept (second : Option ℕ) (entries : List (ℕ × Order)) (statuses : StatusMap) :
    Type 0 where
  pub book : IsBook (book_of second entries statuses)
  pub unique : IsDistinct nat_eq (keys_of entries)
  pub few : length entries ≤ most_orders

-- ---- Codes: each value as pairs, lists and numbers
abbrev pub is_buy : Side → Bool
is_buy Buy = true
is_buy Sell = false

abbrev pub side_from : Bool → Side
side_from true = Buy
side_from false = Sell

abbrev pub side_back : (side : Side) → side_from (is_buy side) ≡ side
side_back Buy = refl
side_back Sell = refl

abbrev pub side_code : Coded Side
side_code = code_by Bool coded_bool is_buy side_from side_back

abbrev pub Fields : Type 0
Fields = ℕ × (Side × (ℕ × (List ℕ × (ℕ × (Bool × List ℕ)))))

abbrev pub fields_code : Coded Fields
fields_code = coded× coded_ℕ (coded× side_code (coded× coded_ℕ
    (coded× (coded_list coded_ℕ) (coded× coded_ℕ (coded× coded_bool (coded_list coded_ℕ))))))

abbrev pub order_fields : Order → Fields
order_fields o = (o.id, (o.side, (o.quantity, (o.symbol, (o.price, (o.display, o.participant))))))

abbrev pub order_from : Fields → Order
order_from p = record {
  id = p.0;
  side = p.1.0;
  quantity = p.1.1.0;
  symbol = p.1.1.1.0;
  price = p.1.1.1.1.0;
  display = p.1.1.1.1.1.0;
  participant = p.1.1.1.1.1.1;
}

abbrev pub order_code : Coded Order
order_code = code_by Fields fields_code order_fields order_from (λ _. refl)

abbrev pub Parts : Type 0
Parts = Option ℕ × (map.FinMap nat_cmp Order × StatusMap)

abbrev pub book_from : Parts → Book
book_from p = record { second = p.0; orders = p.1.0; statuses = p.1.1 }

abbrev pub book_code : Coded Book
book_code = code_by Parts
    (coded× (coded_option coded_ℕ) (coded× (map.code coded_ℕ order_code) statuses_code))
    (λ b. (b.second, (b.orders, b.statuses))) book_from (λ _. refl)

abbrev pub standing_code : Coded Standing
standing_code = code_by (Book × ℕ) (coded× book_code coded_ℕ)
    (λ s. (s.book, s.spare)) (λ p. record { book = p.0; spare = p.1 }) (λ _. refl)
