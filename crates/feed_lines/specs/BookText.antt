-- The printed book.
use Rattle.std.specs.Prelude.{ℕ, Bool, List, [], ◌∷◌, ◌++◌, codes, decimal, Option, None, Some}
use Rattle.std.specs.Prelude.{if◌then◌else◌}
use Rattle.std.specs.List.{flat_map}
use Rattle.std.specs.FinMap as map
use Rattle.pitch_fields.specs.Side.{byte_of}
use Rattle.pitch_fields.specs.Price.{price_digits}
use Rattle.pitch_fields.specs.Name.{is_blank, name_shown}
use Rattle.pitch_messages.specs.declared.order.Order.{Order}
use Rattle.pitch_messages.specs.declared.trading_state.TradingState.{TradingState}
use Rattle.pitch_model.specs.Book.{Book}
use Rattle.pitch_model.specs.Statuses.{statuses_of}

-- an order that is not displayed is marked
abbrev pub hidden_text : Bool → List ℕ
hidden_text displayed = if displayed then [] else codes " hidden"

-- the participant, where one is named
abbrev pub participant_text : List ℕ → List ℕ
participant_text name = if is_blank name then [] else codes " mpid=" ++ name_shown name

-- the first half of an order's line
abbrev pub order_head : ℕ → Order → List ℕ
order_head id order = codes "order "
    ++ (decimal id ++ (32 ∷ byte_of order.side ∷ 32 ∷ (decimal order.quantity ++ 32 ∷ [])))

-- and the second
abbrev pub order_tail : Order → List ℕ
order_tail order =
    name_shown order.symbol ++ (32 ∷ [] ++ (price_digits order.price
    ++ (hidden_text order.display ++ (participant_text order.participant ++ 10 ∷ []))))

-- the line of an open order
unfoldable pub order_line : ℕ → Order → List ℕ
order_line id order = order_head id order ++ order_tail order

-- the second, or a dash where none is known
abbrev pub second_text : Option ℕ → List ℕ
second_text None = codes "-"
second_text (Some second) = decimal second

-- a unit, how far it reaches, and its second
abbrev pub book_place : ℕ → ℕ → Option ℕ → List ℕ
book_place unit n second =
    codes "book unit " ++ decimal unit
    ++ codes " at " ++ decimal n ++ codes " second " ++ second_text second

-- the line of a unit's book where the reach is n, with so many orders
abbrev pub book_head : ℕ → ℕ → Option ℕ → ℕ → List ℕ
book_head unit n second count =
    book_place unit n second ++ codes " orders " ++ decimal count ++ 10 ∷ []

-- the line of a unit's book, and one for each order by rising id
unfoldable pub book_orders : ℕ → ℕ → Book → List ℕ
book_orders unit n book =
    book_head unit n book.second (map.len book.orders)
    ++ flat_map (λ e. order_line e.0 e.1) (map.entries book.orders)

-- the line of a trading status; each of its bytes is shown as a symbol of one byte is
unfoldable pub status_line : TradingState → List ℕ
status_line state =
    codes "status " ++ (name_shown state.symbol ++ (32 ∷ []
    ++ (name_shown (state.halt ∷ []) ++ (32 ∷ [] ++ (name_shown (state.sho ∷ []) ++ 10 ∷ [])))))

-- the line of a unit's book, the lines of its orders, and one for each trading status by rising
-- bytes of its symbol
unfoldable pub book_text : ℕ → ℕ → Book → List ℕ
book_text unit n book = book_orders unit n book ++ flat_map status_line (statuses_of book)
