-- What a client that C holds stands for, and what C is told of it. Blocks stand newest first.
use Rattle.std.specs.Prelude.{◌≡◌, ◌≤◌, ℕ, List, [], ◌∷◌, length, map as mapped, take}
use Rattle.std.specs.Option.{IsSome, IsSomeAnd}
use Rattle.std.specs.FinMap as map
use Rattle.pitch_fields.specs.Side.{side_of}
use Rattle.pitch_model.specs.History.{Raw}
use Rattle.pitch_model.specs.Honest.{Honest}
use Rattle.pitch_model.specs.Book.{Book, book_after}
use Rattle.pitch_model.specs.Levels.{best, with_level}
use Rattle.pitch_model.specs.Reach.{reach}
use Rattle.pitch_model.specs.Status.{status_of}
use Rattle.unit_packets.specs.Blocks.{Block}
use Rattle.unit_packets.specs.Held.{StandsFirst}
use Rattle.unit_packets.specs.Lending.{header_for}
use Rattle.heard_items.specs.Units.{unit_history}
use Rattle.heard_items.specs.Changes.{block_change}
use Rattle.unit_clients.specs.Clients.{Units, HaveHeard}
use Rattle.unit_clients.specs.Room.{KeepRoom}
use Rattle.leveled_units.specs.Hearing.{Advances, KeepSpare, OthersStay}
use Rattle.best_quotes.specs.Quoting.{quotes_of_block}
use Rattle.pitch_c.specs.Arrays.{Fills}
use Rattle.pitch_c.specs.Lists.{ListsOrders, ListsStates, ListsLevels}
use Rattle.pitch_c.specs.Reports.{status_shown, best_shown, heard_shown, order_shown}
use Rattle.pitch_c.specs.Reports.{level_shown, quote_shown}
use Rattle.pitch_c.specs.declared.reports.StatusOut.{StatusOut}
use Rattle.pitch_c.specs.declared.reports.BestOut.{BestOut}
use Rattle.pitch_c.specs.declared.reports.HeardOut.{HeardOut}
use Rattle.pitch_c.specs.declared.reports.OrderOut.{OrderOut}
use Rattle.pitch_c.specs.declared.reports.StateOut.{StateOut}
use Rattle.pitch_c.specs.declared.reports.LevelOut.{LevelOut}
use Rattle.pitch_c.specs.declared.reports.QuoteOut.{QuoteOut}

-- they were opened so: each holds at most so many messages, and they have heard nothing
pub record AreOpened (hold : ℕ) (units : Units) : Type 0 where
  pub limit : units.limit ≡ hold
  pub heard : HaveHeard units []

-- they stand for whatever blocks they stood for, and hold as many messages as before; memory that
-- was taken ahead serves as many messages as before
pub record StillHave (old new : Units) : Type 0 where
  pub limit : new.limit ≡ old.limit
  pub heard : (before : List Block) → HaveHeard old before → HaveHeard new before
  pub spare : KeepSpare old new

-- a block was heard: whatever blocks came before, the clients then stand for these with it after
-- them, and hold as many messages as before; memory that was taken ahead for it and for more
-- messages of its unit still serves those; the clients of other units stay, with all memory that
-- was taken for them; and this is told of it
pub record Hears (old new : Units) (block : Block) (told : HeardOut) : Type 0 where
  pub limit : new.limit ≡ old.limit
  pub heard : (before : List Block) → HaveHeard old before → HaveHeard new (block ∷ before)
  pub told_is : (before : List Block) → HaveHeard old before
      → told ≡ heard_shown (header_for block)
      (block_change old.limit (unit_history block.unit before) block)
  pub room : KeepRoom old new block
  pub others : OthersStay old new block.unit

-- so it was of the block that stands first in the bytes
abbrev pub HearFirst : List ℕ → Units → Units → HeardOut → Type 0
HearFirst bytes old new told = (block : Block) × StandsFirst bytes block × Hears old new block told

-- of whatever blocks they had heard, and of any venue of whose messages alone those of the next
-- one's unit and it speak, the array has what each message with which that took the reach on
-- changed of the best prices, as many changes as fit
abbrev pub TellQuotes : Units → Block → List QuoteOut → List QuoteOut → ℕ → Type 0
TellQuotes units block old new number =
    (before : List Block) (Image : List Raw → ℕ → List Raw) (V : List Raw)
    → HaveHeard units before → Honest Image V (unit_history block.unit (block ∷ before))
    → Fills (mapped quote_shown
    (quotes_of_block units.limit V (unit_history block.unit before) block))
    old new number

-- a block was heard, and its quotes were told
pub record HearsQuoted (old new : Units) (block : Block) (told : HeardOut)
    (quotes quotes' : List QuoteOut) (number : ℕ) : Type 0 where
  pub hears : Hears old new block told
  pub quotes_told : TellQuotes old block quotes quotes' number

-- a block was heard that took the reach on, and its quotes were not told
pub record HearsUntold (old new : Units) (block : Block) (told : HeardOut) : Type 0 where
  pub hears : Hears old new block told
  pub advances : (before : List Block) → HaveHeard old before
      → Advances old.limit (unit_history block.unit before) block

-- so it was of the block that stands first in the bytes
abbrev pub HearQuoted : List ℕ → Units → Units → HeardOut
    → List QuoteOut → List QuoteOut → ℕ → Type 0
HearQuoted bytes old new told quotes quotes' number =
    (block : Block) × StandsFirst bytes block × HearsQuoted old new block told quotes quotes' number

abbrev pub HearUntold : List ℕ → Units → Units → HeardOut → Type 0
HearUntold bytes old new told =
    (block : Block) × StandsFirst bytes block × HearsUntold old new block told

-- of whatever blocks they have heard, the status is that of the unit's blocks
abbrev pub TellStatus : Units → ℕ → StatusOut → Type 0
TellStatus units unit told =
    (before : List Block) → HaveHeard units before
    → told ≡ status_shown (status_of units.limit (unit_history unit before))

-- the book of the first n of a venue's messages, n the unit's reach
abbrev pub reached_book : Units → ℕ → List Block → List Raw → Book
reached_book units unit before V =
    book_after (take (reach units.limit (unit_history unit before)) V)

-- of whatever blocks they have heard, and of any venue of whose messages alone those of the unit
-- speak, the answer is read off the book of the first n; what other units' blocks say is nothing to
-- it
abbrev pub OfReachedBook : Units → ℕ → (Book → Type 0) → Type 0
OfReachedBook units unit P =
    (before : List Block) (Image : List Raw → ℕ → List Raw) (V : List Raw)
    → HaveHeard units before → Honest Image V (unit_history unit before)
    → P (reached_book units unit before V)

abbrev pub TellBest : Units → ℕ → List ℕ → ℕ → BestOut → Type 0
TellBest units unit symbol side told =
    IsSomeAnd (side_of side)
    (λ s. OfReachedBook units unit (λ book. told ≡ best_shown (best book symbol s)))

abbrev pub TellOrder : Units → ℕ → ℕ → OrderOut → Type 0
TellOrder units unit id told =
    OfReachedBook units unit (λ book. told ≡ order_shown (map.get book.orders id))

-- the shares at a price, with it
abbrev pub TellLevel : Units → ℕ → List ℕ → ℕ → ℕ → LevelOut → Type 0
TellLevel units unit symbol side price told =
    IsSomeAnd (side_of side)
    (λ s. OfReachedBook units unit (λ book. told ≡ level_shown (with_level book symbol s price)))

-- ---- Where a list may want memory
-- that book has an open order, and the array a place
abbrev pub HasOrders : Units → ℕ → List OrderOut → Type 0
HasOrders units unit array =
    (1 ≤ length array) × OfReachedBook units unit (λ book. 1 ≤ map.len book.orders)

-- that book has an open order of a symbol on a side
abbrev pub HasSide : Units → ℕ → List ℕ → ℕ → Type 0
HasSide units unit symbol side =
    IsSomeAnd (side_of side) (λ s. OfReachedBook units unit (λ book. IsSome (best book symbol s)))

-- ---- Lists: the array before and after, and how many items there are
-- all open orders, by rising id
abbrev pub TellOrders : Units → ℕ → List OrderOut → List OrderOut → ℕ → Type 0
TellOrders units unit old new number =
    OfReachedBook units unit (λ book. ListsOrders book old new number)

-- all trading statuses, by rising bytes of their symbols
abbrev pub TellStates : Units → ℕ → List StateOut → List StateOut → ℕ → Type 0
TellStates units unit old new number =
    OfReachedBook units unit (λ book. ListsStates book old new number)

-- all levels of a symbol on a side, the best first
abbrev pub TellLevels : Units → ℕ → List ℕ → ℕ → List LevelOut → List LevelOut → ℕ → Type 0
TellLevels units unit symbol side old new number =
    IsSomeAnd (side_of side)
    (λ s. OfReachedBook units unit (λ book. ListsLevels book symbol s old new number))
