-- What a relay sends of any input, honest or not, and what whoever follows it has.
use Rattle.std.specs.Prelude.{◌≡◌, ◌≢◌, ℕ, ◌+◌, ◌<◌, ◌⊎◌, List, [], ◌∷◌, ◌++◌, Some, fold}
use Rattle.std.specs.Prelude.{length}
use Rattle.std.specs.FinMap as finite
use Rattle.pitch_fields.specs.Limits.{last_sequence}
use Rattle.pitch_messages.specs.declared.message.Message.TheVariants.{UnitClear}
use Rattle.pitch_messages.specs.Writing.{written}
use Rattle.unit_packets.specs.Blocks.{Block}
use Rattle.unit_packets.specs.Packing.{packed}
use Rattle.pitch_model.specs.Book.{Book, empty_book, after, book_after}
use Rattle.pitch_model.specs.History.{Raw}
use Rattle.pitch_model.specs.Image.{image_of}
use Rattle.relay_unit.specs.Stands.{followed_book, relay_unit_of}
use Rattle.relay_unit.specs.declared.relay.Relay.{Relay}
use Rattle.relay_unit.specs.declared.relay.RelayError.{RelayError}
use Rattle.relay_unit.specs.declared.relay.RelayError.TheVariants.{SequencesSpent, OutOfMemory}

-- Unit Clear and the image of a book, which leaves that book
pub record AreImage (raws : List Raw) (book : Book) : Type 0 where
  pub raws_are : raws ≡ written (UnitClear 0) ∷ image_of book
  pub leaves : book_after (image_of book) ≡ book

-- these messages are sent as the followed book becomes another: they were applied to it; or, where
-- an image took its place, they are the image of the book as it is then
abbrev pub IsStep : Book → List Raw → Book → Type 0
IsStep book raws book' = (book' ≡ fold after book raws) ⊎ AreImage raws book'

-- the messages of each step, and the book behind it
abbrev pub AreSteps : Book → List (List Raw × Book) → Book → Type 0
AreSteps book [] book' = book' ≡ book
AreSteps book (step ∷ steps) book' = IsStep book step.0 step.1 × AreSteps step.1 steps book'

-- the messages of all steps
abbrev pub sent_in : List (List Raw × Book) → List Raw
sent_in [] = []
sent_in (step ∷ steps) = step.0 ++ sent_in steps

-- a relay sends these messages as the book that it follows becomes another, in some steps
pub record Sends (book : Book) (raws : List Raw) (book' : Book) : Type 0 where
  pub steps : List (List Raw × Book)
  pub are : AreSteps book steps book'
  pub joined : raws ≡ sent_in steps

-- the orders of a book are those of another, and it has the other's clock and each of its trading
-- statuses; it may have more of these, since no message takes back a clock or a status that an
-- image leaves out
pub record Shows (book other : Book) : Type 0 where
  pub orders_are : book.orders ≡ other.orders
  pub clock : (second : ℕ) → other.second ≡ Some second → book.second ≡ Some second
  pub statuses : (symbol : List ℕ) (status : ℕ × ℕ)
      → finite.get other.statuses symbol ≡ Some status
      → finite.get book.statuses symbol ≡ Some status

-- a book has a clock where another has one, and a trading status of each symbol of which the other
-- has one
pub record KnowsAllOf (book other : Book) : Type 0 where
  pub clock : (second : ℕ) → other.second ≡ Some second → (known : ℕ) × (book.second ≡ Some known)
  pub statuses : (symbol : List ℕ) (status : ℕ × ℕ)
      → finite.get other.statuses symbol ≡ Some status
      → (known : ℕ × ℕ) × (finite.get book.statuses symbol ≡ Some known)

-- no image of these steps leaves out a clock or a status that was known before it
abbrev pub LeaveNothingOut : Book → List (List Raw × Book) → Type 0
LeaveNothingOut book [] = Unit {0}
LeaveNothingOut book (step ∷ steps) =
    (AreImage step.0 step.1 → KnowsAllOf step.1 book) × LeaveNothingOut step.1 steps

-- these are all the messages that the relay has sent, from an empty book on, whose sequences run
-- from 1 without a break
pub record HasSent (relay : Relay) (raws : List Raw) : Type 0 where
  pub count_is : relay.sent ≡ length raws
  pub sends : Sends empty_book raws (followed_book relay)

-- behind what it had sent, a relay sends messages for a block, under the next sequences; those of a
-- block with a sequence are applied and nothing else
pub record SendsMore (relay relay' : Relay) (block : Block) (sent : List Raw)
    (datagrams : List (List ℕ)) : Type 0 where
  pub more : List Raw
  pub datagrams_are : datagrams ≡ packed (relay_unit_of relay) (length sent + 1) more
  pub sends : Sends (followed_book relay) more (followed_book relay')
  pub line : block.sequence ≢ 0 → followed_book relay' ≡ fold after (followed_book relay) more
  pub sent_is : HasSent relay' (sent ++ more)

-- behind what it had sent, a relay has no sequences for the messages of a block, by which its book
-- becomes another; those of a block with a sequence are applied and nothing else
pub record LacksSequences (relay relay' : Relay) (block : Block) (before : List Raw)
    (sent more : ℕ) : Type 0 where
  pub messages : List Raw
  pub sent_is : sent ≡ length before
  pub more_is : more ≡ length messages
  pub past : last_sequence < sent + more
  pub sends : Sends (followed_book relay) messages (followed_book relay')
  pub line : block.sequence ≢ 0
      → followed_book relay' ≡ fold after (followed_book relay) messages

-- the error counts both
abbrev pub CountsBoth : Relay → Relay → Block → List Raw → RelayError → Type 0
CountsBoth r r' block before (SequencesSpent sent more) =
    LacksSequences r r' block before sent more
CountsBoth r r' block before OutOfMemory = Unit {0}
