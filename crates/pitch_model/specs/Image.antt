-- The image of a book: messages that make it anew from the empty book ("Spin Server").
use Rattle.std.specs.Prelude.{◌≡◌, ℕ, true, ◌||◌, ◌==◌, List, [], ◌∷◌, ◌++◌, Option, None, Some}
use Rattle.std.specs.Prelude.{map, take}
use Rattle.pitch_messages.specs.Raw.{kind_of}
use Rattle.pitch_messages.specs.declared.message.Message.{Message}
use Rattle.pitch_messages.specs.declared.message.Message.TheVariants.{Time}
use Rattle.pitch_messages.specs.Forms.{add_message, status_message}
use Rattle.pitch_messages.specs.Writing.{written}
use Rattle.pitch_model.specs.Book.{Book, book_after}
use Rattle.pitch_model.specs.History.{is_add}
use Rattle.pitch_model.specs.Levels.{orders_of}
use Rattle.pitch_model.specs.Statuses.{statuses_of}

-- a Time message, where a second is known
abbrev pub clock_of : Option ℕ → List Message
clock_of None = []
clock_of (Some second) = Time second ∷ []

-- the clock, then the add of each open order by rising id, and then each trading status by rising
-- bytes of its symbol, all with offset 0
abbrev pub image_messages : Book → List Message
image_messages book = clock_of book.second ++ (map (λ order. add_message order 0) (orders_of book)
    ++ map (λ state. status_message state 0) (statuses_of book))

-- the image of a book: the bytes of these messages
unfoldable pub image_of : Book → List (List ℕ)
image_of book = map written (image_messages book)

-- a message of a type that an image has: a Time message, a Trading Status or an add
abbrev pub IsOfImage : List ℕ → Type 0
IsOfImage raw = (kind_of raw == 0x20 || (kind_of raw == 0x31 || is_add raw)) ≡ true

-- the image through a sequence: that of the book which the messages up to it leave
unfoldable pub image : List (List ℕ) → ℕ → List (List ℕ)
image V sequence = image_of (book_after (take sequence V))
