-- The texts of the books of clients.
use Rattle.std.specs.Prelude.{ℕ, zero, suc, List, [], ◌++◌, Option, None, Some, slice_get}
use Rattle.std.specs.Option.{option_flatten}
use Rattle.feed_lines.specs.BookText.{book_text}
use Rattle.client_core.specs.Client.{reached, current_book}
use Rattle.client_core.specs.declared.client.UnitClient.{UnitClient}

-- the text of a unit's book, where the unit has a client
abbrev pub client_text : ℕ → Option UnitClient → List ℕ
client_text unit None = []
client_text unit (Some client) = book_text unit (reached client) (current_book client)

-- those of the units below a number, each of which has its client at its place
unfoldable pub texts_below : List (Option UnitClient) → ℕ → List ℕ
texts_below clients zero = []
texts_below clients (suc unit) =
    texts_below clients unit ++ client_text unit (option_flatten (slice_get clients unit))
