-- The changes of the best levels along the messages of a unit.
use Rattle.std.specs.Prelude.{ℕ, zero, suc, ◌+◌, ◌-◌, List, [], ◌++◌, map, take}
use Rattle.unit_packets.specs.Blocks.{Block}
use Rattle.pitch_model.specs.Book.{book_after}
use Rattle.pitch_model.specs.History.{Entry, Raw}
use Rattle.pitch_model.specs.Reach.{reach}
use Rattle.heard_items.specs.HeardBlocks.{heard_block}
use Rattle.best_quotes.specs.declared.quote.Quote.{Quote}
use Rattle.best_quotes.specs.declared.quote.QuoteLine.{QuoteLine}
use Rattle.best_quotes.specs.Changes.{changes}

-- quotes with the sequence of the message that makes them
abbrev pub numbered : ℕ → List Quote → List QuoteLine
numbered k quotes = map (λ quote. record { sequence = k; quote = quote }) quotes

-- the changes that message k of V makes
abbrev pub quotes_at : List Raw → ℕ → List QuoteLine
quotes_at V k = numbered k (changes (book_after (take (k - 1) V)) (book_after (take k V)))

-- those of the n messages after the first r
abbrev pub quotes_after : List Raw → ℕ → ℕ → List QuoteLine
quotes_after V r zero = []
quotes_after V r (suc n) = quotes_at V (r + 1) ++ quotes_after V (r + 1) n

-- those of the messages with which a block takes the reach on
abbrev pub quotes_of_block : ℕ → List Raw → List Entry → Block → List QuoteLine
quotes_of_block H V E block = quotes_after V (reach H E) (reach H (heard_block block E) - reach H E)
