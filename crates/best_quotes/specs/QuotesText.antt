-- What `quotes` writes for the blocks of a stream.
use Rattle.std.specs.Prelude.{ℕ, List, [], ◌∷◌, ◌++◌, codes, decimal, Option, None, Some}
use Rattle.std.specs.List.{flat_map}
use Rattle.pitch_fields.specs.Side.{byte_of}
use Rattle.pitch_fields.specs.Price.{price_digits}
use Rattle.pitch_fields.specs.Name.{name_shown}
use Rattle.unit_packets.specs.Blocks.{Block}
use Rattle.pitch_model.specs.History.{Raw}
use Rattle.heard_items.specs.Units.{unit_history}
use Rattle.feed_lines.specs.Texts.{texts_after}
use Rattle.best_quotes.specs.declared.quote.Quote.{Quote}
use Rattle.best_quotes.specs.declared.quote.QuoteLine.{QuoteLine}
use Rattle.best_quotes.specs.Quoting.{quotes_of_block}

-- a price and its shares, or a dash for each
abbrev pub best_text : Option (ℕ × ℕ) → List ℕ
best_text None = codes "- -"
best_text (Some best) = price_digits best.0 ++ (32 ∷ decimal best.1)

-- how a line begins: the unit, and the sequence of the message
abbrev pub quote_head : ℕ → ℕ → List ℕ
quote_head unit sequence =
    codes "quote unit " ++ (decimal unit ++ (codes " at " ++ (decimal sequence ++ 32 ∷ [])))

-- and how it ends: what the quote says
abbrev pub quote_tail : Quote → List ℕ
quote_tail quote =
    name_shown quote.symbol ++ (32 ∷ byte_of quote.side ∷ 32 ∷ (best_text quote.best ++ 10 ∷ []))

-- the line of a change
unfoldable pub quote_line : ℕ → QuoteLine → List ℕ
quote_line unit line = quote_head unit line.sequence ++ quote_tail line.quote

-- the lines of a block that comes after others, where V are the messages of its unit's venue
abbrev pub quoted_after : ℕ → List Raw → List Block → Block → List ℕ
quoted_after H V before block =
    flat_map (quote_line block.unit)
    (quotes_of_block H V (unit_history block.unit before) block)

-- the whole text for some blocks, the oldest first
abbrev pub quotes_text : ℕ → (ℕ → List Raw) → List Block → List ℕ
quotes_text H Vs blocks =
    texts_after (λ before block. quoted_after H (Vs block.unit) before block) [] blocks
