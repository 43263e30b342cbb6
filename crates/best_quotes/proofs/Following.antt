-- A block that a client hears, with a ladder beside it.
use Rattle.std.proofs.Common.{◌≡◌, ℕ, ◌+◌, ◌-◌, ◌≤◌, List, ◌++◌, length, take, drop, sym, ap, ◌∙◌, arith}
use Rattle.unit_packets.specs.Blocks.{Block}
use Rattle.pitch_model.specs.Book.{Book, book_after}
use Rattle.pitch_model.specs.History.{Entry, Raw}
use Rattle.pitch_model.specs.Reach.{reach}
use Rattle.heard_items.specs.HeardBlocks.{heard_block}
use Rattle.best_quotes.specs.Quoting.{quotes_of_block}
use Rattle.best_quotes.specs.LastBest.{quoted}
use Rattle.best_quotes.specs.declared.quote.QuoteLine.{QuoteLine}
use Rattle.best_quotes.proofs.Along.{quoted_along}
use Rattle.best_quotes.proofs.Lasting.{block_rises}

-- the lines of what was applied are those of the block
pub lines_of_block : (H : ℕ) (V : List Raw) (E : List Entry) (block : Block) (book : Book) (applied : List Raw) (lines lines' : List QuoteLine) (r : ℕ) → r ≡ reach H E → book ≡ book_after (take (reach H E) V)
    → applied ≡ drop (reach H E) (take (reach H (heard_block block E)) V) → reach H (heard_block block E) ≤ length V → lines' ≡ lines ++ quoted (r + 1) book applied → lines' ≡ lines ++ quotes_of_block H V E block
lines_of_block H V E block book applied lines lines' r is_r is_book is_applied within told =
    let up = block_rises H block E in
    let n : ℕ = reach H (heard_block block E) - reach H E in
    let same : reach H E + n ≡ reach H (heard_block block E) = omega arith in
    let fits : reach H E + n ≤ length V = omega arith in
    told
    ∙ ap (λ (k : ℕ). lines ++ quoted (k + 1) book applied) is_r
    ∙ ap (λ (b : Book). lines ++ quoted (reach H E + 1) b applied) is_book
    ∙ ap (λ (raws : List Raw). lines ++ quoted (reach H E + 1) (book_after (take (reach H E) V)) raws) is_applied
    ∙ ap (λ (k : ℕ). lines ++ quoted (reach H E + 1) (book_after (take (reach H E) V)) (drop (reach H E) (take k V))) (sym same)
    ∙ ap (λ (l : List QuoteLine). lines ++ l) (quoted_along V n (reach H E) fits)
