-- The last line of a symbol and side gives its best.
use Rattle.std.proofs.Common.{◌≡◌, ℕ, zero, suc, ◌+◌, ◌-◌, ◌≤◌, Bool, true, false, cond, ◌==◌, List, [], ◌∷◌, ◌++◌, map, take, Option, None, refl, sym, ap, ◌∙◌, arith}
use Rattle.std.proofs.lemmas.Bool.{cond_both}
use Rattle.unit_packets.specs.Blocks.{Block}
use Rattle.pitch_fields.specs.declared.side.Side.{Side}
use Rattle.pitch_model.specs.Book.{book_after}
use Rattle.pitch_model.specs.History.{Entry, Raw, Next}
use Rattle.pitch_model.specs.Levels.{best}
use Rattle.pitch_model.specs.Reach.{reach, reach_of}
use Rattle.pitch_model.proofs.Rises.{reach_rises}
use Rattle.heard_items.proofs.Hearing.{messages_rise}
use Rattle.heard_items.specs.HeardBlocks.{heard_sequenced, heard_block}
use Rattle.heard_items.specs.Units.{unit_history}
use Rattle.best_quotes.specs.declared.quote.Quote.{Quote}
use Rattle.best_quotes.specs.Changes.{changes}
use Rattle.best_quotes.specs.declared.quote.QuoteLine.{QuoteLine}
use Rattle.best_quotes.specs.Quoting.{quotes_at, quotes_after, quotes_of_block}
use Rattle.best_quotes.specs.LastBest.{unit_quotes, last_or, last_best}
use Rattle.best_quotes.proofs.Telling.{told, none_in_empty, changes_tell}

-- ---- The reach along a block
sequenced_rises : (H sequence : ℕ) (raws : List Raw) (E : List Entry) → reach H E ≤ reach H (heard_sequenced sequence raws E)
sequenced_rises H sequence [] E = reach_rises H E (Next sequence)
sequenced_rises H sequence (raw ∷ raws) E = messages_rise H sequence (raw ∷ raws) E

pub block_rises : (H : ℕ) (block : Block) (E : List Entry) → reach H E ≤ reach H (heard_block block E)
block_rises H block E = cond_both (block.sequence == 0) E (heard_sequenced block.sequence block.raws E) (λ F. reach H E ≤ reach H F) (λ t. omega arith) (λ f. sequenced_rises H block.sequence block.raws E)

module _ (symbol : List ℕ) (side : Side) where
  -- ---- Along the messages
  with_number : (k : ℕ) (first : Option (ℕ × ℕ)) (quotes : List Quote) → last_or symbol side first (map (λ quote. record { sequence = k; quote = quote }) quotes) ≡ told symbol side first quotes
  with_number k first [] = refl
  with_number k first (quote ∷ quotes) = with_number k (told symbol side first (quote ∷ [])) quotes

  last_at : (V : List Raw) (r : ℕ) → last_or symbol side (best (book_after (take r V)) symbol side) (quotes_at V (r + 1)) ≡ best (book_after (take (r + 1) V)) symbol side
  last_at V r =
      let back : (r + 1) - 1 ≡ r = omega arith in
      ap (λ (j : ℕ). last_or symbol side (best (book_after (take r V)) symbol side) (map (λ quote. record { sequence = r + 1; quote = quote }) (changes (book_after (take j V)) (book_after (take (r + 1) V))))) back
      ∙ with_number (r + 1) (best (book_after (take r V)) symbol side) (changes (book_after (take r V)) (book_after (take (r + 1) V)))
      ∙ changes_tell (book_after (take r V)) (book_after (take (r + 1) V)) symbol side

  last-append : (first : Option (ℕ × ℕ)) (xs ys : List QuoteLine) → last_or symbol side first (xs ++ ys) ≡ last_or symbol side (last_or symbol side first xs) ys
  last-append first [] ys = refl
  last-append first (x ∷ xs) ys = last-append (last_or symbol side first (x ∷ [])) xs ys

  last_after : (V : List Raw) (r n : ℕ) → last_or symbol side (best (book_after (take r V)) symbol side) (quotes_after V r n) ≡ best (book_after (take (r + n) V)) symbol side
  last_after V r zero = let same : r ≡ r + 0 = omega arith in ap (λ (j : ℕ). best (book_after (take j V)) symbol side) same
  last_after V r (suc n) =
      let same : (r + 1) + n ≡ r + suc n = omega arith in
      last-append (best (book_after (take r V)) symbol side) (quotes_at V (r + 1)) (quotes_after V (r + 1) n)
      ∙ ap (λ (b : Option (ℕ × ℕ)). last_or symbol side b (quotes_after V (r + 1) n)) (last_at V r)
      ∙ last_after V (r + 1) n
      ∙ ap (λ (j : ℕ). best (book_after (take j V)) symbol side) same

  last_block : (H : ℕ) (V : List Raw) (E : List Entry) (block : Block) → last_or symbol side (best (book_after (take (reach H E) V)) symbol side) (quotes_of_block H V E block) ≡ best (book_after (take (reach H (heard_block block E)) V)) symbol side
  last_block H V E block =
      let up = block_rises H block E in
      let same : reach H E + (reach H (heard_block block E) - reach H E) ≡ reach H (heard_block block E) = omega arith in
      last_after V (reach H E) (reach H (heard_block block E) - reach H E) ∙ ap (λ (j : ℕ). best (book_after (take j V)) symbol side) same

-- ---- Along the blocks
no_lines : (H : ℕ) (V : List Raw) (symbol : List ℕ) (side : Side) → None ≡ best (book_after (take (reach H []) V)) symbol side
unfolding reach_of
no_lines H V symbol side = sym (none_in_empty symbol side)

pub last_unit : (H : ℕ) (V : List Raw) (unit : ℕ) (before : List Block) (symbol : List ℕ) (side : Side) → last_best symbol side (unit_quotes H V unit before) ≡ best (book_after (take (reach H (unit_history unit before)) V)) symbol side
last_unit H V unit [] symbol side = no_lines H V symbol side
last_unit H V unit (block ∷ before) symbol side = by (block.unit == unit) (last_unit H V unit before symbol side)
  where
    by : (t : Bool) → last_best symbol side (unit_quotes H V unit before) ≡ best (book_after (take (reach H (unit_history unit before)) V)) symbol side
        → last_best symbol side (cond t (unit_quotes H V unit before ++ quotes_of_block H V (unit_history unit before) block) (unit_quotes H V unit before))
        ≡ best (book_after (take (reach H (cond t (heard_block block (unit_history unit before)) (unit_history unit before))) V)) symbol side
    by true rec =
        last-append symbol side None (unit_quotes H V unit before) (quotes_of_block H V (unit_history unit before) block)
        ∙ ap (λ (b : Option (ℕ × ℕ)). last_or symbol side b (quotes_of_block H V (unit_history unit before) block)) rec
        ∙ last_block symbol side H V (unit_history unit before) block
    by false rec = rec
