-- Quotes along messages.
use Rattle.std.proofs.Common.{◌≡◌, ℕ, zero, suc, ◌+◌, ◌-◌, ◌≤◌, ◌<◌, List, [], ◌∷◌, ◌++◌, length, take, drop, get_or, fold, sym, ap, ◌∙◌, arith, append_assoc}
use Rattle.std.proofs.lemmas.List.{nil_from_length, length-take, length-drop, drop_more, get_or-take}
use Rattle.std.proofs.Math.Seq.{take-suc}
use Rattle.pitch_model.specs.Book.{Book, after, book_after}
use Rattle.pitch_model.specs.History.{Raw}
use Rattle.pitch_model.proofs.Folding.{book_after-append}
use Rattle.best_quotes.specs.Changes.{changes}
use Rattle.best_quotes.specs.Quoting.{numbered, quotes_at, quotes_after}
use Rattle.best_quotes.specs.LastBest.{quoted}
use Rattle.best_quotes.specs.declared.quote.Quote.{Quote}
use Rattle.best_quotes.specs.declared.quote.QuoteLine.{QuoteLine}

-- one message more was applied, and its quotes were numbered
module _ (book book' : Book) (raw : Raw) (raws raws' : List Raw) (is : raws ≡ raw ∷ raws') (then : book' ≡ after book raw) where
  pub book_along : fold after book' raws' ≡ fold after book raws
  book_along = ap (λ (b : Book). fold after b raws') then ∙ ap (fold after book) (sym is)

  pub lines_along : (lines lines' : List QuoteLine) (sequence : ℕ) (quotes : List Quote) → quotes ≡ [] ++ changes book book' → lines' ≡ lines ++ numbered sequence quotes → lines' ++ quoted (sequence + 1) book' raws' ≡ lines ++ quoted sequence book raws
  lines_along lines lines' sequence quotes told all =
      ap (λ (l : List QuoteLine). l ++ quoted (sequence + 1) book' raws') (all ∙ ap (λ (q : List Quote). lines ++ numbered sequence q) told)
      ∙ append_assoc lines (numbered sequence (changes book book')) (quoted (sequence + 1) book' raws')
      ∙ ap (λ (b : Book). lines ++ (numbered sequence (changes book b) ++ quoted (sequence + 1) b raws')) then
      ∙ ap (λ (l : List Raw). lines ++ quoted sequence book l) (sym is)

-- ---- The venue's messages
-- the quotes of the messages from the reach on, told one after another, are those of V
pub quoted_along : (V : List Raw) (n r : ℕ) → r + n ≤ length V → quoted (r + 1) (book_after (take r V)) (drop r (take (r + n) V)) ≡ quotes_after V r n
quoted_along V zero r fits = ap (quoted (r + 1) (book_after (take r V))) (nil_from_length (drop r (take (r + 0) V)) (omega (arith, length-drop r (take (r + 0) V), length-take (r + 0) V)))
quoted_along V (suc n) r fits =
    let W : List Raw = take (r + suc n) V in
    let x : Raw = get_or V r [] in
    let up : (r + 1) + n ≡ r + suc n = omega arith in
    let back : (r + 1) - 1 ≡ r = omega arith in
    let long : r < length W = omega (arith, length-take (r + suc n) V, fits) in
    let inside : r < r + suc n = omega arith in
    let first : drop r W ≡ x ∷ drop (r + 1) W = drop_more W r [] long ∙ ap (λ (y : Raw). y ∷ drop (r + 1) W) (get_or-take (r + suc n) V r [] inside) in
    let next : r + 1 ≡ suc r = omega arith in
    let there : r < length V = omega (arith, fits) in
    let fits' : (r + 1) + n ≤ length V = omega (arith, fits) in
    let then : after (book_after (take r V)) x ≡ book_after (take (r + 1) V) = sym (ap book_after (ap (λ (k : ℕ). take k V) next ∙ take-suc V r [] there) ∙ book_after-append (take r V) (x ∷ [])) in
    ap (quoted (r + 1) (book_after (take r V))) first
    ∙ ap (λ (b : Book). numbered (r + 1) (changes (book_after (take r V)) b) ++ quoted ((r + 1) + 1) b (drop (r + 1) W)) then
    ∙ ap (λ (j : ℕ). numbered (r + 1) (changes (book_after (take j V)) (book_after (take (r + 1) V))) ++ quoted ((r + 1) + 1) (book_after (take (r + 1) V)) (drop (r + 1) W)) (sym back)
    ∙ ap (λ (k : ℕ). quotes_at V (r + 1) ++ quoted ((r + 1) + 1) (book_after (take (r + 1) V)) (drop (r + 1) (take k V))) (sym up)
    ∙ ap (λ (l : List QuoteLine). quotes_at V (r + 1) ++ l) (quoted_along V n (r + 1) fits')
