-- What messages did to the orders of a book, done to its levels one after another.
use Rattle.std.proofs.Common.{◌≡◌, ℕ, ◌+◌, ◌<◌, List, [], ◌∷◌, ◌++◌, length, drop, fold, Some, slice_get, refl, sym, ap, ◌∙◌, subst}
use Rattle.std.proofs.lemmas.List.{append-nil, drop_more}
use Rattle.std.proofs.lemmas.Option.{get_or_from_slice_get}
use Rattle.order_book.specs.Turns.{turn_of, turns_of}
use Rattle.order_book.specs.declared.turn.Turn.{Turn}
use Rattle.pitch_model.specs.Book.{Book, IsBook, after}
use Rattle.pitch_model.specs.History.{Raw}
use Rattle.pitch_model.specs.Levels.{level}
use Rattle.pitch_model.proofs.Books.{after_book}
use Rattle.best_quotes.specs.Changes.{changes}
use Rattle.best_quotes.specs.Leveling.{Entries, Has}
use Rattle.best_quotes.specs.Quoting.{numbered}
use Rattle.best_quotes.specs.LastBest.{quoted}
use Rattle.best_quotes.specs.layers.Turning.{TurnsLevels, IsTurned}
use Rattle.best_quotes.specs.declared.quote.Quote.{Quote}
use Rattle.best_quotes.specs.declared.quote.QuoteLine.{QuoteLine}
use Rattle.best_quotes.proofs.Along.{lines_along}

-- some messages of which the turns are left, and the book before them: its levels are there, and
-- with the lines of these messages all lines are
pub record IsLeft (first : ℕ) (book : Book) (raws : List Raw) (lines : List QuoteLine) (next : ℕ) (turns : List Turn) (levels' : Entries) (lines' : List QuoteLine) : Type 0 where
  pub now : Book
  pub rest : List Raw
  pub is_book : IsBook now
  pub turns_are : turns ≡ turns_of now rest
  pub has : Has levels' (level now)
  pub book_is : fold after now rest ≡ fold after book raws
  pub lines_are : lines' ++ quoted next now rest ≡ lines ++ quoted first book raws

pub left_all : (first : ℕ) (book : Book) (raws : List Raw) (turns : List Turn) (levels : Entries) (lines : List QuoteLine) → IsBook book → turns ≡ turns_of book raws → Has levels (level book) → IsLeft first book raws lines first turns levels lines
left_all first book raws turns levels lines is are has = record { now = book; rest = raws; is_book = is; turns_are = are; has = has; book_is = refl; lines_are = refl }

-- one turn more was done
pub left_more : (first : ℕ) (book : Book) (raws : List Raw) (lines lines' lines'' : List QuoteLine) (next : ℕ) (turn : Turn) (turns turns' : List Turn) (levels levels' : Entries) (told quotes : List Quote)
    → turns ≡ turn ∷ turns' → told ≡ [] → TurnsLevels turn levels levels' told quotes → lines'' ≡ lines' ++ numbered next quotes
    → IsLeft first book raws lines next turns levels lines' → IsLeft first book raws lines (next + 1) turns' levels' lines''
left_more first book raws lines lines' lines'' next turn turns turns' levels levels' told quotes split none turned numbers L = by L.rest L.turns_are L.book_is L.lines_are
  where
    by : (rest : List Raw) → turns ≡ turns_of L.now rest → fold after L.now rest ≡ fold after book raws → lines' ++ quoted next L.now rest ≡ lines ++ quoted first book raws
        → IsLeft first book raws lines (next + 1) turns' levels' lines''
    by [] are then tells = absurd (let e : turn ∷ turns' ≡ [] = sym split ∙ are in cc)
    by (raw ∷ rest) are then tells =
        let both : turn ∷ turns' ≡ turn_of L.now raw ∷ turns_of (after L.now raw) rest = sym split ∙ are in
        let this : turn ≡ turn_of L.now raw = cc in
        let others : turns' ≡ turns_of (after L.now raw) rest = cc in
        let is' = after_book L.now raw L.is_book in
        let T = turned L.now raw this L.is_book is' L.has in
        record {
          now = after L.now raw;
          rest = rest;
          is_book = is';
          turns_are = others;
          has = T.has;
          book_is = then;
          lines_are = lines_along L.now (after L.now raw) raw (raw ∷ rest) rest refl refl lines' lines'' next quotes
              (T.tells ∙ ap (λ (l : List Quote). l ++ changes L.now (after L.now raw)) none) numbers ∙ tells;
        }

-- none are left
pub left_none : (first : ℕ) (book : Book) (raws : List Raw) (lines lines' : List QuoteLine) (next : ℕ) (turns : List Turn) (levels' : Entries) → turns ≡ [] → IsLeft first book raws lines next turns levels' lines' → IsTurned first book raws levels' lines lines'
left_none first book raws lines lines' next turns levels' none L = by L.rest L.turns_are L.book_is L.lines_are
  where
    by : (rest : List Raw) → turns ≡ turns_of L.now rest → fold after L.now rest ≡ fold after book raws → lines' ++ quoted next L.now rest ≡ lines ++ quoted first book raws → IsTurned first book raws levels' lines lines'
    by [] are then tells = record { has = subst (λ (b : Book). Has levels' (level b)) then L.has; tells = sym (append-nil lines') ∙ tells }
    by (raw ∷ rest) are then tells = absurd (let e : [] ≡ turn_of L.now raw ∷ turns_of (after L.now raw) rest = sym none ∙ are in cc)

pub next_turn : (all : List Turn) (i : ℕ) (turn : Turn) → i < length all → slice_get all i ≡ Some turn → drop i all ≡ turn ∷ drop (i + 1) all
next_turn all i turn within at = drop_more all i turn within ∙ ap (λ (x : Turn). x ∷ drop (i + 1) all) (get_or_from_slice_get all i turn turn at)
