-- The book that stands at the end of a unit.
use Rattle.std.proofs.Common.{◌≡◌, ℕ, inl, inr, Bool, true, false, true≢false, ◌||◌, cond, nat_lt, List, [], ◌++◌, take, arith, Option, sym, ap, ◌∙◌}
use Rattle.std.specs.List.{list_any}
use Rattle.std.proofs.lemmas.Bool.{cases_lt, lt-ltb}
use Rattle.pitch_model.specs.Book.{Book, book_after, empty_book}
use Rattle.pitch_model.specs.History.{Raw}
use Rattle.pitch_model.specs.Reach.{reach}
use Rattle.feed_lines.specs.BookText.{book_text}
use Rattle.client_core.specs.Venues.{IsVenue}
use Rattle.client_end.specs.Came.{Came, EndSetup, end_history}
use Rattle.stream_print.specs.Page.{Prints, PrintsSuch}
use Rattle.stream_print.specs.Putting.{PutsSome}
use Rattle.stream_print.specs.Sinks.{PutsSuch}
use Rattle.stream_print.proofs.Printing.{prints_none}
use Rattle.live_units.specs.LiveText.{is_block, is_told_of}
use Rattle.live_units.specs.Standing.{IsBookText}

module _ (s : EndSetup) (before : List Came) where
  abbrev reach_then : ℕ
  reach_then = reach s.hold (end_history s before)

  -- a unit that was not told of is at the start
  at_start : is_told_of s before ≡ false → reach_then ≡ 0
  at_start none = by (list_any is_block before) reach_then none
    where
      by : (blocks : Bool) (n : ℕ) → (blocks || nat_lt 0 n) ≡ false → n ≡ 0
      by true n none = absurd (true≢false none)
      by false n none = elim (cases_lt 0 n) [
        | inl lt ↦ absurd (true≢false (sym (lt-ltb 0 n lt) ∙ none))
        | inr le ↦ omega arith
      ]

  text_if : (told : Bool) → is_told_of s before ≡ told → (book : Book) → cond (is_told_of s before) (book_text s.unit reach_then book) [] ≡ cond told (book_text s.unit reach_then book) []
  text_if told is book = ap (λ (b : Bool). cond b (book_text s.unit reach_then book) []) is

  -- and of it nothing is printed
  pub no_book : is_told_of s before ≡ false → (w : Option (List ℕ)) (t : List ℕ) → PrintsSuch (IsBookText s before) w t w t
  no_book none w t = record {
    text = [];
    printed = prints_none w t;
    such = record {
      book = empty_book;
      right = λ V venue. ap (λ (n : ℕ). book_after (take n V)) (sym (at_start none));
      text_is = sym (text_if false none empty_book);
    };
  }

  module _ (told : is_told_of s before ≡ true) (unit n : ℕ) (book : Book) (unit_is : unit ≡ s.unit) (reach_is : n ≡ reach s.hold (end_history s before))
      (book_is : (V : List Raw) → IsVenue V (end_history s before) → book ≡ book_after (take (reach s.hold (end_history s before)) V)) where
    is_text : IsBookText s before (book_text unit n book)
    is_text = record {
      book = book;
      right = book_is;
      text_is = ap (λ (u : ℕ). book_text u n book) unit_is ∙ ap (λ (m : ℕ). book_text s.unit m book) reach_is ∙ sym (text_if true told book);
    }

    pub has_book : (w : Option (List ℕ)) (t : List ℕ) (v : Option (List ℕ)) (u : List ℕ) → Prints w t v u (book_text unit n book) → PrintsSuch (IsBookText s before) w t v u
    has_book w t v u printed = record { text = book_text unit n book; printed = printed; such = is_text }

    pub book_begun : (w : Option (List ℕ)) (t : List ℕ) (v : Option (List ℕ)) → PutsSome w v (t ++ book_text unit n book) → PutsSuch (IsBookText s before) w t v
    book_begun w t v puts = record { text = book_text unit n book; puts = puts; such = is_text }
