-- The books of all units, one after another.
use Rattle.std.proofs.Common.{◌≡◌, ◌≢◌, ℕ, zero, suc, ◌+◌, ◌<◌, inl, inr, eqb, Bool, true, false, true≢false, ◌&&◌, cond, List, [], ◌∷◌, ◌++◌, refl, sym, ap, ◌∙◌, subst, arith, Option, Some, None, Result, Ok, Err, OnOk, OnErr}
use Rattle.std.specs.List.{flat_map}
use Rattle.std.proofs.lemmas.Grind.{flat_map-append}
use Rattle.std.proofs.lemmas.Bool.{cases_eq, cond-true, cond-false, eq-eqb, ne_eqb}
use Rattle.std.proofs.lemmas.List.{append-nil}
use Rattle.pitch_model.specs.Book.{Book, empty_book}
use Rattle.pitch_model.specs.History.{Raw}
use Rattle.pitch_model.specs.Reach.{reach}
use Rattle.feed_lines.specs.BookText.{book_text}
use Rattle.stream_print.specs.Page.{PrintsSuch}
use Rattle.stream_print.specs.Rising.{named_below}
use Rattle.stream_print.specs.Sinks.{PutsSuch}
use Rattle.stream_print.proofs.Naming.{below_none, below_more}
use Rattle.stream_print.proofs.Printing.{prints_none, prints_more, puts_then}
use Rattle.live_units.specs.Coming.{LiveSetup, UnitCame, AreBooksBelow, AreHonest, IsBookAt, IsLiveText, book_at, came_to, end_setup, has_book, has_unit, history_at, live_books, live_lines, text_at_reach}
use Rattle.live_units.specs.LiveText.{is_told_of}
use Rattle.live_units.specs.Places.{IsTextAt, IsUnitAt}
use Rattle.live_units.specs.Standing.{IsBookText, OfUnit}
use Rattle.live_units.specs.Units.{AreFirstBooks}
use Rattle.live_units.specs.declared.unit.LiveUnit.{LiveUnit}

-- ---- One unit
module _ (s : LiveSetup) (came : List UnitCame) (unit : ℕ) where
  -- its text with a book, given whether it is listened to
  text_if : (ours : Bool) → has_unit s unit ≡ ours → (book : Book) → cond (has_book s came unit) (book_text unit (reach s.hold (history_at s unit came)) book) []
      ≡ cond (ours && is_told_of (end_setup s unit) (came_to unit came)) (book_text unit (reach s.hold (history_at s unit came)) book) []
  text_if ours is book = ap (λ (b : Bool). cond (b && is_told_of (end_setup s unit) (came_to unit came)) (book_text unit (reach s.hold (history_at s unit came)) book) []) is

  text_at : has_unit s unit ≡ true → (text : List ℕ) → IsBookText (end_setup s unit) (came_to unit came) text → IsTextAt s came unit text
  text_at ours text is = record {
    book = is.book;
    right = λ has V honest. is.right V honest;
    text_is = is.text_is ∙ sym (text_if true ours is.book);
  }

  no_text_at : has_unit s unit ≡ false → IsTextAt s came unit []
  no_text_at none = record {
    book = empty_book;
    right = λ has. absurd (true≢false (sym has ∙ ap (λ (b : Bool). b && is_told_of (end_setup s unit) (came_to unit came)) none));
    text_is = sym (text_if false none empty_book);
  }

module _ (place : Option LiveUnit) (w v : Option (List ℕ)) (page page' : List ℕ) where
  pub no_unit_printed : place ≡ None → (s : LiveSetup) (came : List UnitCame) (unit : ℕ) → IsUnitAt s came unit place → PrintsSuch (IsTextAt s came unit) w page w page
  no_unit_printed is s came unit at = record { text = []; printed = prints_none w page; such = no_text_at s came unit (subst (IsUnitAt s came unit) is at) }

  module _ {E : Type 0} (e : LiveUnit) (is : place ≡ Some e) where
    pub unit_printed : (result : Result (Unit {0}) E) → OnOk result (OfUnit e (λ s before. PrintsSuch (IsBookText s before) w page v page'))
        → OnOk result ((s : LiveSetup) (came : List UnitCame) (unit : ℕ) → IsUnitAt s came unit place → PrintsSuch (IsTextAt s came unit) w page v page')
    unit_printed (Err error) printed = tt
    unit_printed (Ok done) printed = λ s came unit at.
        let here = subst (IsUnitAt s came unit) is at in
        let so = printed (end_setup s unit) (came_to unit came) here.1 in
        record { text = so.text; printed = so.printed; such = text_at s came unit here.0 so.text so.such }

    pub unit_begun : (result : Result (Unit {0}) E) → OnErr result (OfUnit e (λ s before. PutsSuch (IsBookText s before) w page v))
        → OnErr result ((s : LiveSetup) (came : List UnitCame) (unit : ℕ) → IsUnitAt s came unit place → PutsSuch (IsTextAt s came unit) w page v)
    unit_begun (Ok done) begun = tt
    unit_begun (Err error) begun = λ s came unit at.
        let here = subst (IsUnitAt s came unit) is at in
        let so = begun (end_setup s unit) (came_to unit came) here.1 in
        record { text = so.text; puts = so.puts; such = text_at s came unit here.0 so.text so.such }

-- ---- All units
-- a book is put in the place of a unit's
abbrev put_book : (ℕ → Book) → ℕ → Book → ℕ → Book
put_book books n book unit = cond (eqb unit n) book (books unit)

put_there : (books : ℕ → Book) (n : ℕ) (book : Book) (unit : ℕ) → unit ≡ n → put_book books n book unit ≡ book
put_there books n book unit same = cond-true (eqb unit n) book (books unit) (eq-eqb unit n same)

put_apart : (books : ℕ → Book) (n : ℕ) (book : Book) (unit : ℕ) → unit ≢ n → put_book books n book unit ≡ books unit
put_apart books n book unit apart = cond-false (eqb unit n) book (books unit) (ne_eqb unit n apart)

module _ (s : LiveSetup) (came : List UnitCame) where
  abbrev texts : (ℕ → List ℕ) → ℕ → List ℕ
  texts f n = flat_map f (named_below (has_book s came) n)

  -- the text of one unit more
  one_more : (f : ℕ → List ℕ) (n : ℕ) → texts f (n + 1) ≡ texts f n ++ cond (has_book s came n) (f n) []
  one_more f n =
      ap (flat_map f) (below_more (has_book s came) n)
      ∙ flat_map-append f (named_below (has_book s came) n) (cond (has_book s came n) (n ∷ []) [])
      ∙ ap (λ (t : List ℕ). texts f n ++ t) (last (has_book s came n))
    where
      last : (b : Bool) → flat_map f (cond b (n ∷ []) []) ≡ cond b (f n) []
      last true = append-nil (f n)
      last false = refl

  -- what is the same of each that has a book is the same of all
  alike : (f g : ℕ → List ℕ) (n : ℕ) → ((unit : ℕ) → unit < n → has_book s came unit ≡ true → f unit ≡ g unit) → texts f n ≡ texts g n
  alike f g zero same = ap (flat_map f) (below_none (has_book s came)) ∙ sym (ap (flat_map g) (below_none (has_book s came)))
  alike f g (suc n) same =
      ap (texts f) (sym (next n)) ∙ one_more f n
      ∙ ap (λ (t : List ℕ). t ++ cond (has_book s came n) (f n) []) (alike f g n (λ unit lt. same unit (omega arith)))
      ∙ ap (λ (t : List ℕ). texts g n ++ t) (last (has_book s came n) refl)
      ∙ sym (one_more g n) ∙ ap (texts g) (next n)
    where
      next : (n : ℕ) → n + 1 ≡ suc n
      next n = omega arith

      last : (b : Bool) → has_book s came n ≡ b → cond b (f n) [] ≡ cond b (g n) []
      last true has = same n (omega arith) has
      last false none = refl

  pub no_books : AreBooksBelow 0 s came []
  no_books = record {
    books = λ unit. empty_book;
    right = λ unit lt. absurd (omega arith);
    text_is = sym (ap (flat_map (text_at_reach s came (λ unit. empty_book))) (below_none (has_book s came)));
  }

  pub books_start : (w : Option (List ℕ)) (t : List ℕ) → PrintsSuch (AreBooksBelow 0 s came) w t w t
  books_start w t = record { text = []; printed = prints_none w t; such = no_books }

  with_next : (n : ℕ) (first text : List ℕ) → AreBooksBelow n s came first → IsTextAt s came n text → AreBooksBelow (n + 1) s came (first ++ text)
  with_next n first text so_far is =
      let old : ℕ → List ℕ = text_at_reach s came so_far.books in
      let books : ℕ → Book = put_book so_far.books n is.book in
      let new : ℕ → List ℕ = text_at_reach s came books in
      record {
        books = put_book so_far.books n is.book;
        right = λ unit lt has. elim (cases_eq unit n) [
          | inl same ↦ subst (IsBookAt s came unit) (sym (put_there so_far.books n is.book unit same))
              (subst (λ (u : ℕ). IsBookAt s came u is.book) (sym same) (is.right (subst (λ (u : ℕ). has_book s came u ≡ true) same has)))
          | inr apart ↦ subst (IsBookAt s came unit) (sym (put_apart so_far.books n is.book unit apart)) (so_far.right unit (omega arith) has)
        ];
        text_is = ap (λ (t : List ℕ). t ++ text) so_far.text_is ∙ ap (λ (t : List ℕ). texts old n ++ t) is.text_is
            ∙ ap (λ (t : List ℕ). t ++ cond (has_book s came n) (book_text n (reach s.hold (history_at s n came)) is.book) [])
            (alike old new n (λ unit lt has. ap (book_text unit (reach s.hold (history_at s unit came))) (sym (put_apart so_far.books n is.book unit (λ e. omega arith)))))
            ∙ ap (λ (b : Book). texts new n ++ cond (has_book s came n) (book_text n (reach s.hold (history_at s n came)) b) []) (sym (put_there so_far.books n is.book n refl))
            ∙ sym (one_more new n);
      }

  module _ (n : ℕ) (a b c : Option (List ℕ)) (t u : List ℕ) (so_far : PrintsSuch (AreBooksBelow n s came) a t b u) where
    pub books_more : (v : List ℕ) → PrintsSuch (IsTextAt s came n) b u c v → PrintsSuch (AreBooksBelow (n + 1) s came) a t c v
    books_more v more = record {
      text = so_far.text ++ more.text;
      printed = prints_more a b c t u v so_far.text more.text so_far.printed more.printed;
      such = with_next n so_far.text more.text so_far.such more.such;
    }

    pub books_fail : n < 256 → PutsSuch (IsTextAt s came n) b u c → PutsSuch (AreFirstBooks s came) a t c
    books_fail lt fails = record {
      text = so_far.text ++ fails.text;
      puts = puts_then a b c t u so_far.text fails.text so_far.printed fails.puts;
      such = (n + 1, (omega arith, with_next n so_far.text fails.text so_far.such fails.such));
    }

  -- where each unit's history speaks honestly, the whole text has the books of their venues
  pub live_text_of_all : (Vs : ℕ → List Raw) (text : List ℕ) → IsLiveText s came text → AreHonest s Vs came → text ≡ live_lines s came ++ live_books s Vs came
  live_text_of_all Vs text is honest =
      is.text_is ∙ ap (λ (t : List ℕ). live_lines s came ++ t) (is.are_books.text_is
      ∙ alike (text_at_reach s came is.are_books.books) (book_at s Vs came) 256
      (λ unit lt has. ap (book_text unit (reach s.hold (history_at s unit came))) (is.are_books.right unit lt has (Vs unit) (honest unit))))
