-- What was written at the end.
use Rattle.std.proofs.Common.{◌≡◌, ℕ, true≢false, List, [], ◌++◌, take, drop, refl, sym, ap, ◌∙◌, subst, append_assoc, arith, Option, Result, Ok, Err, OnOk}
use Rattle.std.specs.Result.{IsErr}
use Rattle.std.proofs.lemmas.List.{append-nil, take-append-drop}
use Rattle.pitch_io.specs.Putting.{Grows}
use Rattle.stream_print.specs.Page.{Page, Prints, PrintsSuch}
use Rattle.stream_print.specs.Putting.{PutsSome}
use Rattle.stream_print.specs.Sinks.{PutsSuch}
use Rattle.stream_print.specs.declared.putting.PutFailed.{PutFailed}
use Rattle.stream_print.proofs.Printing.{prints_flushed, prints_whole, prints_more, puts_after, puts_then}
use Rattle.live_units.specs.Coming.{LiveSetup, UnitCame, AreBooksBelow, BeginsLiveText, live_lines}
use Rattle.live_units.specs.Units.{AreFirstBooks, LiveEnds, LiveStands, OfLive}
use Rattle.stream_print.specs.declared.failure.PrintError.{PrintError}
use Rattle.live_units.specs.declared.units.LiveUnits.{LiveUnits}
use Rattle.live_units.proofs.Books.{no_books}

-- the page was written out
prints_out : (a b c : Option (List ℕ)) (page text : List ℕ) → Prints a [] b page text → Grows b c page → Prints a [] c [] text
prints_out a b c page text printed grows =
    subst (Prints a [] c []) (append-nil text) (prints_more a b c [] page [] text [] printed (prints_flushed b c page grows))

module _ (s : LiveSetup) (came : List UnitCame) where
  -- ---- Prefixes of the text
  begins_books : (books : List ℕ) → AreFirstBooks s came books → BeginsLiveText s came (live_lines s came ++ books)
  begins_books books first = record {
    count = first.0;
    within = first.1.0;
    books = books;
    are_books = first.1.1;
    begins = ([], sym (append-nil (live_lines s came ++ books)));
  }

  -- some prefix of the lines is one of the text
  pub begins_lines : (text more : List ℕ) → live_lines s came ≡ text ++ more → BeginsLiveText s came text
  begins_lines text more is = record {
    count = 0;
    within = omega arith;
    books = [];
    are_books = no_books s came;
    begins = (more, append-nil (live_lines s came) ∙ is);
  }

  begins_less : (n : ℕ) (text : List ℕ) → BeginsLiveText s came text → BeginsLiveText s came (take n text)
  begins_less n text b = record {
    count = b.count;
    within = b.within;
    books = b.books;
    are_books = b.are_books;
    begins = (
      drop n text ++ b.begins.0,
      b.begins.1 ∙ ap (λ (t : List ℕ). t ++ b.begins.0) (sym (take-append-drop n text)) ∙ append_assoc (take n text) (drop n text) b.begins.0,
    );
  }

  abbrev pub WritesBegun : Option (List ℕ) → Option (List ℕ) → Type 0
  WritesBegun start now = (text : List ℕ) × (BeginsLiveText s came text × Grows start now text)

  puts_begun : (start now : Option (List ℕ)) (text : List ℕ) → BeginsLiveText s came text → PutsSome start now text → WritesBegun start now
  puts_begun start now text begins puts = (take puts.count text, (begins_less puts.count text begins, puts.grows))

  pub begun_lines : (start now : Option (List ℕ)) → PutsSome start now (live_lines s came) → WritesBegun start now
  begun_lines start now puts = puts_begun start now (live_lines s came) (begins_lines (live_lines s came) [] (sym (append-nil (live_lines s came)))) puts

  ends_begun : (start now : Option (List ℕ)) (result : Result (Unit {0}) PrintError) → IsErr result → WritesBegun start now → LiveEnds s came start now result
  ends_begun start now (Ok done) failed begun = absurd (true≢false (sym failed))
  ends_begun start now (Err error) failed begun = begun

  -- ---- The end
  module _ (l : LiveUnits) (start w : Option (List ℕ)) (st : LiveStands s start w l came) where
    -- a book was not printed
    pub ends_unbooked : (v : Option (List ℕ)) (result : Result (Unit {0}) PrintError) → IsErr result → PutsSuch (AreFirstBooks s came) w l.page.text v → LiveEnds s came start v result
    ends_unbooked v result failed begun =
        ends_begun start v result failed
        (puts_begun start v (live_lines s came ++ begun.text) (begins_books begun.text begun.such) (puts_then start w v [] l.page.text (live_lines s came) begun.text st.printed begun.puts))

    module _ (v z : Option (List ℕ)) (page : List ℕ) (books : PrintsSuch (AreBooksBelow 256 s came) w l.page.text v page) where
      whole : Prints start [] v page (live_lines s came ++ books.text)
      whole = prints_more start w v [] l.page.text page (live_lines s came) books.text st.printed books.printed

      -- the last page was not written
      pub ends_unwritten : (result : Result (Unit {0}) PrintError) → IsErr result → PutsSome v z page → LiveEnds s came start z result
      ends_unwritten result failed puts =
          ends_begun start z result failed
          (puts_begun start z (live_lines s came ++ books.text)
          (begins_books books.text (256, (omega arith, books.such)))
          (puts_after start v z [] page (live_lines s came ++ books.text) whole puts))

      -- all was
      pub ends_done : Grows v z page → LiveEnds s came start z (Ok tt)
      ends_done grows = (
        live_lines s came ++ books.text,
        (
          record { books = books.text; are_books = books.such; text_is = refl },
          prints_whole start z [] (live_lines s came ++ books.text) (prints_out start v z page (live_lines s came ++ books.text) whole grows),
        ),
      )

-- ---- Written out on the way
module _ (l : LiveUnits) (w v : Option (List ℕ)) (page' : Page) where
  flushed : Grows w v l.page.text → page' ≡ record l.page { text = [] } → OfLive l w (λ s start came. LiveStands s start v (record l { page = page' }) came)
  flushed grows empty s start came st = record {
    units_are = st.units_are;
    number_is = st.number_is;
    printed = subst (λ (p : Page). Prints start [] v p.text (live_lines s came)) (sym empty) (prints_out start w v l.page.text (live_lines s came) st.printed grows);
  }

  pub stand_flushed : (result : Result (Unit {0}) PutFailed) → OnOk result (Grows w v l.page.text) → OnOk result (page' ≡ record l.page { text = [] }) → OnOk result (OfLive l w (λ s start came. LiveStands s start v (record l { page = page' }) came))
  stand_flushed (Err error) grows empty = tt
  stand_flushed (Ok done) grows empty = flushed grows empty

  pub lines_written : Grows w v l.page.text → OfLive l w (λ s start came. Grows start v (live_lines s came))
  lines_written grows s start came st = prints_whole start v [] (live_lines s came) (prints_out start w v l.page.text (live_lines s came) st.printed grows)

  pub lines_begun : PutsSome w v l.page.text → OfLive l w (λ s start came. PutsSome start v (live_lines s came))
  lines_begun puts s start came st = puts_after start w v [] l.page.text (live_lines s came) st.printed puts
