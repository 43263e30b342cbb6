-- What was written of the books of all units.
use Rattle.std.proofs.Common.{◌≡◌, ◌⊎◌, inl, inr, ℕ, ◌+◌, ◌<◌, true≢false, cond, List, [], ◌∷◌, ◌++◌, length, slice_get, refl, sym, ap, ◌∙◌, subst, arith, append_assoc, Option, Some, None, Result, Ok, Err, OnOk, OnErr}
use Rattle.std.specs.List.{flat_map}
use Rattle.std.specs.Option.{option_map_or}
use Rattle.std.specs.Result.{IsErr, IsErrAnd}
use Rattle.std.specs.Prelude.{IfErr, is_some}
use Rattle.std.proofs.lemmas.Grind.{flat_map-append}
use Rattle.std.proofs.lemmas.List.{append-nil}
use Rattle.std.proofs.lemmas.Option.{none-some}
use Rattle.pitch_io.specs.Putting.{Grows}
use Rattle.pitch_model.specs.Book.{Book, book_after}
use Rattle.feed_lines.specs.BookText.{book_text}
use Rattle.stream_print.specs.Page.{Prints}
use Rattle.stream_print.specs.Putting.{PutsSome}
use Rattle.stream_print.specs.Rising.{named_below}
use Rattle.stream_print.proofs.Flow.{grows_none}
use Rattle.stream_print.proofs.Naming.{below_more, below_none, below_split}
use Rattle.stream_print.proofs.Printing.{prints_flushed, prints_more, prints_none, prints_whole, puts_after, puts_longer, puts_then}
use Rattle.venue_end.specs.Came.{VenueCame, venue_after}
use Rattle.venue_end.specs.Stands.{OfVenue}
use Rattle.venue_end.specs.declared.setup.VenueSetup.{VenueSetup}
use Rattle.venue_end.specs.declared.venue.VenueEnd.{VenueEnd}
use Rattle.venue_net.specs.VenueCalls.{VenueCall}
use Rattle.venue_units.specs.Coming.{UnitCame, came_to, state_at}
use Rattle.venue_units.specs.Units.{IsEndOf, OfUnits}
use Rattle.venue_units.specs.declared.units.VenueUnits.{VenueUnits}
use Rattle.live_venue.specs.Input.{index_of}
use Rattle.live_venue.specs.Report.{ReportEnds, is_served, numbered_book, report_text, reported_below, served_book, whole_book}
use Rattle.live_venue.specs.Serving.{AreUnheard, ServeEnds}
use Rattle.live_venue.specs.Standing.{EndsWith}
use Rattle.live_venue.specs.declared.error.ReportError.{ReportError}
use Rattle.live_venue.specs.declared.error.ReportError.TheVariants.{Serve, Write}
use Rattle.live_venue.specs.declared.error.ServeError.{ServeError}
use Rattle.live_venue.specs.declared.error.ServeError.TheVariants as errors
use Rattle.live_venue.specs.declared.fault.InputFault.{InputFault}

-- ---- The book of one unit
module _ (at : ℕ) (came : List UnitCame) where
  abbrev book_if : Option VenueSetup → List ℕ
  book_if o = option_map_or (λ setup. whole_book setup.unit (state_at setup at came).messages) o []

  no_book : (o : Option VenueSetup) → IsEndOf o (came_to at came) None → [] ≡ book_if o
  no_book None is = refl
  no_book (Some setup) is = absurd is

  module _ (e : VenueEnd) (unit n : ℕ) (book : Book) (unit_is : OfVenue e (λ s before. unit ≡ s.unit)) (count_is : OfVenue e (λ s before. n ≡ length (venue_after s before).messages))
      (book_is : OfVenue e (λ s before. book ≡ book_after (venue_after s before).messages)) where
    a_book : (o : Option VenueSetup) → IsEndOf o (came_to at came) (Some e) → book_text unit n book ≡ book_if o
    a_book None is = absurd (none-some e (sym is))
    a_book (Some setup) stands =
        let before : List VenueCame = came_to at came in
        ap (λ (u : ℕ). book_text u n book) (unit_is setup before stands)
        ∙ ap (λ (m : ℕ). book_text setup.unit m book) (count_is setup before stands)
        ∙ ap (book_text setup.unit (length (venue_after setup before).messages)) (book_is setup before stands)

module _ (u : VenueUnits) (at : ℕ) where
  pub none_printed : OfUnits u (λ s came. IsEndOf (slice_get s at) (came_to at came) None) → (w : Option (List ℕ)) (t : List ℕ) → OfUnits u (λ s came. Prints w t w t (served_book s came at))
  none_printed none w t s came st = subst (Prints w t w t) (no_book at came (slice_get s at) (none s came st)) (prints_none w t)

  pub served_is : (e : VenueEnd) → OfUnits u (λ s came. IsEndOf (slice_get s at) (came_to at came) (Some e)) → (unit n : ℕ) (book : Book) → OfVenue e (λ s before. unit ≡ s.unit) → OfVenue e (λ s before. n ≡ length (venue_after s before).messages)
      → OfVenue e (λ s before. book ≡ book_after (venue_after s before).messages) → OfUnits u (λ s came. book_text unit n book ≡ served_book s came at)
  served_is e ends unit n book unit_is count_is book_is s came st = a_book at came e unit n book unit_is count_is book_is (slice_get s at) (ends s came st)

-- ---- All units
module _ (s : List VenueSetup) (came : List UnitCame) where
  -- the book of the unit of a number, by its index
  pub numbered_is : (unit : ℕ) (o : Option ℕ) → o ≡ index_of s unit → option_map_or (served_book s came) o [] ≡ numbered_book s came unit
  numbered_is unit o is = ap (λ (i : Option ℕ). option_map_or (served_book s came) i []) is

  last_if : (n : ℕ) (o : Option ℕ) → o ≡ index_of s n → flat_map (numbered_book s came) (cond (is_some o) (n ∷ []) []) ≡ numbered_book s came n
  last_if n None is = numbered_is n None is
  last_if n (Some at) is = append-nil (numbered_book s came n)

  -- the book of one number more
  one_more : (n : ℕ) → reported_below (n + 1) s came ≡ reported_below n s came ++ numbered_book s came n
  one_more n =
      ap (flat_map (numbered_book s came)) (below_more (is_served s) n)
      ∙ flat_map-append (numbered_book s came) (named_below (is_served s) n) (cond (is_served s n) (n ∷ []) [])
      ∙ ap (λ (t : List ℕ). reported_below n s came ++ t) (last_if n (index_of s n) refl)

  pub books_start : (w : Option (List ℕ)) (t : List ℕ) → Prints w t w t (reported_below 0 s came)
  books_start w t = subst (Prints w t w t) (sym (ap (flat_map (numbered_book s came)) (below_none (is_served s)))) (prints_none w t)

  module _ (n : ℕ) (a b c : Option (List ℕ)) (t u : List ℕ) (so_far : Prints a t b u (reported_below n s came)) where
    pub books_more : (v : List ℕ) → Prints b u c v (numbered_book s came n) → Prints a t c v (reported_below (n + 1) s came)
    books_more v more = subst (Prints a t c v) (sym (one_more n)) (prints_more a b c t u v (reported_below n s came) (numbered_book s came n) so_far more)

    pub books_fail : n < 256 → PutsSome b c (u ++ numbered_book s came n) → PutsSome a c (t ++ report_text s came)
    books_fail lt fails =
        let books = flat_map (numbered_book s came) in
        let split = below_split (is_served s) (n + 1) 256 (omega arith) in
        let whole : report_text s came ≡ reported_below (n + 1) s came ++ books split.0 = ap (flat_map (numbered_book s came)) split.1 ∙ flat_map-append (numbered_book s came) (named_below (is_served s) (n + 1)) split.0 in
        let here : PutsSome a c (t ++ reported_below (n + 1) s came) = subst (λ (x : List ℕ). PutsSome a c (t ++ x)) (sym (one_more n)) (puts_then a b c t u (reported_below n s came) (numbered_book s came n) so_far fails) in
        subst (PutsSome a c) (append_assoc t (reported_below (n + 1) s came) (books split.0) ∙ ap (λ (x : List ℕ). t ++ x) (sym whole)) (puts_longer a c (t ++ reported_below (n + 1) s came) (books split.0) here)

-- ---- What was written
-- nothing is a prefix
pub puts_none : (w : Option (List ℕ)) (text : List ℕ) → PutsSome w w text
puts_none w text = record { count = 0; within = omega arith; grows = grows_none w }

-- all was printed on an empty page, and the page was written out, or not
pub written_out : (a b c : Option (List ℕ)) (page text : List ℕ) → Prints a [] b page text → Grows b c page → Grows a c text
written_out a b c page text printed grows = prints_whole a c [] text (subst (Prints a [] c []) (append-nil text) (prints_more a b c [] page [] text [] printed (prints_flushed b c page grows)))

pub puts_page : (a b c : Option (List ℕ)) (page text : List ℕ) → Prints a [] b page text → PutsSome b c page → PutsSome a c text
puts_page a b c page text printed puts = puts_after a b c [] page text printed puts

-- ---- The end of a run with a report
-- the error that a `?` answers is that of the call
pub report_same : (s : List VenueSetup) (answer : Result (Unit {0}) ReportError) (error : ReportError) (calls calls' : Option (List VenueCall)) (w w' : Option (List ℕ)) → IsErr answer × IsErrAnd answer (λ e. e ≡ error) → ReportEnds s (Err error) calls calls' w w' → ReportEnds s answer calls calls' w w'
report_same s (Ok done) error calls calls' w w' is ends = absurd (true≢false (sym is.0))
report_same s (Err e) error calls calls' w w' is ends = subst (λ (x : ReportError). ReportEnds s (Err x) calls calls' w w') (sym is.1) ends

-- memory ran out before anything was written
pub reports_spent : (s : List VenueSetup) (calls calls' : Option (List VenueCall)) (w : Option (List ℕ)) → ServeEnds s (Err errors.OutOfMemory) calls calls' → ReportEnds s (Err (Serve errors.OutOfMemory)) calls calls' w w
reports_spent s calls calls' w ends = record { ends = ends; reported = puts_none w (report_text s ends.now.came) }

-- the net failed
pub reports_failed : (s : List VenueSetup) (calls calls' : Option (List VenueCall)) (w : Option (List ℕ)) → ServeEnds s (Err errors.Net) calls calls' → ReportEnds s (Err (Serve errors.Net)) calls calls' w w
reports_failed s calls calls' w ends = record { ends = ends; reported = refl }

-- behind a run that was over, or whose input has a fault, memory may run out
module _ (s : List VenueSetup) (calls calls' : Option (List VenueCall)) (w w' : Option (List ℕ)) where
  out_of_memory : (answer : Result (Unit {0}) ServeError) (ends : ServeEnds s answer calls calls') → ends.unheard ≡ [] → PutsSome w w' (report_text s ends.now.came) → ReportEnds s (Err (Serve errors.OutOfMemory)) calls calls' w w'
  out_of_memory answer ends heard puts = record {
    ends = record { unheard = ends.unheard; run = ends.run; now = ends.now; adds = ends.adds; runs = ends.runs; pieces = ends.pieces; feeds = ends.feeds; is_end = subst AreUnheard (sym heard) tt };
    reported = puts;
  }

  abbrev Wrote : VenueUnits → Type 0
  Wrote u = OfUnits u (λ t came. Grows w w' (report_text t came))

  abbrev Begun : VenueUnits → Type 0
  Begun u = OfUnits u (λ t came. PutsSome w w' (report_text t came))

  module _ (u : VenueUnits) where
    unwritten_over : EndsWith s (Ok tt) calls calls' u → Begun u → (error : ReportError) → (error ≡ Write None) ⊎ (error ≡ Serve errors.OutOfMemory) → ReportEnds s (Err error) calls calls' w w'
    unwritten_over over begun error why =
        let puts = begun s over.ends.now.came over.stand in
        elim why [
          | inl is ↦ subst (λ (x : ReportError). ReportEnds s (Err x) calls calls' w w') (sym is) (record { ends = over.ends; reported = puts })
          | inr is ↦ subst (λ (x : ReportError). ReportEnds s (Err x) calls calls' w w') (sym is) (out_of_memory (Ok tt) over.ends over.ends.is_end.0 puts)
        ]

    pub reports_over : EndsWith s (Ok tt) calls calls' u → (r : Result (Unit {0}) ReportError) → OnOk r (Wrote u) → OnErr r (Begun u) → IfErr r (λ error. (error ≡ Write None) ⊎ (error ≡ Serve errors.OutOfMemory)) → ReportEnds s r calls calls' w w'
    reports_over over (Ok done) wrote begun why = record { ends = over.ends; reported = wrote s over.ends.now.came over.stand }
    reports_over over (Err error) wrote begun why = unwritten_over over begun error why

    module _ (fault : InputFault) (ended : EndsWith s (Err (errors.Input fault)) calls calls' u) where
      pub reports_faulty : Wrote u → ReportEnds s (Err (Serve (errors.Input fault))) calls calls' w w'
      reports_faulty wrote = record { ends = ended.ends; reported = wrote s ended.ends.now.came ended.stand }

      pub unwritten_faulty : Begun u → (error : ReportError) → (error ≡ Write (Some fault)) ⊎ (error ≡ Serve errors.OutOfMemory) → ReportEnds s (Err error) calls calls' w w'
      unwritten_faulty begun error why =
          let puts = begun s ended.ends.now.came ended.stand in
          elim why [
            | inl is ↦ subst (λ (x : ReportError). ReportEnds s (Err x) calls calls' w w') (sym is) (record { ends = ended.ends; reported = puts })
            | inr is ↦ subst (λ (x : ReportError). ReportEnds s (Err x) calls calls' w w') (sym is) (out_of_memory (Err (errors.Input fault)) ended.ends ended.ends.is_end.0 puts)
          ]
