-- How a run ends.
use Rattle.std.proofs.Common.{◌≡◌, ℕ, inl, inr, Bool, true≢false, List, [], ◌∷◌, ◌++◌, length, take, drop, reverse, refl, sym, ap, ◌∙◌, subst, append_assoc, Option, Some, Result, Ok, Err}
use Rattle.std.specs.Result.{IsErr, IsErrAnd}
use Rattle.std.specs.List.{flat_map, count_by}
use Rattle.std.proofs.lemmas.List.{append-nil, take-append-drop, length-reverse}
use Rattle.pitch_io.specs.Putting.{Grows}
use Rattle.unit_packets.specs.Blocks.{Block}
use Rattle.unit_packets.specs.Cutting.{blocks_of}
use Rattle.feed_lines.specs.Follow.{lines_after}
use Rattle.stream_print.specs.Carriers.{is_faulty}
use Rattle.stream_print.specs.Followed.{IsBooksText, IsFollowed}
use Rattle.stream_print.specs.Knowing.{task_form, HasPrinted}
use Rattle.stream_print.specs.Page.{Prints, PrintsSuch}
use Rattle.stream_print.specs.Printing.{Fails, FailsBlocks}
use Rattle.stream_print.specs.Putting.{PutsSome}
use Rattle.stream_print.specs.Sinks.{PutsSuch}
use Rattle.stream_print.specs.TextLaws.{IsEnd}
use Rattle.stream_print.specs.Texts.{AreTextsAfter, BeginTextsAfter}
use Rattle.stream_print.specs.Told.{between}
use Rattle.stream_print.specs.declared.failure.PrintError.{PrintError}
use Rattle.stream_print.specs.declared.failure.PrintError.TheVariants as printing
use Rattle.stream_print.specs.declared.failure.TaskError.{TaskError}
use Rattle.stream_print.specs.declared.failure.TaskError.TheVariants as task
use Rattle.stream_print.specs.declared.stream_form.StreamForm.{StreamForm}
use Rattle.stream_print.specs.declared.stream_form.StreamForm.TheVariants.{Follow}
use Rattle.stream_print.proofs.Flow.{grows_none}
use Rattle.stream_print.proofs.Printing.{prints_flushed, prints_whole, prints_more, puts_after, puts_so_far, puts_then}
use Rattle.stream_print.proofs.Streaming.{fails_more}
use Rattle.stream_print.proofs.Venues.{lines_are, lines_begin}
use Rattle.live_net.specs.LineCalls.{LineCall, Receive, AddsCall}
use Rattle.live_net.specs.declared.net.Received.TheVariants as received
use Rattle.live_listen.specs.Counting.{is_stray, counts_of}
use Rattle.live_listen.specs.Due.{due, Receives, AreDue}
use Rattle.live_listen.specs.layers.Failures.{unprinted, unheard}
use Rattle.live_listen.specs.Heard.{datagrams_of, heard_in, blocks_heard}
use Rattle.live_listen.specs.Listening.{Setup, AddsRun, heard_of, lines_shown, BeginsText, HasFailed, IsOver, ListenEnds}
use Rattle.live_listen.specs.Standing.{Devices, Stands, Steps, NamesNoDevice}
use Rattle.live_listen.specs.declared.counts.Counts.{Counts}
use Rattle.live_listen.specs.declared.error.ListenError.{ListenError}
use Rattle.live_listen.specs.declared.error.ListenError.TheVariants as errors
use Rattle.live_listen.specs.declared.listener.Listener.{Listener}
use Rattle.live_listen.proofs.Coming.{more_heard}
use Rattle.live_listen.proofs.Showing.{HasShown, shown_all, shown_more, shown_none}
use Rattle.live_listen.proofs.Standing.{adds_none, adds_more}

-- what was printed, once the page is written out
prints_out : (a b c : Option (List ℕ)) (t x : List ℕ) → Prints a [] b t x → Grows b c t → Grows a c x
prints_out a b c t x p g = subst (Grows a c) (append-nil x) (prints_whole a c [] (x ++ []) (prints_more a b c [] t [] x [] p (prints_flushed b c t g)))

-- ---- Prefixes of the whole text
module _ (H : ℕ) (blocks : List Block) where
  begins_lines : (text more : List ℕ) → lines_after H [] blocks ≡ text ++ more → BeginsText H blocks text
  begins_lines text more is = inl (more, is)

  -- all lines, and the books
  begins_books : (text books : List ℕ) → text ≡ lines_after H [] blocks → IsBooksText H (reverse blocks) books → BeginsText H blocks (text ++ books)
  begins_books text books are is = inr ([], record { books = books; are_books = is; text_is = append-nil (text ++ books) ∙ ap (λ (t : List ℕ). t ++ books) are })

  begins_less : (n : ℕ) (text : List ℕ) → BeginsText H blocks text → BeginsText H blocks (take n text)
  begins_less n text begins = elim begins [
    | inl lines ↦ inl (drop n text ++ lines.0, lines.1 ∙ longer lines.0)
    | inr whole ↦ inr (drop n text ++ whole.0, subst (IsFollowed H blocks) (longer whole.0) whole.1)
  ]
    where
      longer : (more : List ℕ) → text ++ more ≡ take n text ++ (drop n text ++ more)
      longer more = ap (λ (t : List ℕ). t ++ more) (sym (take-append-drop n text)) ∙ append_assoc (take n text) (drop n text) more

-- ---- Runs that end
module _ (s : Setup) (start v : Devices) (run : List LineCall) (adds : AddsRun run start.calls v.calls) (due_each : AreDue s.lines run) (shown : HasShown start.written v.written (lines_shown s run)) where
  -- memory ran out, or the sink failed
  ends_begun : (text : List ℕ) (e : PrintError) → BeginsText s.hold (heard_of s run) text → PutsSome start.written v.written text → ListenEnds s (Err (unprinted e)) start.calls v.calls (between start.written v.written)
  ends_begun text e begins puts = by e
    where
      some : List ℕ
      some = take puts.count text

      by : (e : PrintError) → ListenEnds s (Err (unprinted e)) start.calls v.calls (between start.written v.written)
      by printing.Write = record { run = run; text = some; is_run = record { adds = adds; due = due_each; writes = puts.grows; shows = shown }; is_end = begins_less s.hold (heard_of s run) puts.count text begins }
      by printing.OutOfMemory = record { run = run; text = some; is_run = record { adds = adds; due = due_each; writes = puts.grows; shows = shown }; is_end = begins_less s.hold (heard_of s run) puts.count text begins }

  -- the lines of the blocks were not all printed
  ends_failed : (form : StreamForm) (e : TaskError) (page : List ℕ) → form ≡ Follow s.hold → page ≡ [] → Fails e form [] (heard_of s run) start.written page v.written → ListenEnds s (Err (unheard e)) start.calls v.calls (between start.written v.written)
  ends_failed form e page is empty fails = by e (subst (λ (f : StreamForm). Fails e f [] (heard_of s run) start.written [] v.written) is (subst (λ (p : List ℕ). Fails e form [] (heard_of s run) start.written p v.written) empty fails))
    where
      puts : (e : PrintError) → PutsSuch (BeginTextsAfter (Follow s.hold) [] (heard_of s run)) start.written [] v.written → ListenEnds s (Err (unprinted e)) start.calls v.calls (between start.written v.written)
      puts e some =
          let begins = lines_begin s.hold [] (heard_of s run) some.text some.such in
          ends_begun some.text e (begins_lines s.hold (heard_of s run) some.text begins.0 begins.1) some.puts

      by : (e : TaskError) → Fails e (Follow s.hold) [] (heard_of s run) start.written [] v.written → ListenEnds s (Err (unheard e)) start.calls v.calls (between start.written v.written)
      by task.SequencesSpent outruns = absurd outruns.outruns
      by task.Write some = puts printing.Write some
      by task.OutOfMemory some = puts printing.OutOfMemory some

-- ---- What a listener that stands has printed
module _ (s : Setup) (start u : Devices) (l : Listener) (run : List LineCall) (st : Stands s start u l run) where
  form_now : task_form l.printer.task ≡ Follow s.hold
  form_now = st.prints.form_is ∙ st.form_is

  pub known_now : HasPrinted l.printer (reverse (heard_of s run))
  known_now = subst (HasPrinted l.printer) (append-nil (reverse (heard_of s run))) (st.prints.known [] st.known)

  printed_first : PrintsSuch (AreTextsAfter (Follow s.hold) [] (heard_of s run)) start.written [] u.written l.printer.page.text
  printed_first =
      subst (λ (f : StreamForm). PrintsSuch (AreTextsAfter f [] (heard_of s run)) start.written [] u.written l.printer.page.text) st.form_is
      (subst (λ (p : List ℕ). PrintsSuch (AreTextsAfter (task_form st.first.task) [] (heard_of s run)) start.written p u.written l.printer.page.text) st.empty (st.prints.printed [] st.known))

  -- it has printed the lines
  text_now : List ℕ
  text_now = printed_first.text

  lines_now : text_now ≡ lines_after s.hold [] (heard_of s run)
  unfolding text_now printed_first
  lines_now = lines_are s.hold [] (heard_of s run) printed_first.text printed_first.such

  printed_now : Prints start.written [] u.written l.printer.page.text text_now
  unfolding text_now printed_first
  printed_now = printed_first.printed

  begins_now : BeginsText s.hold (heard_of s run) text_now
  begins_now = begins_lines s.hold (heard_of s run) text_now [] (sym lines_now ∙ sym (append-nil text_now))

  -- the lines that came before the last wait stay written
  shown_then : (w : Option (List ℕ)) (text : List ℕ) → PutsSome u.written w text → HasShown start.written w (lines_shown s run)
  shown_then w text puts = shown_more start.written u.written w (lines_shown s run) (take puts.count text) st.shown puts.grows

  -- all lines are, once the page is written out
  pub shown_now : (w : Option (List ℕ)) → Grows u.written w l.printer.page.text → HasShown start.written w (lines_after s.hold [] (heard_of s run))
  shown_now w grows = shown_all start.written w (lines_after s.hold [] (heard_of s run)) (subst (Grows start.written w) lines_now (prints_out start.written u.written w l.printer.page.text text_now printed_now grows))

  shown_failing : (v : Devices) (e : TaskError) (blocks : List Block) → FailsBlocks e l.printer u.written v.written blocks → HasShown start.written v.written (lines_shown s run)
  shown_failing v e blocks fails =
      by e (subst (λ (f : StreamForm). Fails e f (reverse (heard_of s run)) blocks u.written l.printer.page.text v.written) form_now (fails (reverse (heard_of s run)) known_now))
    where
      by : (e : TaskError) → Fails e (Follow s.hold) (reverse (heard_of s run)) blocks u.written l.printer.page.text v.written → HasShown start.written v.written (lines_shown s run)
      by task.SequencesSpent outruns = absurd outruns.outruns
      by task.Write some = shown_then v.written (l.printer.page.text ++ some.text) some.puts
      by task.OutOfMemory some = shown_then v.written (l.printer.page.text ++ some.text) some.puts

  -- no memory is left
  pub ends_now : ListenEnds s (Err errors.OutOfMemory) start.calls u.calls (between start.written u.written)
  ends_now = ends_begun s start u run st.adds st.due_each st.shown text_now printing.OutOfMemory begins_now (puts_so_far start.written u.written [] l.printer.page.text text_now printed_now)

  -- the sink failed while the page was written out
  pub ends_unflushed : (v : Devices) (e : PrintError) → v.calls ≡ u.calls → PutsSome u.written v.written l.printer.page.text → ListenEnds s (Err (unprinted e)) start.calls v.calls (between start.written v.written)
  ends_unflushed v e same puts =
      ends_begun s start v run (subst (AddsRun run start.calls) (sym same) st.adds) st.due_each (shown_then v.written l.printer.page.text puts) text_now e begins_now (puts_after start.written u.written v.written [] l.printer.page.text text_now printed_now puts)

  -- the net failed, and nothing is left on the page
  pub ends_cut_off : l.printer.page.text ≡ [] → HasFailed run → ListenEnds s (Err errors.Net) start.calls u.calls (between start.written u.written)
  ends_cut_off none failed = record {
    run = run;
    text = text_now;
    is_run = record {
      adds = st.adds;
      due = st.due_each;
      writes = prints_whole start.written u.written [] text_now (subst (λ (p : List ℕ). Prints start.written [] u.written p text_now) none printed_now);
      shows = st.shown;
    };
    is_end = record { failed = failed; text_is = lines_now };
  }

  -- a datagram came that was not printed
  pub ends_unprinted : (v : Devices) (e : TaskError) (line room n : ℕ) (bytes : List ℕ) → AddsCall u.calls v.calls (Receive line room bytes (received.Got n)) → due s.lines run ≡ Some (Receives line room)
      → FailsBlocks e l.printer u.written v.written (heard_in s.units bytes) → ListenEnds s (Err (unheard e)) start.calls v.calls (between start.written v.written)
  ends_unprinted v e line room n bytes adds is_due fails =
      let call : LineCall = Receive line room bytes (received.Got n) in
      let more : List Block = heard_in s.units bytes in
      ends_failed s start v (call ∷ run) (adds_more run call start.calls u.calls v.calls st.adds adds) (is_due, st.due_each) (shown_failing v e more fails) (task_form st.first.task) e st.first.page.text st.form_is st.empty
      (fails_more st.first l.printer e start.written u.written v.written (heard_of s (call ∷ run)) (heard_of s run) more []
      (more_heard s.units (datagrams_of run) bytes ∙ ap (λ (bs : List Block). heard_of s run ++ bs) (sym (append-nil more))) st.prints fails [] st.known)

  -- ---- The books
  -- the sink failed while they were printed
  pub ends_unbooked : (v : Devices) (e : PrintError) → v.calls ≡ u.calls → PutsSuch (IsEnd (task_form l.printer.task) (reverse (heard_of s run))) u.written l.printer.page.text v.written
      → ListenEnds s (Err (unprinted e)) start.calls v.calls (between start.written v.written)
  ends_unbooked v e same some =
      ends_begun s start v run (subst (AddsRun run start.calls) (sym same) st.adds) st.due_each (shown_then v.written (l.printer.page.text ++ some.text) some.puts) (text_now ++ some.text) e
      (begins_books s.hold (heard_of s run) text_now some.text lines_now (subst (λ (f : StreamForm). IsEnd f (reverse (heard_of s run)) some.text) form_now some.such))
      (puts_then start.written u.written v.written [] l.printer.page.text text_now some.text printed_now some.puts)

  module _ (w : Option (List ℕ)) (page : List ℕ) (printed : PrintsSuch (IsEnd (task_form l.printer.task) (reverse (heard_of s run))) u.written l.printer.page.text w page) where
    whole : Prints start.written [] w page (text_now ++ printed.text)
    whole = prints_more start.written u.written w [] l.printer.page.text page text_now printed.text printed_now printed.printed

    books_are : IsEnd (Follow s.hold) (reverse (heard_of s run)) printed.text
    books_are = subst (λ (f : StreamForm). IsEnd f (reverse (heard_of s run)) printed.text) form_now printed.such

    shown_whole : (x : Option (List ℕ)) (added : List ℕ) → Grows w x added → HasShown start.written x (lines_shown s run)
    shown_whole x added grows =
        shown_more start.written w x (lines_shown s run) added
        (shown_more start.written u.written w (lines_shown s run) (take printed.printed.count (l.printer.page.text ++ printed.text)) st.shown printed.printed.written) grows

    -- or at the last page
    pub ends_unwritten : (v : Devices) (e : PrintError) → v.calls ≡ u.calls → PutsSome w v.written page → ListenEnds s (Err (unprinted e)) start.calls v.calls (between start.written v.written)
    ends_unwritten v e same puts =
        ends_begun s start v run (subst (AddsRun run start.calls) (sym same) st.adds) st.due_each (shown_whole v.written (take puts.count page) puts.grows) (text_now ++ printed.text) e
        (begins_books s.hold (heard_of s run) text_now printed.text lines_now books_are)
        (puts_after start.written w v.written [] page (text_now ++ printed.text) whole puts)

    -- all was written
    pub ends_done : (v : Devices) → v.calls ≡ u.calls → Grows w v.written page → IsOver run
        → ListenEnds s (Ok (record { datagrams = l.datagrams; faulty = l.faulty; blocks = l.printer.number; stray = l.stray })) start.calls v.calls (between start.written v.written)
    ends_done v same grows over = record {
      run = run;
      text = text_now ++ printed.text;
      is_run = record {
        adds = subst (AddsRun run start.calls) (sym same) st.adds;
        due = st.due_each;
        writes = prints_out start.written w v.written page (text_now ++ printed.text) whole grows;
        shows = shown_whole v.written page grows;
      };
      is_end = record {
        over = over;
        text_is = record { books = printed.text; are_books = books_are; text_is = ap (λ (t : List ℕ). t ++ printed.text) lines_now };
        counts_are = same_counts s.units (datagrams_of run) l.datagrams l.faulty l.printer.number l.stray st.datagrams_are st.faulty_are (known_now.number_is ∙ length-reverse (heard_of s run)) st.stray_are;
      };
    }
      where
        same_counts : (units : List ℕ) (ds : List (List ℕ)) (a b c d : ℕ) → a ≡ length ds → b ≡ count_by is_faulty ds → c ≡ length (blocks_heard units ds) → d ≡ count_by (is_stray units) (flat_map blocks_of ds)
            → ◌≡◌ {A = Counts} (record { datagrams = a; faulty = b; blocks = c; stray = d }) (counts_of units ds)
        same_counts units ds a b c d p q r t =
            ap (λ (n : ℕ). counts n b c d) p ∙ ap (λ (n : ℕ). counts (length ds) n c d) q
            ∙ ap (λ (n : ℕ). counts (length ds) (count_by is_faulty ds) n d) r ∙ ap (λ (n : ℕ). counts (length ds) (count_by is_faulty ds) (length (blocks_heard units ds)) n) t
          where
            counts : ℕ → ℕ → ℕ → ℕ → Counts
            counts a b c d = record { datagrams = a; faulty = b; blocks = c; stray = d }

-- ---- The answer of a `?` is its error
pub ends_same : (s : Setup) (answer : Result Counts ListenError) (error : ListenError) (calls calls' : Option (List LineCall)) (a b : Option (List ℕ)) → IsErr answer × IsErrAnd answer (λ e. e ≡ error)
    → ListenEnds s (Err error) calls calls' (between a b) → ListenEnds s answer calls calls' (between a b)
ends_same s (Ok done) error calls calls' a b is ends = absurd (true≢false (sym is.0))
ends_same s (Err e) error calls calls' a b is ends = subst (λ (x : ListenError). ListenEnds s (Err x) calls calls' (between a b)) (sym is.1) ends

pub steps_same : (s : Setup) (answer : Result Bool ListenError) (error : ListenError) (start now : Devices) (l : Listener) → IsErr answer × IsErrAnd answer (λ e. e ≡ error)
    → ListenEnds s (Err error) start.calls now.calls (between start.written now.written) → Steps s answer start now l
steps_same s (Ok done) error start now l is ends = absurd (true≢false (sym is.0))
steps_same s (Err e) error start now l is ends = subst (λ (x : ListenError). ListenEnds s (Err x) start.calls now.calls (between start.written now.written)) (sym is.1) ends

-- ---- Before the first call
begins_none : (H : ℕ) (blocks : List Block) → BeginsText H blocks []
begins_none H blocks = inl (lines_after H [] blocks, refl)

pub ends_none : (s : Setup) (calls : Option (List LineCall)) (w : Option (List ℕ)) → ListenEnds s (Err errors.OutOfMemory) calls calls (between w w)
ends_none s calls w = record {
  run = [];
  text = [];
  is_run = record { adds = adds_none calls; due = tt; writes = grows_none w; shows = shown_none s w };
  is_end = begins_none s.hold [];
}

-- an answer that names no device
pub done_names_none : {A : Type 0} (x : A) → NamesNoDevice (Ok x)
done_names_none {A} x = (no errors.Net, no errors.Write)
  where
    no : (e : ListenError) → ◌≡◌ {A = Result A ListenError} (Ok x) (Err e) → ⊥
    no e is = cc

-- the error that a `?` answers is that of the call
pub same_answer : {A : Type 0} (answer : Result A ListenError) (error other : ListenError) → IsErr answer × IsErrAnd answer (λ e. e ≡ error) → answer ≡ Err other → error ≡ other
same_answer (Ok done) error other is e = absurd (true≢false (sym is.0))
same_answer {A} (Err x) error other is e = sym is.1 ∙ same x other e
  where
    same : (x y : ListenError) → ◌≡◌ {A = Result A ListenError} (Err x) (Err y) → x ≡ y
    same x y e = cc

pub names_same : {A B : Type 0} (answer : Result A ListenError) (error : ListenError) → IsErr answer × IsErrAnd answer (λ e. e ≡ error) → NamesNoDevice answer → NamesNoDevice {A = B} (Err error)
names_same (Ok done) error is none = absurd (true≢false (sym is.0))
names_same {A} {B} (Err x) error is none = (λ e. none.0 (ap Err (is.1 ∙ same error errors.Net e)), λ e. none.1 (ap Err (is.1 ∙ same error errors.Write e)))
  where
    same : (x y : ListenError) → ◌≡◌ {A = Result B ListenError} (Err x) (Err y) → x ≡ y
    same x y e = cc
