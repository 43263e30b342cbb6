-- A run that goes on by a call.
use Rattle.std.proofs.Common.{◌≡◌, ℕ, ◌+◌, cond, List, [], ◌∷◌, ◌++◌, length, take, refl, sym, ap, ◌∙◌, subst, arith, Option, Some, None, length-append}
use Rattle.std.specs.Prelude.{reverse}
use Rattle.std.specs.List.{flat_map, count_by}
use Rattle.std.proofs.lemmas.List.{append-nil}
use Rattle.std.proofs.lemmas.List.Sums.{sum_by-append}
use Rattle.pitch_io.specs.Putting.{Grows}
use Rattle.unit_packets.specs.Blocks.{Block}
use Rattle.unit_packets.specs.Cutting.{blocks_of}
use Rattle.stream_print.specs.Carriers.{is_faulty}
use Rattle.stream_print.specs.Knowing.{task_form, HasPrinted}
use Rattle.stream_print.specs.Page.{Page, Prints}
use Rattle.stream_print.specs.Printing.{PrintsBlocks}
use Rattle.stream_print.specs.declared.printer.Printer.{Printer}
use Rattle.stream_print.specs.declared.stream_form.StreamForm.TheVariants.{Follow}
use Rattle.stream_print.proofs.Printing.{prints_flushed}
use Rattle.stream_print.proofs.Streaming.{prints_no_block, prints_blocks_more}
use Rattle.live_net.specs.LineCalls.{LineCall, Receive, AddsCall}
use Rattle.live_net.specs.declared.net.Received.TheVariants as received
use Rattle.live_listen.specs.Counting.{is_stray}
use Rattle.live_listen.specs.Due.{due, due_of, Receives}
use Rattle.live_listen.specs.Heard.{datagrams_of, heard_in, blocks_heard}
use Rattle.live_listen.specs.Listening.{Setup, AddsRun, heard_of, lines_shown}
use Rattle.live_listen.specs.Standing.{Devices, Hears, Stands}
use Rattle.live_listen.specs.declared.listener.Listener.{Listener}
use Rattle.live_listen.specs.declared.place.Place.{Place}
use Rattle.live_listen.proofs.Coming.{more_heard, more_came}
use Rattle.live_listen.proofs.Showing.{HasShown, shown_none, shown_more}

-- ---- The calls of a net
pub adds_none : (calls : Option (List LineCall)) → AddsRun [] calls calls
adds_none None = tt
adds_none (Some calls) = refl

pub adds_more : (run : List LineCall) (call : LineCall) (a b c : Option (List LineCall)) → AddsRun run a b → AddsCall b c call → AddsRun (call ∷ run) a c
adds_more run call a b None g h = tt
adds_more run call None None (Some r) g h = h
adds_more run call None (Some q) (Some r) g h = g
adds_more run call (Some p) None (Some r) g h = absurd h
adds_more run call (Some p) (Some q) (Some r) g h = h ∙ ap (λ (l : List LineCall). call ∷ l) g

-- ---- A page that is written out
pub prints_page : (p : Printer) (page : Page) (a b : Option (List ℕ)) → Grows a b p.page.text → page ≡ record p.page { text = [] } → PrintsBlocks p (record p { page = page }) a b []
prints_page p page a b grows is =
    record {
      form_is = refl;
      known = λ before known. record { number_is = known.number_is; knows = known.knows };
      printed = λ before known. record {
        text = [];
        printed = subst (λ (q : Page). Prints a p.page.text b q.text []) (sym is) (prints_flushed a b p.page.text grows);
        such = refl;
      };
    }

-- ---- The start
pub stands_start : (s : Setup) (p : Printer) (place : Place) (start : Devices) → task_form p.task ≡ Follow s.hold → HasPrinted p [] → p.page.text ≡ []
    → Stands s start start (record { place = place; printer = p; datagrams = 0; faulty = 0; stray = 0 }) []
stands_start s p place start form known empty = record {
  adds = adds_none start.calls;
  due_each = tt;
  first = p;
  form_is = form;
  known = known;
  empty = empty;
  prints = prints_no_block p start.written;
  datagrams_are = refl;
  faulty_are = refl;
  stray_are = refl;
  shown = shown_none s start.written;
}

-- ---- A call more
module _ (s : Setup) (start u v : Devices) (l : Listener) (run : List LineCall) (st : Stands s start u l run) where
  -- where a listener's place alone differs
  pub stands_at : (place : Place) → Stands s start u (record l { place = place }) run
  stands_at place = record {
    adds = st.adds;
    due_each = st.due_each;
    first = st.first;
    form_is = st.form_is;
    known = st.known;
    empty = st.empty;
    prints = st.prints;
    datagrams_are = st.datagrams_are;
    faulty_are = st.faulty_are;
    stray_are = st.stray_are;
    shown = st.shown;
  }

  -- what was written only grows
  pub shown_on : (p : Printer) (blocks : List Block) → PrintsBlocks l.printer p u.written v.written blocks → HasShown start.written v.written (lines_shown s run)
  shown_on p blocks prints =
      let printed = prints.printed (reverse (heard_of s run) ++ []) (st.prints.known [] st.known) in
      shown_more start.written u.written v.written (lines_shown s run) (take printed.printed.count (l.printer.page.text ++ printed.text)) st.shown printed.printed.written

  -- by a call no datagram came, and no block was printed
  pub stands_same : (p : Printer) (place : Place) (call : LineCall) → datagrams_of (call ∷ run) ≡ datagrams_of run → AddsCall u.calls v.calls call → due s.lines run ≡ Some (due_of call) → PrintsBlocks l.printer p u.written v.written []
      → HasShown start.written v.written (lines_shown s (call ∷ run)) → Stands s start v (record l { printer = p; place = place }) (call ∷ run)
  stands_same p place call same adds is_due none shown = record {
    adds = adds_more run call start.calls u.calls v.calls st.adds adds;
    due_each = (is_due, st.due_each);
    first = st.first;
    form_is = st.form_is;
    known = st.known;
    empty = st.empty;
    prints = subst (PrintsBlocks st.first p start.written v.written) (append-nil (heard_of s run) ∙ ap (blocks_heard s.units) (sym same))
        (prints_blocks_more st.first l.printer p start.written u.written v.written (heard_of s run) [] st.prints none);
    datagrams_are = st.datagrams_are ∙ ap length (sym same);
    faulty_are = st.faulty_are ∙ ap (count_by is_faulty) (sym same);
    stray_are = st.stray_are ∙ ap (λ (ds : List (List ℕ)). count_by (is_stray s.units) (flat_map blocks_of ds)) (sym same);
    shown = shown;
  }

  -- a datagram came, and was heard
  pub stands_datagram : (l' : Listener) (line room n : ℕ) (bytes : List ℕ) → AddsCall u.calls v.calls (Receive line room bytes (received.Got n)) → due s.lines run ≡ Some (Receives line room) → Hears s.units l l' u.written v.written bytes
      → Stands s start v l' (Receive line room bytes (received.Got n) ∷ run)
  stands_datagram l' line room n bytes adds is_due hears =
      let ds : List (List ℕ) = datagrams_of run in
      let came = hears.datagrams in
      let faulty = hears.faulty in
      let stray = hears.stray in
      let before_came = st.datagrams_are in
      let before_faulty = st.faulty_are in
      let before_stray = st.stray_are in
      let more_faulty : count_by is_faulty (ds ++ bytes ∷ []) ≡ count_by is_faulty ds + count_by is_faulty (bytes ∷ []) = sum_by-append (λ (d : List ℕ). cond (is_faulty d) 1 0) ds (bytes ∷ []) in
      let more_stray : count_by (is_stray s.units) (flat_map blocks_of ds ++ blocks_of bytes) ≡ count_by (is_stray s.units) (flat_map blocks_of ds) + count_by (is_stray s.units) (blocks_of bytes)
      = sum_by-append (λ (x : Block). cond (is_stray s.units x) 1 0) (flat_map blocks_of ds) (blocks_of bytes) in
      record {
        adds = adds_more run (Receive line room bytes (received.Got n)) start.calls u.calls v.calls st.adds adds;
        due_each = (is_due, st.due_each);
        first = st.first;
        form_is = st.form_is;
        known = st.known;
        empty = st.empty;
        prints = subst (PrintsBlocks st.first l'.printer start.written v.written) (sym (more_heard s.units ds bytes))
            (prints_blocks_more st.first l.printer l'.printer start.written u.written v.written (heard_of s run) (heard_in s.units bytes) st.prints hears.prints);
        datagrams_are = omega (arith, came, before_came, length-append ds (bytes ∷ []));
        faulty_are = omega (arith, faulty, before_faulty, more_faulty);
        stray_are = omega (arith, stray, before_stray, more_stray, ap (count_by (is_stray s.units)) (more_came ds bytes));
        shown = shown_on l'.printer (heard_in s.units bytes) hears.prints;
      }
