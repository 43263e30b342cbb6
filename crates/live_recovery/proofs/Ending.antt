-- How a run ends.
use Rattle.std.proofs.Common.{◌≡◌, ℕ, Bool, true≢false, List, [], ◌∷◌, take, drop, refl, sym, ap, ◌∙◌, subst, Option, None, Result, Ok, Err}
use Rattle.std.specs.Result.{IsErr, IsErrAnd}
use Rattle.std.proofs.lemmas.List.{take-append-drop}
use Rattle.pitch_io.specs.Putting.{Grows}
use Rattle.stream_print.specs.Putting.{PutsSome}
use Rattle.stream_print.specs.Told.{between}
use Rattle.stream_print.proofs.Flow.{grows_none}
use Rattle.stream_print.proofs.Printing.{puts_so_far}
use Rattle.live_net.specs.LiveCalls.{LiveCall, AddsLiveCall, Receive}
use Rattle.live_net.specs.declared.net.Received.TheVariants as received
use Rattle.live_turns.specs.Due.{IsMade}
use Rattle.live_turns.specs.declared.due.Due.{Due}
use Rattle.live_units.specs.Coming.{BeginsLiveText, LiveSetup, UnitCame, live_lines, with_datagram}
use Rattle.live_units.specs.Units.{HasGrown, LiveEnds, LiveStands, OfLive}
use Rattle.stream_print.specs.declared.failure.PrintError.{PrintError}
use Rattle.stream_print.specs.declared.failure.PrintError.TheVariants as printing
use Rattle.live_units.specs.declared.units.LiveUnits.{LiveUnits}
use Rattle.live_units.proofs.Ending.{begins_lines}
use Rattle.live_units.proofs.Hearing.{heard_begun, heard_none}
use Rattle.live_recovery.specs.Disagreeing.{first_disagreement}
use Rattle.live_recovery.specs.layers.Failures.{unheard}
use Rattle.live_recovery.specs.Recovering.{AddsRun, HasFailed, RecoverEnds}
use Rattle.live_recovery.specs.Running.{Brings, Now, Runs, Setup, at_first, ends_now, had_come}
use Rattle.live_recovery.specs.Standing.{Agree, Devices, FailsHearing, IsAbout, IsAtEnd, NamesNoDevice, Stands, Steps, now_of}
use Rattle.live_recovery.specs.declared.counts.Counts.{Counts}
use Rattle.live_recovery.specs.declared.error.RecoverError.{RecoverError}
use Rattle.live_recovery.specs.declared.error.RecoverError.TheVariants as errors
use Rattle.live_recovery.specs.declared.recovering.Recovering.{Recovering}
use Rattle.live_recovery.proofs.Bringing.{same_still}
use Rattle.live_recovery.proofs.Disagreeing.{of_no_venue}
use Rattle.live_recovery.proofs.Going.{adds_more, adds_none, runs_on, shows_on}
use Rattle.live_recovery.proofs.Showing.{HasShown, WritesBy, shown_more}

-- ---- Runs that end
-- where no device but the sink failed, a prefix of the whole text was written
abbrev pub LeavesPrefix : RecoverError → Type 0
LeavesPrefix errors.Net = ⊥
LeavesPrefix errors.Write = Unit {0}
LeavesPrefix errors.OutOfMemory = Unit {0}
LeavesPrefix (errors.Disagree d) = ⊥

abbrev Ends : Setup → Result Counts RecoverError → Devices → Devices → Type 0
Ends s answer start now = RecoverEnds s answer start.calls now.calls (between start.written now.written)

module _ (s : Setup) (start now : Devices) (run : List LiveCall) (at : Now) (adds : AddsRun run start.calls now.calls) (runs : Runs s run at) (shown : HasShown start.written now.written (live_lines s.listens (had_come s run at runs))) where
  -- memory ran out, or the sink failed
  pub ends_text : (e : RecoverError) → LeavesPrefix e → (text : List ℕ) → BeginsLiveText s.listens at.came text → Grows start.written now.written text → Ends s (Err e) start now
  ends_text errors.Net not text begins grows = absurd not
  ends_text (errors.Disagree d) not text begins grows = absurd not
  ends_text errors.Write not text begins grows = record { run = run; now = at; text = text; is_run = record { adds = adds; runs = runs; writes = grows; shows = shown }; is_end = begins }
  ends_text errors.OutOfMemory not text begins grows = record { run = run; now = at; text = text; is_run = record { adds = adds; runs = runs; writes = grows; shows = shown }; is_end = begins }

  pub ends_puts : (e : RecoverError) → LeavesPrefix e → PutsSome start.written now.written (live_lines s.listens at.came) → Ends s (Err e) start now
  ends_puts e not puts =
      let lines : List ℕ = live_lines s.listens at.came in
      ends_text e not (take puts.count lines) (begins_lines s.listens at.came (take puts.count lines) (drop puts.count lines) (sym (take-append-drop puts.count lines))) puts.grows

  -- the net failed, and all lines were written
  pub ends_cut_off : HasFailed run → first_disagreement at.came ≡ None → Grows start.written now.written (live_lines s.listens at.came) → Ends s (Err errors.Net) start now
  ends_cut_off failed agreed grows = record {
    run = run;
    now = at;
    text = live_lines s.listens at.came;
    is_run = record { adds = adds; runs = runs; writes = grows; shows = shown };
    is_end = record { failed = failed; agreed = agreed; text_is = refl };
  }

-- ---- By a call
module _ (s : Setup) (start now : Devices) (r : Recovering) (what : Due) (about : IsAbout s start now r what) (call : LiveCall) (made : IsMade (ends_now s (now_of about.came r.units)) what call) (now' : Devices)
    (adds : AddsLiveCall now.calls now'.calls call) (at : Now) (brings : Brings s call (now_of about.came r.units) at) (writes : WritesBy s call start.written now.written now'.written about.came) where
  pub ends_by_puts : (e : RecoverError) → LeavesPrefix e → PutsSome start.written now'.written (live_lines s.listens at.came) → Ends s (Err e) start now'
  ends_by_puts = ends_puts s start now' (call ∷ about.run) at (adds_more about.run call start.calls now.calls now'.calls about.stands.adds adds) (runs_on s start now r what about call made at brings) (shows_on s start now r what about call made now'.written at brings writes)

  pub ends_by_failing : HasFailed (call ∷ about.run) → first_disagreement at.came ≡ None → Grows start.written now'.written (live_lines s.listens at.came) → Ends s (Err errors.Net) start now'
  ends_by_failing = ends_cut_off s start now' (call ∷ about.run) at (adds_more about.run call start.calls now.calls now'.calls about.stands.adds adds) (runs_on s start now r what about call made at brings) (shows_on s start now r what about call made now'.written at brings writes)

-- ---- By a datagram that is not heard
pub fails_hearing : (e : RecoverError) (s : LiveSetup) (start now : Option (List ℕ)) (bytes : List ℕ) (came : List UnitCame) → LeavesPrefix e → PutsSome start now (live_lines s (with_datagram s bytes came)) → FailsHearing e s start now bytes came
fails_hearing errors.Net s start now bytes came not puts = absurd not
fails_hearing errors.Write s start now bytes came not puts = puts
fails_hearing errors.OutOfMemory s start now bytes came not puts = puts
fails_hearing (errors.Disagree d) s start now bytes came not puts = absurd not

-- whatever led here
abbrev pub FailsAt : RecoverError → Recovering → LiveSetup → Option (List ℕ) → Option (List ℕ) → List ℕ → Type 0
FailsAt e r s w z bytes = (start : Option (List ℕ)) (came : List UnitCame) → LiveStands s start w r.units came → Agree r.copies came → FailsHearing e s start z bytes came

pub fails_at : (e : RecoverError) (r : Recovering) (s : LiveSetup) (w z : Option (List ℕ)) (bytes : List ℕ) → LeavesPrefix e
    → ((start : Option (List ℕ)) (came : List UnitCame) → LiveStands s start w r.units came → PutsSome start z (live_lines s (with_datagram s bytes came))) → FailsAt e r s w z bytes
fails_at e r s w z bytes prefix puts = λ start came st agree. fails_hearing e s start z bytes came prefix (puts start came st)

-- a prefix of the lines of what came before is one of all lines with those of the datagram
pub puts_still : (l : LiveUnits) (w z : Option (List ℕ)) (bytes : List ℕ) → OfLive l w (λ s start came. PutsSome start z (live_lines s came)) → OfLive l w (λ s start came. PutsSome start z (live_lines s (with_datagram s bytes came)))
puts_still l w z bytes puts = heard_begun l l w w bytes bytes 0 0 (heard_none l w bytes bytes refl) z puts

pub puts_printed : (l : LiveUnits) (w : Option (List ℕ)) → OfLive l w (λ s start came. PutsSome start w (live_lines s came))
puts_printed l w s start came st = puts_so_far start w [] l.page.text (live_lines s came) st.printed

module _ (s : Setup) (start now : Devices) (r : Recovering) (what : Due) (about : IsAbout s start now r what) (line room n : ℕ) (bytes : List ℕ) where
  abbrev brought : LiveCall
  brought = Receive line room bytes (received.Got n)

  abbrev then : Now
  then = record { came = with_datagram s.listens bytes about.came; waits = (now_of about.came r.units).waits }

  module _ (made : IsMade (ends_now s (now_of about.came r.units)) what brought) (now' : Devices) (adds : AddsLiveCall now.calls now'.calls brought) (grown : HasGrown now.written now'.written) where
    brings : Brings s brought (now_of about.came r.units) then
    brings = record { came_is = refl; waits = λ unit session. refl }

    pub ends_unheard : (e : RecoverError) → FailsHearing e s.listens start.written now'.written bytes about.came → Ends s (Err e) start now'
    ends_unheard errors.Net fails = absurd fails
    ends_unheard errors.Write puts = ends_by_puts s start now r what about brought made now' adds then brings grown errors.Write tt puts
    ends_unheard errors.OutOfMemory puts = ends_by_puts s start now r what about brought made now' adds then brings grown errors.OutOfMemory tt puts
    ends_unheard (errors.Disagree d) (told, grows) = record {
      run = brought ∷ about.run;
      now = then;
      text = live_lines s.listens about.came;
      is_run = record { adds = adds_more about.run brought start.calls now.calls now'.calls about.stands.adds adds; runs = runs_on s start now r what about brought made then brings; writes = grows; shows = shows_on s start now r what about brought made now'.written then brings grown };
      is_end = record { before = about.came; datagram = bytes; last = refl; came_is = refl; told = told; text_is = refl; of_none = λ V honest. of_no_venue s.listens V then.came d told honest };
    }

-- ---- With no call more
module _ (s : Setup) (start now : Devices) (r : Recovering) (run : List LiveCall) (came : List UnitCame) (st : Stands s start now r run came) where
  -- the sink failed while the page was written out
  pub ends_unflushed : (now' : Devices) → now'.calls ≡ now.calls → HasGrown now.written now'.written → PutsSome start.written now'.written (live_lines s.listens came) → Ends s (Err errors.Write) start now'
  ends_unflushed now' same grown puts =
      ends_puts s start now' run (now_of came r.units) (subst (AddsRun run start.calls) (sym same) st.adds) st.runs (shown_more start.written now.written now'.written (live_lines s.listens (had_come s run (now_of came r.units) st.runs)) st.shown grown) errors.Write tt puts

  -- no memory is left
  pub ends_spent : Ends s (Err errors.OutOfMemory) start now
  ends_spent = ends_puts s start now run (now_of came r.units) st.adds st.runs st.shown errors.OutOfMemory tt (puts_so_far start.written now.written [] r.units.page.text (live_lines s.listens came) st.units.printed)

-- ---- The books
pub leaves_prefix : (e : PrintError) → LeavesPrefix (unheard e)
leaves_prefix printing.Write = tt
leaves_prefix printing.OutOfMemory = tt

module _ (s : Setup) (start now : Devices) (r : Recovering) (end : IsAtEnd s start now r) (now' : Devices) (same : now'.calls ≡ now.calls) (grown : HasGrown now.written now'.written) where
  shown_still : HasShown start.written now'.written (live_lines s.listens (had_come s end.run (now_of end.came r.units) end.stands.runs))
  shown_still = shown_more start.written now.written now'.written (live_lines s.listens (had_come s end.run (now_of end.came r.units) end.stands.runs)) end.stands.shown grown

  adds_still : AddsRun end.run start.calls now'.calls
  adds_still = subst (AddsRun end.run start.calls) (sym same) end.stands.adds

  pub ends_done : LiveEnds s.listens end.came start.written now'.written (Ok tt) → Ends s (Ok r.counts) start now'
  ends_done ends = record {
    run = end.run;
    now = now_of end.came r.units;
    text = ends.0;
    is_run = record { adds = adds_still; runs = end.stands.runs; writes = ends.1.1; shows = shown_still };
    is_end = record { over = end.over; agreed = end.stands.agree.none; text_is = ends.1.0; counts_are = end.stands.counts };
  }

  pub ends_unbooked : (e : PrintError) → LiveEnds s.listens end.came start.written now'.written (Err e) → Ends s (Err (unheard e)) start now'
  ends_unbooked e ends = ends_text s start now' end.run (now_of end.came r.units) adds_still end.stands.runs shown_still (unheard e) (leaves_prefix e) ends.0 ends.1.0 ends.1.1

-- ---- Before the first call
pub ends_none : (s : Setup) (calls : Option (List LiveCall)) (w : Option (List ℕ)) → RecoverEnds s (Err errors.OutOfMemory) calls calls (between w w)
ends_none s calls w = record {
  run = [];
  now = at_first;
  text = [];
  is_run = record { adds = adds_none calls; runs = same_still at_first; writes = grows_none w; shows = ([], grows_none w) };
  is_end = begins_lines s.listens [] [] [] refl;
}

-- ---- The answer of a `?` is its error
pub ends_same : (s : Setup) (answer : Result Counts RecoverError) (error : RecoverError) (calls calls' : Option (List LiveCall)) (a b : Option (List ℕ)) → IsErr answer × IsErrAnd answer (λ e. e ≡ error)
    → RecoverEnds s (Err error) calls calls' (between a b) → RecoverEnds s answer calls calls' (between a b)
ends_same s (Ok done) error calls calls' a b is ends = absurd (true≢false (sym is.0))
ends_same s (Err e) error calls calls' a b is ends = subst (λ (x : RecoverError). RecoverEnds s (Err x) calls calls' (between a b)) (sym is.1) ends

pub steps_same : (s : Setup) (answer : Result Bool RecoverError) (error : RecoverError) (start now : Devices) (r : Recovering) → IsErr answer × IsErrAnd answer (λ e. e ≡ error) → Ends s (Err error) start now → Steps s answer start now r
steps_same s (Ok done) error start now r is ends = absurd (true≢false (sym is.0))
steps_same s (Err e) error start now r is ends = subst (λ (x : RecoverError). Ends s (Err x) start now) (sym is.1) ends

-- an answer that names no device
pub done_names_none : {A : Type 0} (x : A) → NamesNoDevice (Ok x)
done_names_none {A} x = (no errors.Net, no errors.Write)
  where
    no : (e : RecoverError) → ◌≡◌ {A = Result A RecoverError} (Ok x) (Err e) → ⊥
    no e is = cc

-- the error that a `?` answers is that of the call
pub same_answer : {A : Type 0} (answer : Result A RecoverError) (error other : RecoverError) → IsErr answer × IsErrAnd answer (λ e. e ≡ error) → answer ≡ Err other → error ≡ other
same_answer (Ok done) error other is e = absurd (true≢false (sym is.0))
same_answer {A} (Err x) error other is e = sym is.1 ∙ same x other e
  where
    same : (x y : RecoverError) → ◌≡◌ {A = Result A RecoverError} (Err x) (Err y) → x ≡ y
    same x y e = cc

pub names_same : {A B : Type 0} (answer : Result A RecoverError) (error : RecoverError) → IsErr answer × IsErrAnd answer (λ e. e ≡ error) → NamesNoDevice answer → NamesNoDevice {A = B} (Err error)
names_same (Ok done) error is none = absurd (true≢false (sym is.0))
names_same {A} {B} (Err x) error is none = (λ e. none.0 (ap Err (is.1 ∙ same error errors.Net e)), λ e. none.1 (ap Err (is.1 ∙ same error errors.Write e)))
  where
    same : (x y : RecoverError) → ◌≡◌ {A = Result B RecoverError} (Err x) (Err y) → x ≡ y
    same x y e = cc
