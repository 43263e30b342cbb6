-- A listener between two calls of its net.
use Rattle.std.specs.Prelude.{◌≡◌, ◌≢◌, ◌<◌, ◌+◌, ℕ, List, [], ◌∷◌, ◌++◌, length, filter}
use Rattle.std.specs.Prelude.{Bool, true, false, Option, None, Some, IfSome, Result, Ok, Err}
use Rattle.std.specs.List.{count_by, flat_map}
use Rattle.pitch_io.specs.Putting.{Grows}
use Rattle.unit_packets.specs.Blocks.{Block}
use Rattle.unit_packets.specs.Cutting.{blocks_of}
use Rattle.stream_print.specs.Carriers.{is_faulty}
use Rattle.stream_print.specs.Knowing.{task_form, HasPrinted}
use Rattle.stream_print.specs.Printing.{PrintsBlocks}
use Rattle.stream_print.specs.Told.{between}
use Rattle.stream_print.specs.declared.printer.Printer.{Printer}
use Rattle.stream_print.specs.declared.stream_form.StreamForm.TheVariants.{Follow}
use Rattle.live_net.specs.LineCalls.{LineCall}
use Rattle.live_listen.specs.Due.{Due, Waits, Receives, due, taken_from, is_more_left, AreDue}
use Rattle.live_listen.specs.Due.{most_taken, datagram_room}
use Rattle.live_listen.specs.Heard.{is_wanted, heard_in, datagrams_of}
use Rattle.live_listen.specs.Counting.{is_stray}
use Rattle.live_listen.specs.Listening.{Setup, AddsRun, heard_of, lines_shown, IsOver, ListenEnds}
use Rattle.live_listen.specs.declared.error.ListenError.{ListenError}
use Rattle.live_listen.specs.declared.error.ListenError.TheVariants as errors
use Rattle.live_listen.specs.declared.listener.Listener.{Listener}
use Rattle.live_listen.specs.declared.place.Place.{Place}

-- ---- The call that is due
abbrev pub due_at : Bool → Option ℕ → Due
due_at more None = Waits more
due_at more (Some line) = Receives line datagram_room

-- after such calls this one is due
pub record IsNext (lines : ℕ) (place : Place) (run : List LineCall) : Type 0 where
  pub within : place.taken < most_taken
  pub due_is : due lines run ≡ Some (due_at place.more place.line)
  pub taken_is : IfSome place.line (λ line. place.taken ≡ taken_from line run)
  pub more_is : place.more ≡ is_more_left run

-- ---- Blocks and datagrams that are heard
-- some blocks were heard, or counted as stray
pub record HearsBlocks (units : List ℕ) (l l' : Listener) (written written' : Option (List ℕ))
    (blocks : List Block) : Type 0 where
  pub prints :
      PrintsBlocks l.printer l'.printer written written' (filter (is_wanted units) blocks)
  pub stray : l'.stray ≡ l.stray + count_by (is_stray units) blocks
  pub datagrams : l'.datagrams ≡ l.datagrams
  pub faulty : l'.faulty ≡ l.faulty
  pub place : l'.place ≡ l.place

-- a datagram was heard, and counted
pub record Hears (units : List ℕ) (l l' : Listener) (written written' : Option (List ℕ))
    (datagram : List ℕ) : Type 0 where
  pub prints : PrintsBlocks l.printer l'.printer written written' (heard_in units datagram)
  pub stray : l'.stray ≡ l.stray + count_by (is_stray units) (blocks_of datagram)
  pub datagrams : l'.datagrams ≡ l.datagrams + 1
  pub faulty : l'.faulty ≡ l.faulty + count_by is_faulty (datagram ∷ [])
  pub place : l'.place ≡ l.place

-- ---- A run so far
-- what a net and a sink tell: the calls, the newest first, and the bytes that were written
pub record Devices : Type 0 where
  pub calls : Option (List LineCall)
  pub written : Option (List ℕ)

abbrev pub devices : Option (List LineCall) → Option (List ℕ) → Devices
devices calls written = record { calls = calls; written = written }

-- each call of the run was due; all blocks that came by it were printed, from a printer that had
-- printed none, and counted; the lines of those that came before the last wait were written
pub record Stands (s : Setup) (start now : Devices) (l : Listener) (run : List LineCall)
    : Type 0 where
  pub adds : AddsRun run start.calls now.calls
  pub due_each : AreDue s.lines run
  pub first : Printer
  pub form_is : task_form first.task ≡ Follow s.hold
  pub known : HasPrinted first []
  pub empty : first.page.text ≡ []
  pub prints : PrintsBlocks first l.printer start.written now.written (heard_of s run)
  pub datagrams_are : l.datagrams ≡ length (datagrams_of run)
  pub faulty_are : l.faulty ≡ count_by is_faulty (datagrams_of run)
  pub stray_are : l.stray ≡ count_by (is_stray s.units) (flat_map blocks_of (datagrams_of run))
  pub shown : (more : List ℕ) × Grows start.written now.written (lines_shown s run ++ more)

-- the run goes on
pub record GoesOn (s : Setup) (start now : Devices) (l : Listener) : Type 0 where
  pub run : List LineCall
  pub stands : Stands s start now l run
  pub next : IsNext s.lines l.place run

-- its last call was a wait that was over
pub record IsAtEnd (s : Setup) (start now : Devices) (l : Listener) : Type 0 where
  pub run : List LineCall
  pub stands : Stands s start now l run
  pub over : IsOver run

-- by the answer of a step
abbrev pub Steps : Setup → Result Bool ListenError → (start now : Devices) → Listener → Type 0
Steps s (Ok true) start now l = GoesOn s start now l
Steps s (Ok false) start now l = IsAtEnd s start now l
Steps s (Err error) start now l =
    ListenEnds s (Err error) start.calls now.calls (between start.written now.written)

-- an answer that names no device
abbrev pub NamesNoDevice : {A : Type 0} → Result A ListenError → Type 0
NamesNoDevice result = (result ≢ Err errors.Net) × (result ≢ Err errors.Write)
