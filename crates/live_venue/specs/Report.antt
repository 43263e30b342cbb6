-- The books of a venue's units, which are reported once a run is over.
use Rattle.std.specs.Prelude.{◌≡◌, ℕ, Bool, List, [], length, slice_get, is_some}
use Rattle.std.specs.Prelude.{Option, None, Some, Result, Ok, Err}
use Rattle.std.specs.List.{flat_map}
use Rattle.std.specs.Option.{option_map_or}
use Rattle.pitch_io.specs.Putting.{Grows}
use Rattle.pitch_model.specs.Book.{book_after}
use Rattle.pitch_model.specs.History.{Raw}
use Rattle.feed_lines.specs.BookText.{book_text}
use Rattle.stream_print.specs.Putting.{PutsSome}
use Rattle.stream_print.specs.Rising.{named_below}
use Rattle.stream_print.specs.declared.failure.PrintError.{PrintError}
use Rattle.stream_print.specs.declared.failure.PrintError.TheVariants as printing
use Rattle.venue_end.specs.declared.setup.VenueSetup.{VenueSetup}
use Rattle.venue_net.specs.VenueCalls.{VenueCall}
use Rattle.venue_units.specs.Coming.{UnitCame, state_at}
use Rattle.live_venue.specs.Input.{index_of}
use Rattle.live_venue.specs.Serving.{ServeEnds}
use Rattle.live_venue.specs.declared.error.ReportError.{ReportError}
use Rattle.live_venue.specs.declared.error.ReportError.TheVariants.{Serve, Write}
use Rattle.live_venue.specs.declared.error.ServeError.{ServeError}
use Rattle.live_venue.specs.declared.error.ServeError.TheVariants as errors
use Rattle.live_venue.specs.declared.fault.InputFault.{InputFault}

-- ---- Books
-- the book that all these messages of a unit leave
abbrev pub whole_book : ℕ → List Raw → List ℕ
whole_book unit messages = book_text unit (length messages) (book_after messages)

-- the book of the unit at an index: of all messages that it accepted
abbrev pub served_book : List VenueSetup → List UnitCame → ℕ → List ℕ
served_book s came at = option_map_or
    (λ setup. whole_book setup.unit (state_at setup at came).messages) (slice_get s at) []

-- a unit of this number is served; the book of the first that is
abbrev pub is_served : List VenueSetup → ℕ → Bool
is_served s unit = is_some (index_of s unit)

abbrev pub numbered_book : List VenueSetup → List UnitCame → ℕ → List ℕ
numbered_book s came unit = option_map_or (served_book s came) (index_of s unit) []

-- the books of the units below a number that are served, by rising number
abbrev pub reported_below : ℕ → List VenueSetup → List UnitCame → List ℕ
reported_below count s came = flat_map (numbered_book s came) (named_below (is_served s) count)

-- of all units, each of which is named by one byte
abbrev pub report_text : List VenueSetup → List UnitCame → List ℕ
report_text s came = reported_below 256 s came

-- ---- The end of a run with a report
-- how the run itself ended
abbrev pub run_answer : Result (Unit {0}) ReportError → Result (Unit {0}) ServeError
run_answer (Ok done) = Ok done
run_answer (Err (Serve error)) = Err error
run_answer (Err (Write None)) = Ok tt
run_answer (Err (Write (Some fault))) = Err (errors.Input fault)

-- the report could not be written
abbrev pub IsUnwritten : Result (Unit {0}) ReportError → Type 0
IsUnwritten (Err (Write fault)) = Unit {0}
IsUnwritten answer = ⊥

-- why there is none behind a run that ended with this fault, or with none, by what was wrong with
-- its text
abbrev pub unreported : Option InputFault → PrintError → ReportError
unreported fault printing.Write = Write fault
unreported fault printing.OutOfMemory = Serve errors.OutOfMemory

-- what was written of the report, by the answer: all of it where the run was over and where the
-- input has a fault, nothing where the net failed, and else some prefix
abbrev pub IsReported : Result (Unit {0}) ReportError
    → List ℕ → Option (List ℕ) → Option (List ℕ) → Type 0
IsReported (Ok done) report old new = Grows old new report
IsReported (Err (Serve (errors.Input fault))) report old new = Grows old new report
IsReported (Err (Serve errors.Net)) report old new = new ≡ old
IsReported (Err (Serve errors.OutOfMemory)) report old new = PutsSome old new report
IsReported (Err (Write fault)) report old new = PutsSome old new report

-- there is a run that ended so, and this was written of the books that its units had then
pub record ReportEnds (s : List VenueSetup) (result : Result (Unit {0}) ReportError)
    (calls calls' : Option (List VenueCall)) (old new : Option (List ℕ)) : Type 0 where
  pub ends : ServeEnds s (run_answer result) calls calls'
  pub reported : IsReported result (report_text s ends.now.came) old new
