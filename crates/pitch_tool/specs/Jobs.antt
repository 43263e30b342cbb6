-- The job of a form: what is wrong with its input, and how it ends.
use Rattle.std.specs.Prelude.{Bool, true, false, ◌≡◌, ◌+◌, ℕ, List, Option, None, Some, Result, Ok}
use Rattle.std.specs.Prelude.{Err, option_map}
use Rattle.pitch_fields.specs.Limits.{text_limit}
use Rattle.pitch_words.specs.declared.form.Carried.{Carried}
use Rattle.pitch_words.specs.declared.form.Carried.TheVariants as carried
use Rattle.pitch_words.specs.declared.form.Form.{Form}
use Rattle.pitch_words.specs.declared.form.Form.TheVariants.{Stream, Text, Storm, Drill, Demo}
use Rattle.pitch_words.specs.declared.form.Form.TheVariants.{Audit}
use Rattle.pitch_words.specs.declared.form.StreamWords.{StreamWords}
use Rattle.pitch_words.specs.declared.form.StreamWords.TheVariants as words
use Rattle.stream_print.specs.Inputs.{stream_limit, trouble_of, StopsSoon, StreamEnds}
use Rattle.stream_print.specs.Told.{Told, IsUntouched}
use Rattle.stream_print.specs.declared.carrier.Carrier.{Carrier}
use Rattle.stream_print.specs.declared.carrier.Carrier.TheVariants.{Bare, Capture}
use Rattle.stream_print.specs.declared.failure.StreamFailure.{StreamFailure}
use Rattle.stream_print.specs.declared.failure.StreamFailure.TheVariants as stream
use Rattle.stream_print.specs.declared.stream_form.StreamForm.{StreamForm}
use Rattle.stream_print.specs.declared.stream_form.StreamForm.TheVariants.{Follow, Show, Relay}
use Rattle.stream_print.specs.declared.stream_form.StreamForm.TheVariants.{Quotes}
use Rattle.pitch_tool.specs.AuditForm.{audit_trouble, AuditEnds}
use Rattle.pitch_tool.specs.DemoForm.{DemoEnds}
use Rattle.pitch_tool.specs.Devices.{Wires}
use Rattle.pitch_tool.specs.DrillForm.{DrillEnds}
use Rattle.pitch_tool.specs.StormForm.{StormEnds}
use Rattle.pitch_tool.specs.TextForms.{text_trouble, TextEnds}
use Rattle.pitch_tool.specs.declared.failure.Failure.{Failure}
use Rattle.pitch_tool.specs.declared.failure.Failure.TheVariants.{BadInput, Read, Write}
use Rattle.pitch_tool.specs.declared.failure.Failure.TheVariants.{OutOfMemory}
use Rattle.pitch_tool.specs.declared.failure.Trouble.{Trouble}
use Rattle.pitch_tool.specs.declared.failure.Trouble.TheVariants.{Blocks, SequencesSpent}

-- what carries a stream
abbrev pub carrier_of : Carried → Carrier
carrier_of carried.Bare = Bare
carrier_of (carried.Capture port) = Capture port

-- what is printed of it
abbrev pub printed_of : StreamWords → StreamForm
printed_of (words.Follow hold) = Follow hold
printed_of words.Show = Show
printed_of (words.Relay hold) = Relay hold
printed_of (words.Quotes hold) = Quotes hold

-- how many bytes of the source a job takes at most: one more than it reads
abbrev pub most_taken : Form → ℕ
most_taken (Stream carried form) = stream_limit + 1
most_taken (Text form) = text_limit + 1
most_taken (Storm number units steps workers) = 0
most_taken (Drill number units count) = 0
most_taken (Demo number count) = 0
most_taken Audit = stream_limit + 1

-- a job that reads a stream takes less than a piece behind the byte with which a trouble shows; one
-- that reads a text takes all of it, and the others take nothing
abbrev pub StopsInTime : Form → Told → Type 0
StopsInTime (Stream carried form) input = StopsSoon (carrier_of carried) input
StopsInTime form input = Unit {0}

-- what is wrong with the input of a job: nothing, where it reads none
abbrev pub trouble_in : Form → List ℕ → Option Trouble
trouble_in (Stream carried form) bytes =
    option_map Blocks (trouble_of (carrier_of carried) stream_limit bytes)
trouble_in (Text form) bytes = text_trouble form text_limit bytes
trouble_in (Storm number units steps workers) bytes = None
trouble_in (Drill number units count) bytes = None
trouble_in (Demo number count) bytes = None
trouble_in Audit bytes = audit_trouble stream_limit bytes

-- a source tells its bytes, and a job has this to say of them; a job that reads nothing finds
-- nothing wrong, whatever the source tells
abbrev pub Judges : Form → Option (List ℕ) → Option Trouble → Type 0
Judges (Storm number units steps workers) left trouble = trouble ≡ None
Judges (Drill number units count) left trouble = trouble ≡ None
Judges (Demo number count) left trouble = trouble ≡ None
Judges form left trouble =
    (bytes : List ℕ) × (left ≡ Some bytes) × (trouble_in form bytes ≡ trouble)

-- how a job that reads a stream ends, by how the stream does
abbrev pub EndsBy : (Result (Unit {0}) StreamFailure → Type 0) → Result (Unit {0}) Failure → Type 0
EndsBy Ends (Ok done) = Ends (Ok done)
EndsBy Ends (Err (BadInput (Blocks trouble))) = Ends (Err (stream.BadInput trouble))
EndsBy Ends (Err (BadInput SequencesSpent)) = Ends (Err stream.SequencesSpent)
EndsBy Ends (Err Read) = Ends (Err stream.Read)
EndsBy Ends (Err Write) = Ends (Err stream.Write)
EndsBy Ends (Err OutOfMemory) = Ends (Err stream.OutOfMemory)
EndsBy Ends (Err _) = ⊥

-- how a job ends: what was read of the source and written to the sink, and what the net lists
abbrev pub JobEnds : Form → Result (Unit {0}) Failure → (input out : Told) → Wires → Type 0
JobEnds (Stream carried form) result input out net = EndsBy
    (λ r. StreamEnds (carrier_of carried) (printed_of form) stream_limit r input out) result
JobEnds (Text form) result input out net = TextEnds form text_limit result input out
JobEnds (Storm number units steps workers) result input out net =
    IsUntouched input × StormEnds number units steps result out
JobEnds (Drill number units count) result input out net =
    IsUntouched input × DrillEnds number units count result out
JobEnds (Demo number count) result input out net =
    IsUntouched input × DemoEnds number count result out net
JobEnds Audit result input out net = AuditEnds stream_limit result input out

-- whether a job uses the net
abbrev pub uses_net : Form → Bool
uses_net (Demo number count) = true
uses_net form = false
