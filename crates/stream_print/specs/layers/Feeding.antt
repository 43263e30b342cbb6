-- What is known of the bytes of a stream that were fed so far.
use Rattle.std.specs.Prelude.{◌≡◌, ℕ, ◌+◌, ◌*◌, ◌≤◌, List, [], length, reverse, Option, None}
use Rattle.std.specs.Prelude.{Result, Ok, Err}
use Rattle.stream_print.specs.Carriers.{carried_blocks}
use Rattle.stream_print.specs.layers.Suiting.{Suits}
use Rattle.stream_print.specs.Inputs.{lasting_trouble, StreamEnds, WritesTexts}
use Rattle.stream_print.specs.Told.{Told, between}
use Rattle.stream_print.specs.Knowing.{task_form, HasPrinted}
use Rattle.stream_print.specs.Readers.{HasRead, rest_size}
use Rattle.stream_print.specs.declared.carrier.Carrier.{Carrier}
use Rattle.stream_print.specs.declared.failure.StreamFailure.{StreamFailure}
use Rattle.stream_print.specs.declared.printer.Printer.{Printer}
use Rattle.stream_print.specs.declared.reader.StreamReader.{StreamReader}
use Rattle.stream_print.specs.declared.stream_form.StreamForm.{StreamForm}

-- the texts of the whole blocks were written, and nothing of them waits on the page
pub record Fed (carrier : Carrier) (form : StreamForm) (start written : Option (List ℕ))
    (p : Printer) (r : StreamReader) (bytes : List ℕ) : Type 0 where
  pub suits : Suits carrier form
  pub form_is : task_form p.task ≡ form
  pub read : HasRead carrier r bytes
  pub known : HasPrinted p (reverse (carried_blocks carrier bytes))
  pub empty : p.page.text ≡ []
  pub wrote : WritesTexts form (between start written) (carried_blocks carrier bytes)
  pub few : 8 * p.number + rest_size r ≤ length bytes

-- a piece more was fed, and at most bytes are missing, or the stream ends here
abbrev pub StreamFeeds : Carrier → StreamForm → ℕ → Result (Unit {0}) StreamFailure
    → (input out : Told) → Printer → StreamReader → List ℕ → Type 0
StreamFeeds carrier form most (Ok done) input out p r bytes =
    Fed carrier form out.old out.new p r bytes
    × (lasting_trouble carrier bytes ≡ None) × (length bytes ≤ most)
StreamFeeds carrier form most (Err failure) input out p r bytes =
    StreamEnds carrier form most (Err failure) input out
