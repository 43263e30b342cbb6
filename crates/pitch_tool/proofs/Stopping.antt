-- What the job of a form takes, by any words of that form.
use Rattle.std.proofs.Common.{ℕ, List, Option, subst}
use Rattle.pitch_words.specs.Forms.{IsForm}
use Rattle.pitch_words.specs.declared.form.Form.{Form}
use Rattle.pitch_words.specs.declared.form.Form.TheVariants.{Stream, Text, Storm, Drill, Demo, Audit}
use Rattle.pitch_words.proofs.Exact.{at_most_one}
use Rattle.stream_print.specs.Told.{Told, TakesAtMost, between}
use Rattle.stream_print.proofs.Taking.{stops_none}
use Rattle.pitch_tool.specs.Jobs.{carrier_of, most_taken, StopsInTime}
use Rattle.pitch_tool.specs.Program.{StopsAtTrouble}

-- where nothing is taken, any job stops in time
untaken : (form : Form) (left : Option (List ℕ)) → StopsInTime form (between left left)
untaken (Stream carried form) left = stops_none (carrier_of carried) left
untaken (Text form) left = tt
untaken (Storm number units steps workers) left = tt
untaken (Drill number units count) left = tt
untaken (Demo number count) left = tt
untaken Audit left = tt

pub stops_untaken : (words : List (List ℕ)) (left : Option (List ℕ)) → StopsAtTrouble words (between left left)
stops_untaken words left = λ form is. untaken form left

-- what stops by one form of the words does so by each, since they are one
pub stops_by : (words : List (List ℕ)) (form : Form) (input : Told) → IsForm words form → StopsInTime form input → StopsAtTrouble words input
stops_by words form input is stops = λ other is_other.
    subst (λ (f : Form). StopsInTime f input) (at_most_one words form other is is_other) stops

pub reads_by : (words : List (List ℕ)) (form : Form) (input : Told) → IsForm words form → TakesAtMost (most_taken form) input → (other : Form) → IsForm words other → TakesAtMost (most_taken other) input
reads_by words form input is reads = λ other is_other.
    subst (λ (f : Form). TakesAtMost (most_taken f) input) (at_most_one words form other is is_other) reads
