-- A piece of which a prefix is kept, as far as the limit of an input goes.
use Rattle.std.proofs.Common.{◌≡◌, ℕ, ◌+◌, ◌-◌, ◌≤◌, ◌<◌, true≢false, min, List, [], ◌++◌, length, take, drop, reverse, sym, ap, ◌∙◌, subst, arith, append_assoc, length-append, Option, Some, None, Result, Ok, Err}
use Rattle.std.specs.Io.KnownBytes.{Consumes}
use Rattle.std.specs.Result.{IsErr, IsErrAnd}
use Rattle.std.proofs.lemmas.List.{append-nil, take-append-drop, length-take, length-drop}
use Rattle.std.proofs.Math.ListN.{drop_of_length-le}
use Rattle.pitch_io.specs.Putting.{Grows}
use Rattle.stream_print.specs.Carriers.{carried_blocks}
use Rattle.stream_print.specs.layers.Failures.{undone}
use Rattle.stream_print.specs.layers.Feeding.{Fed, StreamFeeds}
use Rattle.stream_print.specs.Inputs.{lasting_trouble, StreamEnds, Refuses, WritesSome}
use Rattle.stream_print.specs.Knowing.{task_form}
use Rattle.stream_print.specs.Printing.{PrintsPiece, Fails, FailsBlocks}
use Rattle.stream_print.specs.Putting.{PutsSome}
use Rattle.stream_print.specs.Sinks.{PutsSuch}
use Rattle.stream_print.specs.Readers.{blocks_with}
use Rattle.stream_print.specs.Texts.{BeginTexts}
use Rattle.stream_print.specs.Told.{between}
use Rattle.stream_print.specs.declared.carrier.Carrier.{Carrier}
use Rattle.stream_print.specs.declared.failure.TaskError.{TaskError}
use Rattle.stream_print.specs.declared.failure.TaskError.TheVariants.{SequencesSpent, Write, OutOfMemory}
use Rattle.stream_print.specs.declared.failure.StreamFailure.{StreamFailure}
use Rattle.stream_print.specs.declared.failure.StreamTrouble.{StreamTrouble}
use Rattle.stream_print.specs.declared.failure.StreamTrouble.TheVariants.{TooLong}
use Rattle.stream_print.specs.declared.printer.Printer.{Printer}
use Rattle.stream_print.specs.declared.reader.StreamReader.{StreamReader}
use Rattle.stream_print.specs.declared.stream_form.StreamForm.{StreamForm}
use Rattle.stream_print.proofs.Feeding.{fed_piece, fed_fails, fed_unflushed, never_spent, puts_texts, writes_texts, refuses_lasting, refuses_long}

pub whole : (k : ℕ) (bytes piece : List ℕ) → (bytes ++ take k piece) ++ drop k piece ≡ bytes ++ piece
whole k bytes piece = append_assoc bytes (take k piece) (drop k piece) ∙ ap (λ (l : List ℕ). bytes ++ l) (take-append-drop k piece)

-- what was kept
pub fed_kept : (k : ℕ) (carrier : Carrier) (f g h : Printer) (start u v w : Option (List ℕ)) (r s : StreamReader) (bytes piece : List ℕ) → Fed carrier (task_form f.task) start u f r bytes
    → PrintsPiece f g r s (take k piece) u v → Grows v w g.page.text → h ≡ record g { page = record g.page { text = [] } } → Fed carrier (task_form f.task) start w h s (bytes ++ take k piece)
fed_kept k carrier f g h start u v w r s bytes piece fed prints grows emptied =
    fed_piece carrier (task_form f.task) start u v w f g h r s bytes (take k piece) fed prints grows emptied

-- some prefix of the texts of what was kept is some prefix of those of the piece
writes_kept : (k : ℕ) (carrier : Carrier) (form : StreamForm) (first now start v : Option (List ℕ)) (bytes piece : List ℕ) → Consumes first now (bytes ++ piece) → PutsSuch (BeginTexts form (carried_blocks carrier (bytes ++ take k piece))) start [] v
    → WritesSome carrier form (between first now) (between start v)
writes_kept k carrier form first now start v bytes piece read puts =
    writes_texts carrier form first now start v (bytes ++ piece) read
    (subst (λ (l : List ℕ). PutsSuch (BeginTexts form (carried_blocks carrier l)) start [] v) (whole k bytes piece) (puts_texts carrier form start v (bytes ++ take k piece) (drop k piece) puts))

-- the piece was not printed whole
pub kept_fails : (k : ℕ) (carrier : Carrier) (f : Printer) (e : TaskError) (most : ℕ) (first now start u v : Option (List ℕ)) (r : StreamReader) (bytes piece : List ℕ) → k + length bytes ≤ 1073741824 → Fed carrier (task_form f.task) start u f r bytes
    → Consumes first now (bytes ++ piece) → FailsBlocks e f u v (blocks_with r (take k piece)) → StreamEnds carrier (task_form f.task) most (Err (undone e)) (between first now) (between start v)
kept_fails k carrier f e most first now start u v r bytes piece small fed read fails = by e (fails (reverse (carried_blocks carrier bytes)) fed.known)
  where
    by : (e : TaskError) → Fails e (task_form f.task) (reverse (carried_blocks carrier bytes)) (blocks_with r (take k piece)) u f.page.text v → StreamEnds carrier (task_form f.task) most (Err (undone e)) (between first now) (between start v)
    by SequencesSpent spent =
        never_spent carrier (task_form f.task) start u f r bytes (take k piece) fed (omega (arith, length-append bytes (take k piece), length-take k piece, small)) spent
    by Write puts = writes_kept k carrier (task_form f.task) first now start v bytes piece read (fed_fails carrier (task_form f.task) start u v f r bytes (take k piece) fed puts)
    by OutOfMemory puts = writes_kept k carrier (task_form f.task) first now start v bytes piece read (fed_fails carrier (task_form f.task) start u v f r bytes (take k piece) fed puts)

-- or the sink failed when the page was written out
pub kept_unflushed : (k : ℕ) (carrier : Carrier) (f g : Printer) (first now start u v w : Option (List ℕ)) (r s : StreamReader) (bytes piece : List ℕ) → Fed carrier (task_form f.task) start u f r bytes
    → PrintsPiece f g r s (take k piece) u v → Consumes first now (bytes ++ piece) → PutsSome v w g.page.text → WritesSome carrier (task_form f.task) (between first now) (between start w)
kept_unflushed k carrier f g first now start u v w r s bytes piece fed prints read puts =
    writes_kept k carrier (task_form f.task) first now start w bytes piece read (fed_unflushed carrier (task_form f.task) start u v w f g r s bytes (take k piece) fed prints puts)

-- a trouble in what was kept
pub kept_faulty : (k : ℕ) (carrier : Carrier) (form : StreamForm) (g : Printer) (first now start w : Option (List ℕ)) (s : StreamReader) (bytes piece : List ℕ) (trouble : StreamTrouble) → k + length bytes ≤ 1073741824
    → Fed carrier form start w g s (bytes ++ take k piece) → Consumes first now (bytes ++ piece) → lasting_trouble carrier (bytes ++ take k piece) ≡ Some trouble → Refuses carrier form 1073741824 trouble (between first now) (between start w)
kept_faulty k carrier form g first now start w s bytes piece trouble small fed read is =
    refuses_lasting carrier form 1073741824 first now start w (bytes ++ take k piece) (drop k piece) trouble (omega (arith, length-append bytes (take k piece), length-take k piece, small))
    (subst (Consumes first now) (sym (whole k bytes piece)) read) is fed.wrote

-- more than is kept
pub kept_long : (carrier : Carrier) (form : StreamForm) (g : Printer) (first now start w : Option (List ℕ)) (s : StreamReader) (bytes piece : List ℕ) (k : ℕ) → length bytes ≤ 1073741824 → k ≡ min (length piece) (1073741824 - length bytes)
    → k < length piece → Fed carrier form start w g s (bytes ++ take k piece) → Consumes first now (bytes ++ piece) → lasting_trouble carrier (bytes ++ take k piece) ≡ None → Refuses carrier form 1073741824 TooLong (between first now) (between start w)
kept_long carrier form g first now start w s bytes piece k small is more fed read none =
    refuses_long carrier form 1073741824 first now start w (bytes ++ take k piece) (drop k piece) (omega (arith, length-append bytes (take k piece), length-take k piece, small, is, more))
    (omega (arith, length-drop k piece, more))
    (subst (Consumes first now) (sym (whole k bytes piece)) read) none fed.wrote

-- all of it was kept
kept_is : (k : ℕ) (bytes piece : List ℕ) → length piece ≤ k → bytes ++ take k piece ≡ bytes ++ piece
kept_is k bytes piece le = sym (append-nil (bytes ++ take k piece)) ∙ ap (λ (l : List ℕ). (bytes ++ take k piece) ++ l) (sym (drop_of_length-le piece le)) ∙ whole k bytes piece

pub kept_all : (k : ℕ) (carrier : Carrier) (form : StreamForm) (g : Printer) (start v : Option (List ℕ)) (s : StreamReader) (bytes piece : List ℕ) → length piece ≤ k → Fed carrier form start v g s (bytes ++ take k piece)
    → lasting_trouble carrier (bytes ++ take k piece) ≡ None → Fed carrier form start v g s (bytes ++ piece) × (lasting_trouble carrier (bytes ++ piece) ≡ None)
kept_all k carrier form g start v s bytes piece le fed none =
    let all = kept_is k bytes piece le in
    (subst (Fed carrier form start v g s) all fed, ap (lasting_trouble carrier) (sym all) ∙ none)

-- what could not be printed ends the stream
pub feeds_unprinted : (carrier : Carrier) (form : StreamForm) (most : ℕ) (answer : Result (Unit {0}) StreamFailure) (first now start v : Option (List ℕ)) (g : Printer) (s : StreamReader) (bytes : List ℕ) (stop : StreamFailure)
    → IsErr answer × IsErrAnd answer (λ failure. failure ≡ stop) → StreamEnds carrier form most (Err stop) (between first now) (between start v) → StreamFeeds carrier form most answer (between first now) (between start v) g s bytes
feeds_unprinted carrier form most (Ok done) first now start v g s bytes stop is ends = absurd (true≢false (sym is.0))
feeds_unprinted carrier form most (Err failure) first now start v g s bytes stop is ends =
    subst (λ (x : StreamFailure). StreamEnds carrier form most (Err x) (between first now) (between start v)) (sym is.1) ends
