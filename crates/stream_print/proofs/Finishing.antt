-- The end of a stream.
use Rattle.std.proofs.Common.{◌≡◌, ◌≤◌, ℕ, true≢false, List, [], ◌++◌, length, reverse, sym, ◌∙◌, subst, arith, Option, None, Result, Ok, Err}
use Rattle.std.specs.Result.{IsErr, IsErrAnd}
use Rattle.std.specs.Io.KnownBytes.{Consumes, Keeps, IsAtEnd}
use Rattle.pitch_io.specs.Putting.{Grows}
use Rattle.stream_print.specs.Carriers.{carried_blocks}
use Rattle.stream_print.specs.Told.{between}
use Rattle.stream_print.specs.declared.carrier.Carrier.{Carrier}
use Rattle.stream_print.specs.declared.stream_form.StreamForm.{StreamForm}
use Rattle.stream_print.specs.layers.Feeding.{Fed}
use Rattle.stream_print.specs.Inputs.{lasting_trouble, end_trouble, StreamEnds, WritesAll, WritesSome}
use Rattle.stream_print.specs.Page.{PrintsSuch, Prints}
use Rattle.stream_print.specs.Putting.{PutsSome}
use Rattle.stream_print.specs.Sinks.{PutsSuch}
use Rattle.stream_print.specs.Readers.{packets_text}
use Rattle.stream_print.specs.TextLaws.{IsEnd}
use Rattle.stream_print.specs.declared.printer.Printer.{Printer}
use Rattle.stream_print.specs.declared.reader.StreamReader.{StreamReader}
use Rattle.stream_print.specs.declared.failure.StreamFailure.{StreamFailure}
use Rattle.stream_print.proofs.Carriers.{counts_are}
use Rattle.stream_print.proofs.Feeding.{fed_printed, prints_out, writes_whole, writes_prefix, writes_counts}
use Rattle.stream_print.proofs.Printing.{prints_more, puts_after, puts_then}

-- the end was printed behind the texts of the blocks
end_printed : (carrier : Carrier) (form : StreamForm) (p : Printer) (start u v : Option (List ℕ)) (t : List ℕ) (r : StreamReader) (bytes : List ℕ) → (fed : Fed carrier form start u p r bytes)
    → (q : PrintsSuch (IsEnd form (reverse (carried_blocks carrier bytes))) u p.page.text v t) → Prints start [] v t (fed.wrote.text ++ q.text)
end_printed carrier form p start u v t r bytes fed q = prints_more start u v [] p.page.text t fed.wrote.text q.text (fed_printed carrier form start u p r bytes fed) q.printed

-- all was written
pub ends_whole : (carrier : Carrier) (form : StreamForm) (most : ℕ) (first before now start u v w x : Option (List ℕ)) (p : Printer) (t t' : List ℕ) (r : StreamReader) (bytes : List ℕ) → length bytes ≤ most → most ≤ 1073741824
    → Fed carrier form start u p r bytes → lasting_trouble carrier bytes ≡ None → end_trouble carrier bytes ≡ None → Consumes first before bytes → IsAtEnd before × Keeps before now
    → PrintsSuch (IsEnd form (reverse (carried_blocks carrier bytes))) u p.page.text v t → Prints v t w t' (packets_text r) → Grows w x t' → WritesAll carrier form most (between first now) (between start x)
ends_whole carrier form most first before now start u v w x p t t' r bytes small few fed none sound read end q counts wrote =
    let texts : List ℕ = fed.wrote.text ++ q.text in
    writes_whole carrier form most first before now start x bytes fed.wrote.text q.text (packets_text r) small read end none sound fed.wrote.are_texts q.such (counts_are carrier r bytes texts (omega (arith, small, few)) fed.read)
    (prints_out start w x t' (texts ++ packets_text r) (prints_more start v w [] t t' texts (packets_text r) (end_printed carrier form p start u v t r bytes fed q) counts) wrote)

-- the sink failed at the last page
pub ends_unflushed : (carrier : Carrier) (form : StreamForm) (first before now start u v w x : Option (List ℕ)) (p : Printer) (t t' : List ℕ) (r : StreamReader) (bytes : List ℕ) → length bytes ≤ 1073741824
    → Fed carrier form start u p r bytes → Consumes first now bytes → Consumes first before bytes → IsAtEnd before × Keeps before now
    → PrintsSuch (IsEnd form (reverse (carried_blocks carrier bytes))) u p.page.text v t → Prints v t w t' (packets_text r) → PutsSome w x t' → WritesSome carrier form (between first now) (between start x)
ends_unflushed carrier form first before now start u v w x p t t' r bytes small fed all read end q counts puts =
    let texts : List ℕ = fed.wrote.text ++ q.text in
    writes_counts carrier form first before now start x bytes fed.wrote.text q.text (packets_text r) all read end fed.wrote.are_texts q.such (counts_are carrier r bytes texts small fed.read)
    (puts_after start w x [] t' (texts ++ packets_text r) (prints_more start v w [] t t' texts (packets_text r) (end_printed carrier form p start u v t r bytes fed q) counts) puts)

-- the sink failed at the line of the packets
pub ends_uncounted : (carrier : Carrier) (form : StreamForm) (first before now start u v w : Option (List ℕ)) (p : Printer) (t : List ℕ) (r : StreamReader) (bytes : List ℕ) → length bytes ≤ 1073741824
    → Fed carrier form start u p r bytes → Consumes first now bytes → Consumes first before bytes → IsAtEnd before × Keeps before now
    → PrintsSuch (IsEnd form (reverse (carried_blocks carrier bytes))) u p.page.text v t → PutsSome v w (t ++ packets_text r) → WritesSome carrier form (between first now) (between start w)
ends_uncounted carrier form first before now start u v w p t r bytes small fed all read end q puts =
    let texts : List ℕ = fed.wrote.text ++ q.text in
    writes_counts carrier form first before now start w bytes fed.wrote.text q.text (packets_text r) all read end fed.wrote.are_texts q.such (counts_are carrier r bytes texts small fed.read)
    (puts_then start v w [] t texts (packets_text r) (end_printed carrier form p start u v t r bytes fed q) puts)

-- the sink failed while the end was printed
pub ends_unprinted : (carrier : Carrier) (form : StreamForm) (first before now start u v : Option (List ℕ)) (p : Printer) (r : StreamReader) (bytes : List ℕ)
    → Fed carrier form start u p r bytes → Consumes first now bytes → Consumes first before bytes → IsAtEnd before × Keeps before now
    → PutsSuch (IsEnd form (reverse (carried_blocks carrier bytes))) u p.page.text v → WritesSome carrier form (between first now) (between start v)
ends_unprinted carrier form first before now start u v p r bytes fed all read end q =
    writes_prefix carrier form first before now start v bytes fed.wrote.text q.text all read end fed.wrote.are_texts q.such
    (puts_then start u v [] p.page.text fed.wrote.text q.text (fed_printed carrier form start u p r bytes fed) q.puts)

-- the answer of a `?` is its error
pub ends_same : (carrier : Carrier) (form : StreamForm) (most : ℕ) (answer : Result (Unit {0}) StreamFailure) (stop : StreamFailure) (first now start written : Option (List ℕ)) → IsErr answer × IsErrAnd answer (λ s. s ≡ stop)
    → StreamEnds carrier form most (Err stop) (between first now) (between start written) → StreamEnds carrier form most answer (between first now) (between start written)
ends_same carrier form most (Ok done) stop first now start written is ends = absurd (true≢false (sym is.0))
ends_same carrier form most (Err s) stop first now start written is ends = subst (λ (x : StreamFailure). StreamEnds carrier form most (Err x) (between first now) (between start written)) (sym is.1) ends

pub same_stop : (answer : Result (Unit {0}) StreamFailure) (stop other : StreamFailure) → IsErr answer × IsErrAnd answer (λ s. s ≡ stop) → answer ≡ Err other → stop ≡ other
same_stop (Ok done) stop other is e = absurd (true≢false (sym is.0))
same_stop (Err s) stop other is e = sym is.1 ∙ same s other e
  where
    same : (x y : StreamFailure) → ◌≡◌ {A = Result (Unit {0}) StreamFailure} (Err x) (Err y) → x ≡ y
    same x y e = cc
