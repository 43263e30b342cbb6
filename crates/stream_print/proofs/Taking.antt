-- A stream that is taken piece by piece.
use Rattle.std.proofs.Common.{◌≡◌, ℕ, ◌+◌, ◌≤◌, List, [], ◌++◌, length, take, drop, ◌-◌, reverse, refl, sym, ap, ◌∙◌, subst, arith, length-append, append-nil, Option, None}
use Rattle.std.specs.Io.KnownBytes.{Consumes, Keeps}
use Rattle.std.proofs.lemmas.List.{take-append-le}
use Rattle.pitch_io.specs.Causes.{HasCause}
use Rattle.stream_print.specs.Told.{between}
use Rattle.stream_print.specs.declared.carrier.Carrier.{Carrier}
use Rattle.stream_print.specs.declared.stream_form.StreamForm.{StreamForm}
use Rattle.stream_print.specs.Carriers.{carried_blocks}
use Rattle.stream_print.specs.layers.Suiting.{Suits}
use Rattle.stream_print.specs.layers.Feeding.{Fed}
use Rattle.stream_print.specs.Inputs.{lasting_trouble, StopsSoon, WritesSome, WritesTexts}
use Rattle.stream_print.specs.Knowing.{task_form, HasPrinted}
use Rattle.stream_print.specs.Readers.{HasRead, rest_size}
use Rattle.stream_print.specs.declared.printer.Printer.{Printer}
use Rattle.stream_print.specs.declared.reader.StreamReader.{StreamReader}
use Rattle.stream_print.proofs.Carriers.{no_blocks, no_trouble}
use Rattle.stream_print.proofs.Feeding.{take_prefix, consumes_more, consumes_kept, consumes_none, writes_texts}
use Rattle.stream_print.proofs.Flow.{grows_none}
use Rattle.stream_print.proofs.Streaming.{begin_none, puts_nothing}

-- the bytes that were taken so far were fed
pub record Taken (carrier : Carrier) (form : StreamForm) (f : Printer) (r : StreamReader) (count : ℕ) (first left start written : Option (List ℕ)) : Type 0 where
  pub bytes : List ℕ
  pub size : length bytes ≡ count
  pub within : length bytes ≤ 1073741824
  pub read : Consumes first left bytes
  pub fed : Fed carrier form start written f r bytes
  pub unended : lasting_trouble carrier bytes ≡ None

-- nothing was taken yet
pub taken_none : (carrier : Carrier) (form : StreamForm) (f : Printer) (r : StreamReader) (first start : Option (List ℕ)) → Suits carrier form → task_form f.task ≡ form → HasPrinted f [] → f.page.text ≡ []
    → HasRead carrier r [] → rest_size r ≡ 0 → Taken carrier form f r 0 first first start start
taken_none carrier form f r first start suits is known page read empty =
    let number = known.number_is in
    record {
      bytes = [];
      size = refl;
      within = omega arith;
      read = consumes_none first;
      fed = record {
        suits = suits;
        form_is = is;
        read = read;
        known = subst (HasPrinted f) (sym (ap reverse (no_blocks carrier))) known;
        empty = page;
        wrote = subst (WritesTexts form (between start start)) (sym (no_blocks carrier)) (record { text = []; wrote = grows_none start; are_texts = refl });
        few = omega (arith, number, empty);
      };
      unended = no_trouble carrier;
    }

-- a piece more was taken
pub taken_more : (carrier : Carrier) (form : StreamForm) (f g : Printer) (r s : StreamReader) (count more : ℕ) (first left left' start u v : Option (List ℕ)) (piece : List ℕ) → (t : Taken carrier form f r count first left start u)
    → length piece ≡ more → Consumes left left' piece → Fed carrier form start v g s (t.bytes ++ piece) × (lasting_trouble carrier (t.bytes ++ piece) ≡ None) × (length (t.bytes ++ piece) ≤ 1073741824)
    → Taken carrier form g s (count + more) first left' start v
taken_more carrier form f g r s count more first left left' start u v piece t size read fed = record {
  bytes = t.bytes ++ piece;
  size = length-append t.bytes piece ∙ omega (arith, t.size, size);
  within = fed.2;
  read = consumes_more first left left' t.bytes piece t.read read;
  fed = fed.0;
  unended = fed.1;
}

-- nothing was read and nothing written
pub writes_none : (carrier : Carrier) (form : StreamForm) (first start : Option (List ℕ)) → WritesSome carrier form (between first first) (between start start)
writes_none carrier form first start = writes_texts carrier form first first start start [] (consumes_none first)
    (record { text = []; puts = puts_nothing start []; such = begin_none form [] (carried_blocks carrier []) })

-- a later cause is one
pub later_cause : (a b c : ℕ) (failed wanted : Type 0) → a ≤ b → HasCause b c failed → (wanted → failed) → HasCause a c wanted
later_cause a b c failed wanted le cause gives =
    let later = cause.later in
    record {
      later = omega (arith, le, later);
      rose = λ w.
          let rose = cause.rose (gives w) in
          omega (arith, le, rose);
    }

-- the form is that of the task
pub own_form : (carrier : Carrier) (form : StreamForm) (start u : Option (List ℕ)) (f : Printer) (r : StreamReader) (bytes : List ℕ) → Fed carrier form start u f r bytes → Fed carrier (task_form f.task) start u f r bytes
own_form carrier form start u f r bytes fed = subst (λ (k : StreamForm). Fed carrier k start u f r bytes) (sym fed.form_is) fed

-- the bytes that a source gave, where a buffer begins with them
pub given_bytes : (count len : ℕ) (into items buffer : List ℕ) → count ≤ length into → length into ≤ len → buffer ≡ take len (into ++ drop (length into) items) → take count buffer ≡ take count into
given_bytes count len into items buffer le fits is =
    ap (take count) (is ∙ take_prefix len into (drop (length into) items) fits) ∙ take-append-le count into (take (len - length into) (drop (length into) items)) le

-- ---- Nothing is taken after a trouble
pub stops_none : (carrier : Carrier) (first : Option (List ℕ)) → StopsSoon carrier (between first first)
stops_none carrier first = record { sound = []; last = []; read = consumes_none first; untroubled = no_trouble carrier; short = omega arith }

pub stops_kept : (carrier : Carrier) (bytes : List ℕ) (first before now : Option (List ℕ)) → Consumes first before bytes → Keeps before now → lasting_trouble carrier bytes ≡ None → StopsSoon carrier (between first now)
stops_kept carrier bytes first before now read kept none = record {
  sound = bytes;
  last = [];
  read = subst (Consumes first now) (sym (append-nil bytes)) (consumes_kept first before now bytes read kept);
  untroubled = none;
  short = omega arith;
}

pub stops_more : (carrier : Carrier) (bytes piece : List ℕ) (first left left' : Option (List ℕ)) → Consumes first left bytes → Consumes left left' piece → lasting_trouble carrier bytes ≡ None → length piece ≤ 65536 → StopsSoon carrier (between first left')
stops_more carrier bytes piece first left left' read took none short = record {
  sound = bytes;
  last = piece;
  read = consumes_more first left left' bytes piece read took;
  untroubled = none;
  short = short;
}
