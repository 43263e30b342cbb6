-- What became of a page and of a sink, in the words of a call's contract: each object stands there
-- as it was before the call and after it, behind what it tells.
use Rattle.std.specs.Prelude.{ℕ, List, Option, ◌++◌}
use Rattle.pitch_io.specs.Causes.{HasCause}
use Rattle.stream_print.specs.Page.{Page, Prints, PrintsSuch}
use Rattle.stream_print.specs.Putting.{PutsSome}

-- some prefix was written of what stood on the page and of a text of which this is true
pub record PutsSuch (is : List ℕ → Type 0) (old : Option (List ℕ)) (before : List ℕ)
    (new : Option (List ℕ)) : Type 0 where
  pub text : List ℕ
  pub puts : PutsSome old new (before ++ text)
  pub such : is text

-- a text was printed behind the page: some prefix of both was written, and the rest stands on the
-- page
abbrev pub PagePrints : {T : Type 0} → (T → Option (List ℕ)) → T → T → Page → Page → List ℕ → Type 0
PagePrints written out out' page page' text =
    Prints (written out) page.text (written out') page'.text text

-- a text of which this is true was
abbrev pub PagePrintsSuch : {T : Type 0} → (List ℕ → Type 0) → (T → Option (List ℕ)) → T → T → Page
    → Page → Type 0
PagePrintsSuch is written out out' page page' =
    PrintsSuch is (written out) page.text (written out') page'.text

-- some prefix of the page and of a text of which this is true was written
abbrev pub PutsPrefixSuch : {T : Type 0} → (List ℕ → Type 0) → (T → Option (List ℕ)) → T → T → Page
    → Type 0
PutsPrefixSuch is written out out' page = PutsSuch is (written out) page.text (written out')

-- some prefix of a text was written
abbrev pub PutsPrefix : {T : Type 0} → (T → Option (List ℕ)) → T → T → List ℕ → Type 0
PutsPrefix written out out' text = PutsSome (written out) (written out') text

-- the device counted a failure where the call tells of one, and its count never falls
abbrev pub CountsFault : {T : Type 0} → (T → ℕ) → T → T → Type 0 → Type 0
CountsFault faults device device' failed = HasCause (faults device) (faults device') failed
