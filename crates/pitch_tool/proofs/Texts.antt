-- How a text form ends where nothing was made of the text.
use Rattle.std.proofs.Common.{◌≡◌, ◌≤◌, ℕ, List, Bool, cond, length, Some, Result, Err, ap, ◌∙◌}
use Rattle.std.proofs.lemmas.Bool.{le-ltb}
use Rattle.std.specs.Result.{IsErr, IsErrAnd, result_err}
use Rattle.pitch_words.specs.declared.form.TextWords.{TextWords}
use Rattle.stream_print.specs.Inputs.{ReadsAll}
use Rattle.stream_print.specs.Told.{Told, IsUntouched}
use Rattle.pitch_tool.specs.TextForms.{TextEnds, made}
use Rattle.pitch_tool.specs.layers.Failures.{IsUnmade}
use Rattle.pitch_tool.specs.declared.failure.Failure.{Failure}
use Rattle.pitch_tool.specs.declared.failure.Failure.TheVariants.{Usage, BadInput, Read, Write, Net, OutOfMemory}
use Rattle.pitch_tool.specs.declared.failure.Trouble.TheVariants.{LongText}
use Rattle.pitch_tool.proofs.Failing.{failed_by, has_all}

unmade : (form : TextWords) (most : ℕ) (input out : Told) (text : List ℕ) (why : Failure) → ReadsAll input text → length text ≤ most → IsUnmade (made form text) why → IsUntouched out → TextEnds form most (Err why) input out
unmade form most input out text (BadInput trouble) read small is same = record {
  text = text;
  has = has_all input.old input.new text read;
  trouble_is = ap (λ (b : Bool). cond b (Some LongText) (result_err (made form text))) (le-ltb most (length text) small) ∙ ap result_err is;
  wrote = same;
}
unmade form most input out text OutOfMemory read small is same = same
unmade form most input out text Usage read small is same = is
unmade form most input out text Read read small is same = absurd is
unmade form most input out text Write read small is same = absurd is
unmade form most input out text Net read small is same = is

pub text_unmade : (form : TextWords) (most : ℕ) (input out : Told) (text : List ℕ) (why : Failure) (r : Result (Unit {0}) Failure) → IsErr r × IsErrAnd r (λ failure. failure ≡ why) → ReadsAll input text → length text ≤ most
    → IsUnmade (made form text) why → IsUntouched out → TextEnds form most r input out
text_unmade form most input out text why r failed read small is same =
    failed_by (λ (r : Result (Unit {0}) Failure). TextEnds form most r input out) r why failed (unmade form most input out text why read small is same)
