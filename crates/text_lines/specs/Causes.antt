-- The words for what is wrong with a text.
use Rattle.std.specs.Prelude.{ℕ, List, ◌++◌, codes, decimal}
use Rattle.text_lines.specs.declared.fault.TextCause.{TextCause}
use Rattle.text_lines.specs.declared.fault.TextCause.TheVariants.{BadWord, BadNumber, BadPrice}
use Rattle.text_lines.specs.declared.fault.TextCause.TheVariants.{BadSymbol, MissingField}
use Rattle.text_lines.specs.declared.fault.TextCause.TheVariants.{ExtraField, LongLine}
use Rattle.text_lines.specs.declared.fault.TextError.{TextError}
use Rattle.text_lines.specs.declared.fault.TextError.TheVariants as errors

-- the word of a cause
abbrev pub cause_word : TextCause → List ℕ
cause_word BadWord = codes "bad-word"
cause_word BadNumber = codes "bad-number"
cause_word BadPrice = codes "bad-price"
cause_word BadSymbol = codes "bad-symbol"
cause_word MissingField = codes "missing-field"
cause_word ExtraField = codes "extra-field"
cause_word LongLine = codes "long-line"

-- the place of a fault, and its cause
abbrev pub place_text : ℕ → ℕ → TextCause → List ℕ
place_text line column cause = codes "line "
    ++ (decimal line ++ (codes " column " ++ (decimal column ++ (codes ": " ++ cause_word cause))))

-- why a text was not read
abbrev pub error_text : TextError → List ℕ
error_text (errors.Bad line column cause) = place_text line column cause
error_text errors.OutOfMemory = codes "out of memory"
