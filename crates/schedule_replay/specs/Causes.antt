-- Why a schedule is not replayed, and the words for it.
use Rattle.std.specs.Prelude.{ℕ, List, ◌++◌, codes}
use Rattle.text_lines.specs.Causes.{place_text}
use Rattle.text_lines.specs.declared.fault.TextError.{TextError}
use Rattle.text_lines.specs.declared.fault.TextError.TheVariants as text
use Rattle.schedule_replay.specs.declared.error.ReplayError.{ReplayError}
use Rattle.schedule_replay.specs.declared.error.ReplayError.TheVariants.{Text, OutOfMemory}

-- an error of the text
abbrev pub replay_error : TextError → ReplayError
replay_error (text.Bad line column cause) = Text line column cause
replay_error text.OutOfMemory = OutOfMemory

-- the words for an error
abbrev pub replay_error_text : ReplayError → List ℕ
replay_error_text (Text line column cause) = codes "bad input at " ++ place_text line column cause
replay_error_text OutOfMemory = codes "out of memory"
