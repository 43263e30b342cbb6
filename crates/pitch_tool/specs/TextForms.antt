-- A text form: what it makes of a whole text, and how it ends.
use Rattle.std.specs.Prelude.{◌≡◌, ℕ, ◌≤◌, List, [], length, nat_lt, Option, Some}
use Rattle.std.specs.Prelude.{Result, Ok, Err, if◌then◌else◌}
use Rattle.std.specs.Result.{result_err}
use Rattle.std.specs.Io.KnownBytes.{Consumes}
use Rattle.pitch_io.specs.Putting.{Grows}
use Rattle.pitch_words.specs.declared.form.TextWords.{TextWords}
use Rattle.pitch_words.specs.declared.form.TextWords.TheVariants.{Pack, Replay}
use Rattle.command_feed.specs.Feed.{feed_of, AppendsPacking}
use Rattle.command_feed.specs.declared.error.CommandError.{CommandError}
use Rattle.schedule_replay.specs.Replay.{replay_of}
use Rattle.schedule_replay.specs.Worlds.{AreRunThrough}
use Rattle.schedule_replay.specs.declared.error.ReplayError.{ReplayError}
use Rattle.world_model.specs.declared.world.World.{World}
use Rattle.stream_print.specs.Inputs.{ReadsAll, Has}
use Rattle.stream_print.specs.Putting.{PutsSome}
use Rattle.stream_print.specs.Told.{Told, IsUntouched}
use Rattle.pitch_tool.specs.declared.failure.Failure.{Failure}
use Rattle.pitch_tool.specs.declared.failure.Failure.TheVariants.{Usage, BadInput, Read, Write, Net}
use Rattle.pitch_tool.specs.declared.failure.Failure.TheVariants.{OutOfMemory}
use Rattle.pitch_tool.specs.declared.failure.Trouble.{Trouble}
use Rattle.pitch_tool.specs.declared.failure.Trouble.TheVariants.{LongText, Commands, Schedule}

-- the feed that some commands make, or what is wrong with them
abbrev pub feed_or_trouble : Result (List ℕ) CommandError → Result (List ℕ) Trouble
feed_or_trouble (Ok feed) = Ok feed
feed_or_trouble (Err error) = Err (Commands error)

-- what a schedule writes, or what is wrong with its text
abbrev pub replay_or_trouble : Result (List ℕ) ReplayError → Result (List ℕ) Trouble
replay_or_trouble (Ok written) = Ok written
replay_or_trouble (Err error) = Err (Schedule error)

-- what a form makes of a text, or what is wrong with the text: the same by any workers
abbrev pub made : TextWords → List ℕ → Result (List ℕ) Trouble
made (Pack unit) text = feed_or_trouble (feed_of unit text)
made (Replay workers) text = replay_or_trouble (replay_of text)

-- what it was made of: what is packed of a text is a packing of the messages that a venue accepts
-- of it, and for what a schedule writes the worlds of its units were run through all its lines
abbrev pub IsMadeOf : TextWords → (text bytes : List ℕ) → Type 0
IsMadeOf (Pack unit) text bytes = AppendsPacking unit text [] bytes
IsMadeOf (Replay workers) text bytes = (worlds : List World) × AreRunThrough text worlds

-- what is wrong with a text of which at most `most` bytes are read: that it has more, or else what
-- the form finds
abbrev pub text_trouble : TextWords → ℕ → List ℕ → Option Trouble
text_trouble form most text =
    if nat_lt most (length text) then Some LongText else result_err (made form text)

-- ---- How a text form ends
-- the whole text was read
pub record ReadsText (form : TextWords) (most : ℕ) (input : Told) (bytes : List ℕ) : Type 0 where
  pub text : List ℕ
  pub read : ReadsAll input text
  pub small : length text ≤ most
  pub made_is : made form text ≡ Ok bytes
  pub made_of : IsMadeOf form text bytes

-- the whole text was read, and what it makes was written
pub record WritesMade (form : TextWords) (most : ℕ) (input out : Told) : Type 0 where
  pub bytes : List ℕ
  pub makes : ReadsText form most input bytes
  pub wrote : Grows out.old out.new bytes

-- the whole text was read, and a prefix of what it makes was written
pub record WritesMadeSome (form : TextWords) (most : ℕ) (input out : Told) : Type 0 where
  pub bytes : List ℕ
  pub makes : ReadsText form most input bytes
  pub wrote : PutsSome out.old out.new bytes

-- the text has this trouble, and nothing was written
pub record RefusesText (form : TextWords) (most : ℕ) (trouble : Trouble) (input out : Told) :
    Type 0 where
  pub text : List ℕ
  pub has : Has input.old text
  pub trouble_is : text_trouble form most text ≡ Some trouble
  pub wrote : IsUntouched out

-- the source failed after some bytes, and nothing was written
pub record ReadsNoText (input out : Told) : Type 0 where
  pub bytes : List ℕ
  pub read : Consumes input.old input.new bytes
  pub wrote : IsUntouched out

-- how it ends
abbrev pub TextEnds : TextWords → ℕ → Result (Unit {0}) Failure → (input out : Told) → Type 0
TextEnds form most (Ok done) input out = WritesMade form most input out
TextEnds form most (Err Usage) input out = ⊥
TextEnds form most (Err (BadInput trouble)) input out = RefusesText form most trouble input out
TextEnds form most (Err Read) input out = ReadsNoText input out
TextEnds form most (Err Write) input out = WritesMadeSome form most input out
TextEnds form most (Err Net) input out = ⊥
TextEnds form most (Err OutOfMemory) input out = IsUntouched out
