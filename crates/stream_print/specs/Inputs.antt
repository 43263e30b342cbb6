-- A stream of blocks: what is wrong with it, and what is written for it.
use Rattle.std.specs.Prelude.{◌≡◌, ◌≤◌, ℕ, List, ◌++◌, [], length, take, nat_lt, option_map}
use Rattle.std.specs.Prelude.{Option, Some, None, Result, Ok, Err, ◌⊎◌, if◌then◌else◌}
use Rattle.std.specs.Io.KnownBytes.{Consumes}
use Rattle.pitch_io.specs.Putting.{Grows}
use Rattle.unit_packets.specs.Blocks.{Block}
use Rattle.unit_packets.specs.Cutting.{fault_of, fault_at_end}
use Rattle.pcap_feed.specs.Capture.{capture_fault, capture_end_fault}
use Rattle.stream_print.specs.Carriers.{carried_blocks}
use Rattle.stream_print.specs.declared.carrier.Carrier.{Carrier}
use Rattle.stream_print.specs.declared.carrier.Carrier.TheVariants.{Bare, Capture}
use Rattle.stream_print.specs.declared.stream_form.StreamForm.{StreamForm}
use Rattle.stream_print.specs.Putting.{PutsSome}
use Rattle.stream_print.specs.Texts.{AreTexts, BeginTexts, IsText}
use Rattle.stream_print.specs.Told.{Told}
use Rattle.stream_print.specs.declared.failure.StreamFailure.{StreamFailure}
use Rattle.stream_print.specs.declared.failure.StreamFailure.TheVariants.{BadInput, SequencesSpent}
use Rattle.stream_print.specs.declared.failure.StreamFailure.TheVariants.{Read, Write, OutOfMemory}
use Rattle.stream_print.specs.declared.failure.StreamTrouble.{StreamTrouble}
use Rattle.stream_print.specs.declared.failure.StreamTrouble.TheVariants.{Faulty, BadCapture}
use Rattle.stream_print.specs.declared.failure.StreamTrouble.TheVariants.{TooLong}

-- how many bytes of a stream of blocks are read at most: 2^30
abbrev pub stream_limit : ℕ
stream_limit = 1073741824

-- what is wrong with a stream so far, which more bytes do not mend
abbrev pub lasting_trouble : Carrier → List ℕ → Option StreamTrouble
lasting_trouble Bare bytes = option_map Faulty (fault_of bytes)
lasting_trouble (Capture port) bytes = option_map BadCapture (capture_fault bytes)

-- what is wrong with a stream that ends here
abbrev pub end_trouble : Carrier → List ℕ → Option StreamTrouble
end_trouble Bare bytes = option_map Faulty (fault_at_end bytes)
end_trouble (Capture port) bytes = option_map BadCapture (capture_end_fault bytes)

-- a trouble, or else something else
abbrev pub or_trouble : Option StreamTrouble → Option StreamTrouble → Option StreamTrouble
or_trouble (Some trouble) other = Some trouble
or_trouble None other = other

-- what is wrong with a stream of which at most `most` bytes are read: a trouble among the first of
-- them that more bytes do not mend, or else more bytes than that, or else an end inside a block or
-- a packet
unfoldable pub trouble_of : Carrier → ℕ → List ℕ → Option StreamTrouble
trouble_of carrier most bytes =
    or_trouble (lasting_trouble carrier (take most bytes))
    (if nat_lt most (length bytes) then Some TooLong else end_trouble carrier bytes)

-- what was taken is some bytes without a trouble that lasts, and then at most the 65,536 of one
-- piece: so less than a piece is taken behind the byte with which a trouble shows
pub record StopsSoon (carrier : Carrier) (input : Told) : Type 0 where
  pub sound : List ℕ
  pub last : List ℕ
  pub read : Consumes input.old input.new (sound ++ last)
  pub untroubled : lasting_trouble carrier sound ≡ None
  pub short : length last ≤ 65536

-- ---- How a stream ends
-- where a source told its bytes, these are all of them, and nothing is left
abbrev pub AreAll : Option (List ℕ) → Option (List ℕ) → List ℕ → Type 0
AreAll None left bytes = Unit {0}
AreAll (Some all) left bytes = (all ≡ bytes) × (left ≡ Some [])

-- all the bytes of the source were read
abbrev pub ReadsAll : Told → List ℕ → Type 0
ReadsAll input bytes = AreAll input.old input.new bytes

-- the bytes that a source has, where it tells them
abbrev pub Has : Option (List ℕ) → List ℕ → Type 0
Has None bytes = Unit {0}
Has (Some all) bytes = all ≡ bytes

-- the whole stream was read and has no fault, and its text was written
pub record WritesAll (carrier : Carrier) (form : StreamForm) (most : ℕ)
    (input out : Told) : Type 0 where
  pub bytes : List ℕ
  pub read : ReadsAll input bytes
  pub sound : trouble_of carrier most bytes ≡ None
  pub text : List ℕ
  pub is_text : IsText carrier form bytes text
  pub wrote : Grows out.old out.new text

-- the texts of these blocks were written
pub record WritesTexts (form : StreamForm) (out : Told) (blocks : List Block) : Type 0 where
  pub text : List ℕ
  pub wrote : Grows out.old out.new text
  pub are_texts : AreTexts form blocks text

-- the stream has this trouble, and the texts of the whole blocks before were written, and no book
pub record Refuses (carrier : Carrier) (form : StreamForm) (most : ℕ) (trouble : StreamTrouble)
    (input out : Told) : Type 0 where
  pub bytes : List ℕ
  pub has : Has input.old bytes
  pub trouble_is : trouble_of carrier most bytes ≡ Some trouble
  pub wrote : WritesTexts form out (carried_blocks carrier (take most bytes))

-- the source failed after some bytes, and the texts of their whole blocks were written
pub record ReadsSome (carrier : Carrier) (form : StreamForm) (input out : Told) : Type 0 where
  pub bytes : List ℕ
  pub read : Consumes input.old input.new bytes
  pub wrote : WritesTexts form out (carried_blocks carrier bytes)

-- some bytes were read, and a prefix of a text was written: of the texts of the first of their
-- blocks, or, where they are all, of the whole text
pub record WritesSome (carrier : Carrier) (form : StreamForm) (input out : Told) : Type 0 where
  pub bytes : List ℕ
  pub read : Consumes input.old input.new bytes
  pub text : List ℕ
  pub wrote : PutsSome out.old out.new text
  pub is_text : BeginTexts form (carried_blocks carrier bytes) text
      ⊎ (ReadsAll input bytes × IsText carrier form bytes text)

-- how a stream ends; no relay comes to the last sequence, since no stream has so many messages
abbrev pub StreamEnds : Carrier → StreamForm → ℕ → Result (Unit {0}) StreamFailure
    → (input out : Told) → Type 0
StreamEnds carrier form most (Ok done) input out = WritesAll carrier form most input out
StreamEnds carrier form most (Err (BadInput trouble)) input out =
    Refuses carrier form most trouble input out
StreamEnds carrier form most (Err SequencesSpent) input out = ⊥
StreamEnds carrier form most (Err Read) input out = ReadsSome carrier form input out
StreamEnds carrier form most (Err Write) input out = WritesSome carrier form input out
StreamEnds carrier form most (Err OutOfMemory) input out = WritesSome carrier form input out
