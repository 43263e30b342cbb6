-- What a block of either kind changes for the client of a relay.
use Rattle.std.specs.Prelude.{ℕ, List, [], ◌∷◌, ◌==◌, Result, Ok, Err, if◌then◌else◌}
use Rattle.unit_packets.specs.Blocks.{Block}
use Rattle.pitch_messages.specs.Raw.{kind_of}
use Rattle.pitch_messages.specs.Session.{session_reads}
use Rattle.pitch_messages.specs.declared.session.SessionMessage.{SessionMessage}
use Rattle.pitch_messages.specs.declared.session.SessionMessage.TheVariants.{SpinFinished}
use Rattle.pitch_messages.specs.declared.session.SessionError.{SessionError}
use Rattle.pitch_model.specs.History.{Entry, Raw, image_finished, bad_image, spin_of}
use Rattle.pitch_model.specs.Reach.{reach}
use Rattle.pitch_model.specs.Status.{status_of}
use Rattle.heard_items.specs.Changes.{image_end_at, block_change}
use Rattle.heard_items.specs.declared.change.Change.{Change}
use Rattle.heard_items.specs.declared.change.ImageEnd.{ImageEnd}
use Rattle.heard_items.specs.declared.change.ImageEnd.TheVariants as end
use Rattle.relay_unit.specs.Hearing.{is_of_session, heard_unsequenced, heard_merged}

-- what becomes of an image at a message of a session
abbrev pub told_end : ℕ → List Entry → Result SessionMessage SessionError → ImageEnd
told_end H E (Ok (SpinFinished sequence)) =
    image_end_at (reach H E) (image_finished (spin_of E) sequence) (bad_image (spin_of E) sequence)
told_end H E (Ok message) = end.NoImage
told_end H E (Err error) = end.NoImage

abbrev pub raw_end : ℕ → List Entry → Raw → ImageEnd
raw_end H E raw =
    if is_of_session (kind_of raw) then told_end H E (session_reads raw) else end.NoImage

-- the last end of an image other than that there was none
abbrev pub end_or : ImageEnd → ImageEnd → ImageEnd
end_or last end.NoImage = last
end_or last other = other

abbrev pub session_end : ℕ → ImageEnd → List Raw → List Entry → ImageEnd
session_end H last [] E = last
session_end H last (raw ∷ raws) E =
    session_end H (end_or last (raw_end H E raw)) raws (heard_unsequenced raw E)

-- an unsequenced block has no messages of a line
abbrev pub session_change : ℕ → List Entry → Block → Change
session_change H E block = record {
  before = status_of H E;
  after = status_of H (heard_merged block E);
  fresh = 0;
  overflows = 0;
  image = session_end H end.NoImage block.raws E;
}

-- what a block changes that is heard after a history
abbrev pub merged_change : ℕ → List Entry → Block → Change
merged_change H E block =
    if block.sequence == 0 then session_change H E block else block_change H E block
