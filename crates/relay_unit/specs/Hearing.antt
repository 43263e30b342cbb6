-- What a relay hears of the blocks of a merged stream: those of a line, and those of a Spin Server.
use Rattle.std.specs.Prelude.{ℕ, Bool, ◌||◌, ◌&&◌, List, [], ◌∷◌, ◌==◌, nat_le}
use Rattle.std.specs.Prelude.{Result, Ok, Err, if◌then◌else◌}
use Rattle.unit_packets.specs.Blocks.{Block}
use Rattle.pitch_messages.specs.Raw.{kind_of}
use Rattle.pitch_messages.specs.Session.{session_reads}
use Rattle.pitch_messages.specs.declared.session.SessionMessage.{SessionMessage}
use Rattle.pitch_messages.specs.declared.session.SessionMessage.TheVariants.{SpinAvailable}
use Rattle.pitch_messages.specs.declared.session.SessionMessage.TheVariants.{SpinReply}
use Rattle.pitch_messages.specs.declared.session.SessionMessage.TheVariants.{SpinFinished}
use Rattle.pitch_messages.specs.declared.session.SessionError.{SessionError}
use Rattle.pitch_model.specs.History.{Entry, Raw, ImageMessages, SpinUp, Advertised, Ticked}
use Rattle.pitch_model.specs.History as entry
use Rattle.pitch_model.specs.Asking.{ask_of}
use Rattle.heard_items.specs.Heard.{heard_sequenced, is_accepted}

-- the types of the messages with which a Spin Server and its client speak of images and not in
-- them: logins, what is available, requests, replies and ends
abbrev pub is_of_session : ℕ → Bool
is_of_session kind = kind == 0x01 || (kind == 0x02 || (nat_le 0x80 kind && nat_le kind 0x83))

-- what a Spin Server tells of its images; logins and requests tell nothing, nor does a message that
-- is too short
abbrev pub heard_told : Result SessionMessage SessionError → List Entry → List Entry
heard_told (Ok (SpinAvailable sequence)) E = Advertised sequence ∷ E
heard_told (Ok (SpinReply sequence orders status)) E =
    entry.SpinReply sequence orders (is_accepted status) ∷ E
heard_told (Ok (SpinFinished sequence)) E = entry.SpinFinished sequence ∷ E
heard_told (Ok message) E = E
heard_told (Err error) E = E

-- an unsequenced message is one of the session, or else one of an image
abbrev pub heard_unsequenced : Raw → List Entry → List Entry
heard_unsequenced raw E =
    if is_of_session (kind_of raw) then heard_told (session_reads raw) E
    else (ImageMessages (raw ∷ []) ∷ E)

abbrev pub heard_session : List Raw → List Entry → List Entry
heard_session [] E = E
heard_session (raw ∷ raws) E = heard_session raws (heard_unsequenced raw E)

-- a history with a block of either kind that is heard after it
abbrev pub heard_merged : Block → List Entry → List Entry
heard_merged block E =
    if block.sequence == 0 then heard_session block.raws E
    else heard_sequenced block.sequence block.raws E

-- after each block comes a tick; what it asks for is not sent
abbrev pub relay_heard : ℕ → Block → List Entry → List Entry
relay_heard H block E = Ticked (ask_of H (heard_merged block E)) ∷ heard_merged block E

-- the Spin Server counts as up from the start
abbrev pub first_heard : List Entry
first_heard = SpinUp ∷ []

-- what the relay of a unit heard of the blocks, the newest of which stands first
abbrev pub relay_history : ℕ → ℕ → List Block → List Entry
relay_history H unit [] = first_heard
relay_history H unit (block ∷ before) =
    if block.unit == unit then relay_heard H block (relay_history H unit before)
    else relay_history H unit before
