-- What an end of a session sends.
use Rattle.std.specs.Prelude.{ℕ, Bool, true, false, ◌||◌, List, [], ◌∷◌, length, drop, ◌++◌}
use Rattle.std.specs.Prelude.{is_some, if◌then◌else◌}
use Rattle.pitch_messages.specs.Session.{session_written}
use Rattle.pitch_messages.specs.declared.session.SessionMessage.{SessionMessage}
use Rattle.unit_packets.specs.BlockBytes.{block_bytes, heartbeat_block, session_block}
use Rattle.session_ends.specs.declared.inbox.Heard.{Heard}
use Rattle.session_ends.specs.declared.role.Role.{Role}
use Rattle.session_ends.specs.declared.role.Role.TheVariants.{GrpServer, SpinServer, GapLink}
use Rattle.session_ends.specs.declared.role.Role.TheVariants.{SpinLink}
use Rattle.session_ends.specs.Closing.{Setup, closed_of}
use Rattle.session_ends.specs.Events.{Event, Ticked, fed_of}
use Rattle.session_ends.specs.Items.{stream_items}

-- the unit in the headers that an end writes: 0 to and from the proxy, else its own
abbrev pub header_unit : Role → ℕ → ℕ
header_unit GrpServer unit = 0
header_unit GapLink unit = 0
header_unit SpinServer unit = unit
header_unit SpinLink unit = unit

-- the bytes of a session message: a block of its own ("Sequenced Unit Header", with sequence 0)
abbrev pub message_bytes : ℕ → SessionMessage → List ℕ
message_bytes unit message = block_bytes (session_block unit (session_written message))

-- the bytes of a session message that an end sends
abbrev pub sent_bytes : Setup → SessionMessage → List ℕ
sent_bytes s message = message_bytes (header_unit s.role s.unit) message

abbrev pub heartbeat_bytes : ℕ → List ℕ
heartbeat_bytes unit = block_bytes (heartbeat_block unit 0)

-- at least one byte
abbrev pub some_bytes : List ℕ → Bool
some_bytes [] = false
some_bytes (b ∷ bs) = true

-- a link has sent its login when it is made
abbrev pub begins_with_login : Role → Bool
begins_with_login GapLink = true
begins_with_login SpinLink = true
begins_with_login GrpServer = false
begins_with_login SpinServer = false

-- something was sent since the last tick, or since the making: `sends` says what is sent at an
-- event that is no tick. A heartbeat that is sent at a tick does not count.
abbrev pub sent_since : {X : Type 0}
    → (Event X → List (Event X) → List ℕ) → Role → List (Event X) → Bool
sent_since sends role [] = begins_with_login role
sent_since sends role (Ticked ∷ before) = false
sent_since sends role (event ∷ before) =
    some_bytes (sends event before) || sent_since sends role before

-- what is sent at a tick: a heartbeat where nothing was sent since the last one ("Heartbeat
-- Messages")
abbrev pub sent_at_tick : {X : Type 0}
    → (Event X → List (Event X) → List ℕ) → Setup → List (Event X) → List ℕ
sent_at_tick sends s before =
    if is_some (closed_of s (Ticked ∷ before)) then []
    else if sent_since sends s.role before then []
    else heartbeat_bytes (header_unit s.role s.unit)

-- what the stream says more by these bytes
abbrev pub new_items : {X : Type 0} → List (Event X) → List ℕ → List Heard
new_items before bytes =
    drop (length (stream_items (fed_of before))) (stream_items (fed_of before ++ bytes))
