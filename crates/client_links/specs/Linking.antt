-- What a client's end of a session sends and tells.
use Rattle.std.specs.Prelude.{◌≡◌, ℕ, false, List, [], ◌∷◌, ◌++◌, is_some, if◌then◌else◌}
use Rattle.pitch_messages.specs.declared.session.SessionMessage.TheVariants.{Login}
use Rattle.heard_items.specs.declared.item.Item.{Item}
use Rattle.session_ends.specs.declared.account.Account.{Account}
use Rattle.session_ends.specs.declared.role.Role.{Role}
use Rattle.session_ends.specs.Closing.{Setup, closed_of, logged_in}
use Rattle.session_ends.specs.Ending.{Ending, EndKnows, known_of}
use Rattle.session_ends.specs.Events.{Event, Asked, Fed}
use Rattle.session_ends.specs.Sending.{header_unit, message_bytes, sent_bytes, new_items}
use Rattle.client_links.specs.Telling.{tells}

-- a link looks nothing up
pub data Lookups : Type 0 where
  NoLookup : Lookups

-- what a link is made with: a role and a unit; it has no accounts
abbrev pub link_setup : Role → ℕ → Setup
link_setup role unit = record { role = role; unit = unit; accounts = []; in_use = false }

-- what a link sends when it is made ("Login Message")
abbrev pub login_bytes : Role → ℕ → Account → List ℕ
login_bytes role unit account =
    message_bytes (header_unit role unit) (Login account.sub account.user account.password)

-- what it sends at an event that is no tick: what it is asked for, while it is open
abbrev pub link_sends : Setup → Event Lookups → List (Event Lookups) → List ℕ
link_sends s (Asked request) before =
    if is_some (closed_of s before) then [] else sent_bytes s request
link_sends s event before = []

-- what it tells when bytes come in
abbrev pub link_tells : Setup → List (Event Lookups) → List ℕ → List Item
link_tells s before bytes =
    if is_some (closed_of s before)
    then [] else tells s (logged_in s.role before) (new_items before bytes)

-- a link stands for what happened to it, the newest first
abbrev pub LinkStands : Ending → List (Event Lookups) → Type 0
LinkStands v es = EndKnows v (known_of (link_sends v.setup) v.setup es)

-- ---- However the bytes are cut
-- what is told of two pieces at once is what is told of the one, then of the other
abbrev pub TellsOnce : Type 0
TellsOnce = (s : Setup) (es : List (Event Lookups)) (a b : List ℕ)
    → link_tells s es (a ++ b) ≡ link_tells s es a ++ link_tells s (Fed a NoLookup ∷ es) b
