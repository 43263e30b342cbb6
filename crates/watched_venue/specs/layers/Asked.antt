-- What the clients of a venue ask of its servers, a line for each session message that asks.
use Rattle.std.specs.Prelude.{ℕ, Bool, true, false, List, [], ◌∷◌, ◌++◌, codes}
use Rattle.std.specs.List.{flat_map}
use Rattle.pitch_messages.specs.declared.session.SessionMessage.{SessionMessage}
use Rattle.pitch_messages.specs.declared.session.SessionMessage.TheVariants as session
use Rattle.feed_lines.specs.Show.{number_field}
use Rattle.session_ends.specs.Saying.{heard_by}
use Rattle.session_ends.specs.declared.inbox.Heard.{Heard}
use Rattle.session_ends.specs.declared.role.Role.{Role}
use Rattle.session_ends.specs.declared.role.Role.TheVariants.{GrpServer, SpinServer}
use Rattle.session_ends.specs.declared.role.Said.{Said}
use Rattle.session_ends.specs.declared.role.Said.TheVariants.{Message}
use Rattle.watched_venue.specs.declared.line.Client.{Client}

-- ---- A client
-- the server whose client it is
abbrev pub role_of : Bool → Role
role_of true = SpinServer
role_of false = GrpServer

abbrev pub door_name : Bool → List ℕ
door_name true = codes " spin "
door_name false = codes " grp "

-- who it is: its unit, its server, and its number among all clients
unfoldable pub client_head : Client → List ℕ
client_head client =
    number_field (codes "unit ") client.unit ++ number_field (door_name client.spin) client.number

-- ---- What it asks
-- the line of a message that asks: a login, a range of messages from a sequence on, or an image;
-- other messages ask nothing
unfoldable pub asked_line : Client → SessionMessage → List ℕ
asked_line client (session.Login sub user password) = client_head client ++ codes " login\n"
asked_line client (session.GapRequest unit sequence count) = client_head client
    ++ (number_field (codes " request ") sequence ++ (number_field (codes " count ") count ++ 10 ∷ []))
asked_line client (session.SpinRequest sequence) =
    client_head client ++ (number_field (codes " spin ") sequence ++ 10 ∷ [])
asked_line client message = []

-- what a message says to the server; what it does not read asks nothing
abbrev pub said_line : Client → Said → List ℕ
said_line client (Message message) = asked_line client message
said_line client said = []

abbrev pub item_line : Client → Heard → List ℕ
item_line client item = said_line client (heard_by (role_of client.spin) item)

-- the lines of all that a stream says
abbrev pub asked_lines : Client → List Heard → List ℕ
asked_lines client items = flat_map (item_line client) items
