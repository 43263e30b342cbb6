-- What each verb of a schedule does to a unit's world: a row a verb. Whatever happens comes to the
-- venue's end or to the client's.
use Rattle.std.specs.Prelude.{ℕ, zero, suc, ◌+◌, nat_lt, Bool, true, List, [], ◌∷◌, ◌++◌, length}
use Rattle.std.specs.Prelude.{drop, take, Option, None, Some, unwrap_or, slice_get, if◌then◌else◌}
use Rattle.std.specs.List.{flat_map}
use Rattle.unit_packets.specs.Blocks.{Block}
use Rattle.unit_packets.specs.Cutting.{blocks_of}
use Rattle.pitch_io.specs.declared.line.Line.{Line}
use Rattle.pitch_text.specs.declared.command.Command.{Command}
use Rattle.pitch_text.specs.declared.verb.Session.{Session}
use Rattle.pitch_text.specs.declared.verb.Session.TheVariants.{Grp, Spin}
use Rattle.pitch_text.specs.declared.verb.Verb.{Verb}
use Rattle.pitch_text.specs.declared.verb.Verb.TheVariants as verbs
use Rattle.pitch_fields.specs.declared.side.Side.TheVariants.{Buy, Sell}
use Rattle.pitch_model.specs.declared.ask.Ask.{Ask}
use Rattle.pitch_model.specs.Book.{Book, book_after}
use Rattle.pitch_model.specs.History.{Entry}
use Rattle.pitch_model.specs.Levels.{best}
use Rattle.pitch_model.specs.Reach.{reach}
use Rattle.heard_items.specs.Datagrams.{block_messages}
use Rattle.heard_items.specs.Heard.{block_fresh}
use Rattle.venue_core.specs.Refusals.{refusal}
use Rattle.venue_core.specs.declared.error.VenueError.{VenueError}
use Rattle.line_arbiter.specs.Noted.{Note}
use Rattle.spin_server.specs.Served.{Served}
use Rattle.spin_server.specs.Serving.{running_spin, blocks_left, runs}
use Rattle.client_end.specs.Came.{Came, Heard, end_step, second_ask}
use Rattle.client_end.specs.Came as client
use Rattle.sending_end.specs.Waiting.{made, took, ended, waits_for_proxy, waits_for_spin_server}
use Rattle.venue_end.specs.Came.{VenueCame, Commanded, Flushed, Beaten, Advertised, SpinPumped}
use Rattle.venue_end.specs.Came.{venue_step, on_lines, on_gap_line}
use Rattle.venue_end.specs.Came as venue
use Rattle.venue_end.specs.Servers.{spin_setup}
use Rattle.venue_end.specs.Sessions as sessions
use Rattle.venue_end.specs.Sessions.{session_of}
use Rattle.venue_end.specs.declared.setup.VenueSetup.{VenueSetup}
use Rattle.world_model.specs.Ends.{venue_setup, client_setup, the_session, server_made}
use Rattle.world_model.specs.Ends.{server_took, server_put, server_cut, server_waits, at_client}
use Rattle.world_model.specs.Ends.{stands}
use Rattle.world_model.specs.State.{State, start, up_waits, up_taken, datagrams_on, passed_on}
use Rattle.world_model.specs.State.{passed_to}
use Rattle.world_model.specs.declared.limits.Limits.{Limits}
use Rattle.world_model.specs.declared.outcome.Outcome.{Outcome}
use Rattle.world_model.specs.declared.outcome.Outcome.TheVariants as outcome

-- a verb's outcome, and the state that it leaves
pub record Done : Type 0 where
  pub outcome : Outcome
  pub state : State

abbrev pub done : Outcome → State → Done
done outcome state = record { outcome = outcome; state = state }

-- ---- What comes to the ends
-- something comes to the venue's end
abbrev pub venue_has : ℕ → Limits → VenueCame → State → State
venue_has unit limits came s =
    record s { venue = venue_step (venue_setup unit limits) came s.venue }

-- something comes to the client's end: what that says waits, as long as its connection stands
abbrev pub client_has : ℕ → Limits → Came → State → State
client_has unit limits came s =
    let setup = client_setup unit limits in
    record s {
      client = end_step setup came s.client;
      grp_up = waits_for_proxy setup came s.client s.grp_up;
      spin_up = waits_for_spin_server setup came s.client s.spin_up;
    }

-- ---- The venue
-- a command is refused for the first refusal that holds of it, or its message is accepted
abbrev pub command_outcome : Option VenueError → State → Outcome
command_outcome (Some error) s = outcome.Refused error
command_outcome None s = outcome.Accepted (length s.venue.messages + 1)

abbrev pub commanded : ℕ → Limits → Command → State → Done
commanded unit limits command s =
    done (command_outcome (refusal s.venue.messages command) s)
    (venue_has unit limits (Commanded command) s)

-- what the venue's end hands out at this goes out on both lines
abbrev pub sends : ℕ → Limits → VenueCame → State → Done
sends unit limits came s =
    let datagrams = on_lines (venue_setup unit limits) came s.venue in
    done (outcome.Sent (length datagrams))
    (record (venue_has unit limits came s) { sent = s.sent ++ datagrams })

-- the image of all that was accepted is advertised
abbrev pub advertised : ℕ → Limits → State → Done
advertised unit limits s = done (outcome.Advertised (length s.venue.messages))
    (venue_has unit limits Advertised s)

-- ---- The lines
-- what a block brings on a line: its messages, and how many of them are fresh after a history,
-- where the hold has H places
abbrev pub note_of : ℕ → ℕ → Line → Block → List Entry → Note
note_of unit H line block E =
    record {
      line = line;
      unit = unit;
      messages = block_messages block;
      fresh = block_fresh H E block;
    }

-- the client hears a block that comes on a line, and says nothing
abbrev pub hears_block : ℕ → Limits → Line → Block → State → State
hears_block unit limits line block s =
    record s {
      client = end_step (client_setup unit limits) (Heard block) s.client;
      notes = note_of unit limits.hold line block s.client.heard ∷ s.notes;
    }

-- blocks, one after another
abbrev pub hears : ℕ → Limits → Line → List Block → State → State
hears unit limits line [] s = s
hears unit limits line (block ∷ blocks) s =
    hears unit limits line blocks (hears_block unit limits line block s)

-- datagrams are numbered from 1
abbrev pub numbered : List (List ℕ) → ℕ → Option (List ℕ)
numbered datagrams zero = None
numbered datagrams (suc n) = slice_get datagrams n

-- the client got a datagram of a line, by its number
abbrev pub up_to : Line → ℕ → State → State
up_to line number s = record s { passed = passed_to line number s.passed }

abbrev pub delivered_on : ℕ → Limits → Line → ℕ → Option (List ℕ) → State → Done
delivered_on unit limits line number None s = done outcome.NoDatagram s
delivered_on unit limits line number (Some datagram) s =
    done (outcome.Heard 1) (up_to line number (hears unit limits line (blocks_of datagram) s))

-- the client gets one datagram of a line, by its number
abbrev pub delivered : ℕ → Limits → Line → ℕ → State → Done
delivered unit limits line number s =
    delivered_on unit limits line number (numbered (datagrams_on s line) number) s

-- the client gets the datagrams of a line after the last of them that it got
abbrev pub rest_delivered : ℕ → Limits → Line → State → Done
rest_delivered unit limits line s =
    let all = datagrams_on s line in
    let rest = drop (passed_on s.passed line) all in
    done (outcome.Heard (length rest))
    (up_to line (length all) (hears unit limits line (flat_map blocks_of rest) s))

-- ---- Connections
-- a connection opens: both ends have it, and the login waits for the server
abbrev pub opened : ℕ → Limits → Session → State → State
opened unit limits session s = client_has unit limits (made (at_client session))
    (venue_has unit limits (server_made session) s)

-- where one stands already, nothing happens
abbrev pub connected : ℕ → Limits → Session → State → Done
connected unit limits session s =
    if stands session s.client then done outcome.AlreadyOpen s
    else done outcome.Opened (opened unit limits session s)

-- a connection ends: both ends hear that
abbrev pub ends : ℕ → Limits → Session → State → State
ends unit limits session s = client_has unit limits (ended (at_client session))
    (venue_has unit limits (server_cut session) s)

-- a connection that stands is cut
abbrev pub cut : ℕ → Limits → Session → State → Done
cut unit limits session s =
    if stands session s.client then done outcome.Cut (ends unit limits session s)
    else done outcome.NotOpen s

-- the server hears it at once where the client's end has cut a connection
abbrev pub settled : ℕ → Limits → Session → State → State
settled unit limits session s =
    if stands session s.client then s else venue_has unit limits (server_cut session) s

-- ---- Bytes
-- so many of the bytes that wait, or all of them, are carried over a connection that stands, and
-- none where fewer wait
abbrev pub carried : Bool → Option ℕ → List ℕ → (ℕ → State) → State → Done
carried stands bytes waiting after s =
    let n = unwrap_or bytes (length waiting) in
    if stands
    then (if nat_lt (length waiting) n
    then done (outcome.TooFew n (length waiting)) s else done (outcome.Carried n) (after n))
    else done outcome.NotOpen s

-- a Spin Server is asked so many times for the next block of its image
abbrev pub pumped : ℕ → Limits → ℕ → State → State
pumped unit limits zero s = s
pumped unit limits (suc n) s =
    venue_has unit limits (SpinPumped the_session) (pumped unit limits n s)

-- how often that is: until Spin Finished, and once where no image runs
abbrev pub pumps : VenueSetup → Option (sessions.Session (List Served)) → ℕ
pumps setup None = 1
pumps setup (Some session) =
    if runs (spin_setup setup) session.happened
    then blocks_left (running_spin (spin_setup setup) session.happened) + 1 else 1

-- a running image is sent to its end
abbrev pub sent_whole : ℕ → Limits → State → State
sent_whole unit limits s = pumped unit limits
    (pumps (venue_setup unit limits) (session_of the_session s.venue.spins)) s

-- bytes come to a server. What the proxy accepts goes out on the gap line; an image that the Spin
-- Server accepts is sent at once.
abbrev pub server_fed : ℕ → Limits → Session → List ℕ → State → State
server_fed unit limits Grp piece s = record (venue_has unit limits (server_took Grp piece) s) {
  replayed =
      s.replayed ++ on_gap_line (venue_setup unit limits) (server_took Grp piece) s.venue;
}
server_fed unit limits Spin piece s =
    sent_whole unit limits (venue_has unit limits (server_took Spin piece) s)

-- they are carried to a server
abbrev pub up : ℕ → Limits → Session → Option ℕ → State → Done
up unit limits session bytes s =
    let waiting = up_waits session s in
    carried (stands session s.client) bytes waiting
    (λ n. server_fed unit limits session (take n waiting) (up_taken session n s)) s

-- bytes come to the client's end, and the client hears what they tell
abbrev pub link_fed : ℕ → Limits → Session → List ℕ → State → State
link_fed unit limits session piece s =
    settled unit limits session
    (client_has unit limits (took (at_client session) piece) s)

-- they are carried to the client
abbrev pub down : ℕ → Limits → Session → Option ℕ → State → Done
down unit limits session bytes s =
    let waiting = server_waits session s.venue in
    carried (stands session s.client) bytes waiting
    (λ n. link_fed unit limits session (take n waiting)
    (venue_has unit limits (server_put session n) s)) s

-- ---- A tick
abbrev pub tick_outcome : Option Ask → Outcome
tick_outcome None = outcome.Ticked
tick_outcome (Some ask) = outcome.Asked ask

-- a second passes at the venue's end and then at the client's, whose client asks for what it lacks
abbrev pub seconds : ℕ → Limits → State → State
seconds unit limits s =
    client_has unit limits client.Second (venue_has unit limits venue.Second s)

abbrev pub ticked : ℕ → Limits → State → Done
ticked unit limits s =
    done (tick_outcome (second_ask (client_setup unit limits) s.client))
    (settled unit limits Spin (settled unit limits Grp (seconds unit limits s)))

-- ---- The client's book
-- what the venue's messages leave, up to the reach
abbrev pub client_book : Limits → State → Book
client_book limits s = book_after (take (reach limits.hold s.client.heard) s.venue.messages)

abbrev pub quoted : Limits → List ℕ → State → Done
quoted limits symbol s = done (outcome.Quoted (best (client_book limits s) symbol Buy)
    (best (client_book limits s) symbol Sell)) s

-- ---- All verbs
-- `open` sets the limits where it is the unit's first line, and is too late on any other
abbrev pub set_up : State → Done
set_up s = done (if s.begun then outcome.AlreadyOpen else outcome.Opened) s

abbrev pub does : ℕ → Limits → Verb → State → Done
does unit limits (verbs.Command command) s = commanded unit limits command s
does unit limits (verbs.Setup hold kept second minute day) s = set_up s
does unit limits verbs.Flush s = sends unit limits Flushed s
does unit limits verbs.Beat s = sends unit limits Beaten s
does unit limits (verbs.Deliver line number) s = delivered unit limits line number s
does unit limits (verbs.Rest line) s = rest_delivered unit limits line s
does unit limits (verbs.Connect session) s = connected unit limits session s
does unit limits (verbs.Cut session) s = cut unit limits session s
does unit limits (verbs.Up session bytes) s = up unit limits session bytes s
does unit limits (verbs.Down session bytes) s = down unit limits session bytes s
does unit limits verbs.Advertise s = advertised unit limits s
does unit limits verbs.Tick s = ticked unit limits s
does unit limits verbs.Show s = done outcome.Shown s
does unit limits (verbs.Quote symbol) s = quoted limits symbol s

-- the state that a verb leaves
abbrev pub next_state : ℕ → Limits → Verb → State → State
next_state unit limits verb s = record (does unit limits verb s).state { begun = true }

-- the state of a unit with these limits, with which these verbs were done, the newest first
abbrev pub state_of : ℕ → Limits → List Verb → State
state_of unit limits [] = start
state_of unit limits (verb ∷ before) = next_state unit limits verb (state_of unit limits before)
