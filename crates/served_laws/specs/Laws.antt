-- What holds of all that a venue's end serves and a client's end hears of it.
use Rattle.std.specs.Prelude.{◌≡◌, ℕ, ◌<◌, List, ◌++◌, Some}
use Rattle.std.specs.List.{AllByRecursion}
use Rattle.heard_items.specs.Datagrams.{IsPiece}
use Rattle.pitch_model.specs.History.{Raw}
use Rattle.pitch_model.specs.Honest.{Honest}
use Rattle.pitch_model.specs.Image.{image}
use Rattle.spin_server.specs.Served.{Served}
use Rattle.spin_path.specs.Paths.{all_said}
use Rattle.spin_path.specs.PathLaws.{IsFeed, NoneBad}
use Rattle.client_end.specs.Came.{Came, EndSetup, end_history}
use Rattle.venue_end.specs.Came.{VenueCame, venue_after}
use Rattle.venue_end.specs.Servers.{spin_setup}
use Rattle.venue_end.specs.Sessions.{Session, session_of}
use Rattle.venue_end.specs.Stands.{VenueStands}
use Rattle.venue_end.specs.declared.setup.VenueSetup.{VenueSetup}
use Rattle.venue_end.specs.declared.venue.VenueEnd.{VenueEnd}
use Rattle.served_laws.specs.Coming.{ComesFrom, IsSaid}
use Rattle.served_laws.specs.Putting.{put_of}
use Rattle.served_laws.specs.Beside.{ComesBeside, handed_out}

-- ---- The client's side
-- what is served is honest
abbrev pub ServedIsHonest : Type 0
ServedIsHonest = (V : List Raw) (s : EndSetup) (came : List Came)
    → IsFeed V → ComesFrom V s.unit came → Honest image V (end_history s came)

-- and no image of it is bad
abbrev pub ServedIsWhole : Type 0
ServedIsWhole = (V : List Raw) (s : EndSetup) (came : List Came)
    → IsFeed V → ComesFrom V s.unit came → NoneBad (end_history s came)

-- more messages take nothing away
abbrev pub ServedStays : Type 0
ServedStays = (V more : List Raw) (unit : ℕ) (came : List Came)
    → ComesFrom V unit came → ComesFrom (V ++ more) unit came

-- ---- The venue's side
-- what was put to a session, and then what waits for it, is all that its server said
abbrev pub AllIsPut : Type 0
AllIsPut = (s : VenueSetup) (before : List VenueCame) (id : ℕ) (session : Session (List Served))
    → session_of id (venue_after s before).spins ≡ Some session
    → all_said (spin_setup s) session.happened ≡ put_of s id before ++ session.waiting

-- so whatever was put, a Spin Server of the venue's messages said it
abbrev pub PutIsSaid : Type 0
PutIsSaid = (s : VenueSetup) (before : List VenueCame) (id : ℕ)
    → s.unit < 256 → IsSaid (venue_after s before).messages s.unit (put_of s id before)

-- also once more came
abbrev pub PutStaysSaid : Type 0
PutStaysSaid = (s : VenueSetup) (later before : List VenueCame) (id : ℕ)
    → s.unit < 256 → IsSaid (venue_after s (later ++ before)).messages s.unit (put_of s id before)

-- ---- Both, where a venue's end stands for what came to it
-- all that it handed out on its lines are pieces of its feed
abbrev pub HandedOutArePieces : Type 0
HandedOutArePieces = (s : VenueSetup) (venue : VenueEnd) (before : List VenueCame)
    → s.unit < 256 → VenueStands s venue before
    → AllByRecursion (IsPiece (venue_after s before).messages s.unit) (handed_out s before)

-- what comes to a client's end beside it is of the venue
abbrev pub BesideComesFrom : Type 0
BesideComesFrom = (s : VenueSetup) (venue : VenueEnd) (before : List VenueCame) (came : List Came)
    → s.unit < 256 → VenueStands s venue before → ComesBeside s before came
    → ComesFrom (venue_after s before).messages s.unit came

-- so the client's history speaks honestly of all that the venue accepted
abbrev pub BesideIsHonest : Type 0
BesideIsHonest = (s : VenueSetup) (venue : VenueEnd) (before : List VenueCame)
    (c : EndSetup) (came : List Came)
    → s.unit < 256 → VenueStands s venue before → c.unit ≡ s.unit → ComesBeside s before came
    → Honest image (venue_after s before).messages (end_history c came)

-- and no image that it hears is bad
abbrev pub BesideIsWhole : Type 0
BesideIsWhole = (s : VenueSetup) (venue : VenueEnd) (before : List VenueCame)
    (c : EndSetup) (came : List Came)
    → s.unit < 256 → VenueStands s venue before → c.unit ≡ s.unit → ComesBeside s before came
    → NoneBad (end_history c came)

-- what comes to the venue's end later takes nothing away
abbrev pub BesideStays : Type 0
BesideStays = (s : VenueSetup) (later before : List VenueCame) (came : List Came)
    → ComesBeside s before came → ComesBeside s (later ++ before) came
