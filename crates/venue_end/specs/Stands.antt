-- When a venue's end stands for all that came to it.
use Rattle.std.specs.Prelude.{◌≡◌, ◌≤◌, List, ◌∷◌, length, drop}
use Rattle.std.specs.List.{AllZip}
use Rattle.session_ends.specs.Ending.{Ending}
use Rattle.session_ends.specs.Events.{Event}
use Rattle.grp_session.specs.Budget.{Counts, Counted, Spent}
use Rattle.grp_session.specs.Serving.{Source, ProxyStands}
use Rattle.spin_server.specs.Served.{Served}
use Rattle.spin_server.specs.Serving.{Serving, SpinStands}
use Rattle.unit_market.specs.Markets.{MarketHas}
use Rattle.venue_end.specs.Servers.{limits_of, proxy_setup, spin_setup}
use Rattle.venue_end.specs.Sessions.{Session}
use Rattle.venue_end.specs.Came.{VenueCame, VenueState, AllCut, journal_in, venue_after}
use Rattle.venue_end.specs.declared.servers.Servers.{Servers}
use Rattle.venue_end.specs.declared.setup.VenueSetup.{VenueSetup}
use Rattle.venue_end.specs.declared.table.Place.{Place}
use Rattle.venue_end.specs.declared.table.SessionTable.{SessionTable}
use Rattle.venue_end.specs.declared.venue.VenueEnd.{VenueEnd}

-- ---- The sessions
-- a proxy's server that was made so, at which this happened
pub record IsProxy (server : Ending) (s : VenueSetup) (es : List (Event Source)) : Type 0 where
  pub made : server.setup ≡ proxy_setup s
  pub stands : ProxyStands server es

-- a Spin Server
pub record IsSpinServer (server : Serving) (s : VenueSetup) (es : List (Event (List Served))) :
    Type 0 where
  pub made : server.end.setup ≡ spin_setup s
  pub stands : SpinStands server es

-- a session, by how its server stands: its number, what happened, and what waits, which is what was
-- said without the first bytes that were put
pub record PlaceIs {S X : Type 0} (is_server : S → VenueSetup → List (Event X) → Type 0)
    (s : VenueSetup) (place : Place S) (session : Session X) : Type 0 where
  pub id_is : place.id ≡ session.id
  pub server : is_server place.server s session.happened
  pub within : place.put ≤ length place.said.items
  pub waits : drop place.put place.said.items ≡ session.waiting

-- a table has these sessions, in their order
abbrev pub TableIs : {S X : Type 0} → (S → VenueSetup → List (Event X) → Type 0)
    → VenueSetup → SessionTable S → List (Session X) → Type 0
TableIs is_server s table sessions = AllZip (PlaceIs is_server s) table.places.items sessions

-- ---- The servers
-- a budget has the account's limits, and counts what was spent
pub record BudgetIs (s : VenueSetup) (budget : Counts) (spent : Spent) : Type 0 where
  pub limits_are : budget.limits ≡ limits_of s
  pub counted : Counted budget spent

-- servers that were made so have these sessions, which spent this
pub record ServersAre (s : VenueSetup) (servers : Servers) (now : VenueState) : Type 0 where
  pub setup_is : servers.setup ≡ s
  pub budget : BudgetIs s servers.budget now.spent
  pub proxies : TableIs IsProxy s servers.proxies now.proxies
  pub spins : TableIs IsSpinServer s servers.spins now.spins

-- ---- The end
-- its market has the messages and the sequences, and its servers the sessions
pub record VenueIs (s : VenueSetup) (e : VenueEnd) (now : VenueState) : Type 0 where
  pub market : MarketHas e.market (journal_in s now)
  pub servers : ServersAre s e.servers now

-- an end that was made so stands for all that came to it, the newest first
abbrev pub VenueStands : VenueSetup → VenueEnd → List VenueCame → Type 0
VenueStands s e before = VenueIs s e (venue_after s before)

-- ---- In the words of its contracts
-- P holds of each setup and all that came for which the end stands
abbrev pub OfVenue : VenueEnd → (VenueSetup → List VenueCame → Type 0) → Type 0
OfVenue e P = (s : VenueSetup) (before : List VenueCame) → VenueStands s e before → P s before

-- whatever came before, this came too
abbrev pub Comes : VenueEnd → VenueEnd → VenueCame → Type 0
Comes e e' came = OfVenue e (λ s before. VenueStands s e' (came ∷ before))

-- this came, and then all sessions were cut
abbrev pub ComesAndCuts : VenueEnd → VenueEnd → VenueCame → Type 0
ComesAndCuts e e' came = OfVenue e (λ s before. VenueStands s e' (AllCut ∷ came ∷ before))

-- it stands for what it stood for
abbrev pub StandsStill : VenueEnd → VenueEnd → Type 0
StandsStill e e' = OfVenue e (λ s before. VenueStands s e' before)
