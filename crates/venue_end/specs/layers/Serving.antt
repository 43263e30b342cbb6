-- What the servers of a unit do, whatever they answer from.
use Rattle.std.specs.Prelude.{◌≡◌, ℕ, List, ◌∷◌, ◌++◌, length, replicate}
use Rattle.session_ends.specs.Events.{Event, Fed}
use Rattle.session_ends.specs.Sending.{new_items}
use Rattle.spin_server.specs.Served.{Served}
use Rattle.spin_server.specs.Serving.{Serving, SpinStands, spin_sends}
use Rattle.unit_market.specs.Markets.{Journal}
use Rattle.venue_end.specs.Came.{VenueCame, VenueState, AllCut, journal_in, venue_step}
use Rattle.venue_end.specs.Stands.{ServersAre}
use Rattle.venue_end.specs.declared.servers.Servers.{Servers}
use Rattle.venue_end.specs.declared.setup.VenueSetup.{VenueSetup}

-- ---- A venue's side
-- it has each journal that it had
abbrev pub StillHas : {M : Type 0} → (M → Journal → Type 0) → M → M → Type 0
StillHas has side side' = (j : Journal) → has side j → has side' j

-- a Spin Server was fed a piece, each message of which was answered at this view
pub record SpinFed (es : List (Event (List Served))) (piece : List ℕ) (view : Served)
    (old new : Serving) (said said' : List ℕ) : Type 0 where
  pub stands : SpinStands new (Fed piece (replicate (length (new_items es piece)) view) ∷ es)
  pub replied : said' ≡ said ++ spin_sends old.end.setup
      (Fed piece (replicate (length (new_items es piece)) view)) es

-- ---- In the words of the servers' contracts
-- P holds of each setup and state of which the servers are
abbrev pub OfServers : Servers → (VenueSetup → VenueState → Type 0) → Type 0
OfServers servers P = (s : VenueSetup) (now : VenueState) → ServersAre s servers now → P s now

-- and whose journal the venue's side has
abbrev pub OverSide : {M : Type 0} → (M → Journal → Type 0)
    → M → Servers → (VenueSetup → VenueState → Type 0) → Type 0
OverSide has side servers P =
    OfServers servers (λ s now. has side (journal_in s now) → P s now)

-- whatever they were of, this came
abbrev pub ComesTo : Servers → Servers → VenueCame → Type 0
ComesTo servers servers' came =
    OfServers servers (λ s now. ServersAre s servers' (venue_step s came now))

-- this came, and then all sessions were cut
abbrev pub ComesToAndCuts : Servers → Servers → VenueCame → Type 0
ComesToAndCuts servers servers' came =
    OfServers servers (λ s now. ServersAre s servers' (venue_step s AllCut (venue_step s came now)))

-- they are of what they were of
abbrev pub ServersStay : Servers → Servers → Type 0
ServersStay servers servers' = OfServers servers (λ s now. ServersAre s servers' now)
