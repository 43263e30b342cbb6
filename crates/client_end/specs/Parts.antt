-- When the parts of an end are those of a state.
use Rattle.std.specs.Prelude.{◌≡◌, ℕ, List, Option, None, Some}
use Rattle.pitch_model.specs.History.{Entry, Raw}
use Rattle.session_ends.specs.Closing.{Setup}
use Rattle.session_ends.specs.Ending.{Ending}
use Rattle.session_ends.specs.Events.{Event}
use Rattle.client_core.specs.Tracks.{Tracks, Keeps}
use Rattle.client_core.specs.Venues.{IsVenue}
use Rattle.client_core.specs.declared.client.UnitClient.{UnitClient}
use Rattle.client_links.specs.Linking.{Lookups, LinkStands}
use Rattle.client_end.specs.Links.{gap_link, spin_link}
use Rattle.client_end.specs.Came.{EndSetup, EndState}
use Rattle.client_end.specs.declared.end.ClientEnd.{ClientEnd}

-- the client, whose hold has H places, is where what it heard brings it; and its book and what it
-- holds are the messages of each venue of which that history speaks honestly
pub record ClientHeard (H : ℕ) (client : UnitClient) (E : List Entry) : Type 0 where
  pub tracks : Tracks client H E
  pub keeps : (V : List Raw) → IsVenue V E → Keeps client V

-- a link was made so and stands for what happened to it, or there is none
abbrev pub LinkIs : Setup → Option Ending → Option (List (Event Lookups)) → Type 0
LinkIs setup None None = Unit {0}
LinkIs setup None (Some events) = ⊥
LinkIs setup (Some link) None = ⊥
LinkIs setup (Some link) (Some events) = (link.setup ≡ setup) × LinkStands link events

-- a client and its two links
pub record PartsAre (s : EndSetup) (client : UnitClient) (grp spin : Option Ending)
    (now : EndState) : Type 0 where
  pub has : ClientHeard s.hold client now.heard
  pub grp_is : LinkIs gap_link grp now.grp
  pub spin_is : LinkIs (spin_link s.unit) spin now.spin

pub record EndIs (s : EndSetup) (e : ClientEnd) (now : EndState) : Type 0 where
  pub unit_is : e.unit ≡ s.unit
  pub account_is : e.account ≡ s.account
  pub parts : PartsAre s e.client e.grp e.spin now
