-- What the clients of all units stand for, once some blocks were heard. Blocks stand newest first.
use Rattle.std.specs.Prelude.{◌≡◌, ℕ, ◌<◌, Bool, true, false, ◌==◌, List, Option, Some, None}
use Rattle.std.specs.Prelude.{slice_get}
use Rattle.std.specs.Option.{option_flatten}
use Rattle.std.specs.List.{list_any}
use Rattle.unit_packets.specs.Blocks.{Block}
use Rattle.pitch_model.specs.History.{Raw, Entry}
use Rattle.pitch_model.specs.Honest.{Honest}
use Rattle.heard_items.specs.Units.{unit_history}
use Rattle.client_core.specs.Tracks.{Tracks, Keeps}
use Rattle.client_core.specs.Client.{IsAsBefore}
use Rattle.client_core.specs.declared.client.UnitClient.{UnitClient}
use Rattle.unit_clients.specs.Tables.{UnitTable, AtEach}

-- the clients of all units
abbrev pub Units : Type 0
Units = UnitTable UnitClient

-- the client of a unit, where it has one
abbrev pub client_of : Units → ℕ → Option UnitClient
client_of units unit = option_flatten (slice_get units.places unit)

-- a block names the unit
abbrev pub is_named : List Block → ℕ → Bool
is_named before unit = list_any (λ block. unit == block.unit) before

-- a header names a unit by one byte
abbrev pub AreUnits : List Block → Type 0
AreUnits before = (unit : ℕ) → is_named before unit ≡ true → unit < 256

-- a unit has a client exactly where a block names it, and the client is where the unit's blocks
-- bring it
abbrev pub IsClient : ℕ → List Block → ℕ → Option UnitClient → Type 0
IsClient H before unit None = is_named before unit ≡ false
IsClient H before unit (Some client) =
    (is_named before unit ≡ true) × Tracks client H (unit_history unit before)

-- there is a client, and it stands for this history
abbrev pub TracksAt : ℕ → List Entry → Option UnitClient → Type 0
TracksAt H E None = ⊥
TracksAt H E (Some client) = Tracks client H E

-- there is still no client, or what a caller can tell of it is as before
abbrev pub IsSlotAsBefore : Option UnitClient → Option UnitClient → Type 0
IsSlotAsBefore None slot = slot ≡ None
IsSlotAsBefore (Some client) None = ⊥
IsSlotAsBefore (Some client) (Some client') = IsAsBefore client client'

-- each of the 256 units has its place, and its client there
abbrev pub Clients : ℕ → List (Option UnitClient) → List Block → Type 0
Clients H clients before = AtEach (IsClient H before) clients

-- a unit's client, where it has one, keeps to these messages
abbrev pub KeepsTo : List Raw → Option UnitClient → Type 0
KeepsTo V None = Unit {0}
KeepsTo V (Some client) = Keeps client V

-- so it does to each venue's messages of which the unit's blocks speak honestly; it is nothing to
-- it whether those of other units do
abbrev pub KeepsToVenues : List Block → ℕ → Option UnitClient → Type 0
KeepsToVenues before unit client =
    (Image : List Raw → ℕ → List Raw) (V : List Raw)
    → Honest Image V (unit_history unit before) → KeepsTo V client

-- each unit's client heard its blocks, and keeps to its venue's messages wherever these blocks
-- speak of no others
pub record HaveHeard (units : Units) (before : List Block) : Type 0 where
  pub clients : Clients units.limit units.places before
  pub named : AreUnits before
  pub keep : AtEach (KeepsToVenues before) units.places
