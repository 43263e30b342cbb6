-- What a run of a live venue sent and put, by its calls alone, and what of that comes to the units
-- of a live client. Calls, and what came, stand newest first.
use Rattle.std.specs.Prelude.{◌≡◌, ℕ, ◌==◌, true, List, [], ◌∷◌, ◌++◌, Contains, take, slice_get}
use Rattle.std.specs.Prelude.{Some, if◌then◌else◌}
use Rattle.std.specs.Option.{option_map_or}
use mathlib.Core.List.{IsPrefix}
use Rattle.unit_packets.specs.Blocks.{Block}
use Rattle.unit_packets.specs.Cutting.{blocks_of}
use Rattle.pitch_model.specs.History.{Raw}
use Rattle.client_end.specs.Came.{Came, Heard, SpinTook, SpinLost}
use Rattle.live_net.specs.declared.live.PeerPut.TheVariants as put
use Rattle.venue_net.specs.VenueCalls.{VenueCall, Send, Accept, Put}
use Rattle.venue_end.specs.declared.setup.VenueSetup.{VenueSetup}
use Rattle.venue_units.specs.Coming.{UnitCame, state_at}
use Rattle.venue_units.specs.Places.{is_spin, unit_of}
use Rattle.live_venue.specs.Input.{index_of}
use Rattle.live_venue.specs.Serving.{IsLineOf}
use Rattle.live_units.specs.Coming.{came_to}
use Rattle.live_units.specs.Coming as live
use Rattle.served_laws.specs.Coming.{spin_bytes}

-- ---- Datagrams
-- the block stands in a datagram that was sent on a line of the unit of this number
pub record IsSent (s : List VenueSetup) (run : List VenueCall) (unit : ℕ) (block : Block) :
    Type 0 where
  pub at : ℕ
  pub is_at : index_of s unit ≡ Some at
  pub line : ℕ
  pub line_is : IsLineOf at line
  pub datagram : List ℕ
  pub sent : Contains run (Send line datagram)
  pub within : Contains (blocks_of datagram) block

-- ---- Bytes
-- what was put at a place since a client was let in there: of each piece the bytes that were taken
abbrev pub was_put : ℕ → List VenueCall → List ℕ
was_put place [] = []
was_put place (Accept at true ∷ before) = if at == place then [] else was_put place before
was_put place (Put at piece (put.Wrote n) ∷ before) =
    if at == place then was_put place before ++ take n piece else was_put place before
was_put place (call ∷ before) = was_put place before

-- these bytes begin what was put at one place of the Spin Server of the unit of this number, by a
-- time at which only the first of these calls were made
pub record IsPut (s : List VenueSetup) (run : List VenueCall) (unit : ℕ) (bytes : List ℕ) :
    Type 0 where
  pub at : ℕ
  pub is_at : index_of s unit ≡ Some at
  pub place : ℕ
  pub unit_is : unit_of place ≡ at
  pub at_spin : is_spin place ≡ true
  pub later : List VenueCall
  pub first : List VenueCall
  pub run_is : run ≡ later ++ first
  pub begins : IsPrefix bytes (was_put place first)

-- ---- All that comes
-- this may come to the unit of a client after that: a block that was sent, and bytes that go on
-- with what was put at one place; anything else may come at any time
abbrev pub MayReach : List VenueSetup → List VenueCall → ℕ → Came → List Came → Type 0
MayReach s run unit (Heard block) came = IsSent s run unit block
MayReach s run unit (SpinTook bytes) came = IsPut s run unit (spin_bytes came ++ bytes)
MayReach s run unit (SpinLost bytes count) came = IsPut s run unit (spin_bytes came ++ bytes)
MayReach s run unit new came = Unit {0}

-- all that came to the unit is of that run
abbrev pub UnitHears : List VenueSetup → List VenueCall → ℕ → List Came → Type 0
UnitHears s run unit [] = Unit {0}
UnitHears s run unit (new ∷ came) = MayReach s run unit new came × UnitHears s run unit came

-- all that came to each unit of a live client is
abbrev pub Hears : List VenueSetup → List VenueCall → List live.UnitCame → Type 0
Hears s run came = (unit : ℕ) → UnitHears s run unit (came_to unit came)

-- ---- The venue
-- the messages that the unit at an index accepted
abbrev pub messages_at : List VenueSetup → List UnitCame → ℕ → List Raw
messages_at s came at =
    option_map_or (λ setup. (state_at setup at came).messages) (slice_get s at) []

-- and those of the unit of a number; none where there is no such unit
abbrev pub messages_of : List VenueSetup → List UnitCame → ℕ → List Raw
messages_of s came unit = option_map_or (messages_at s came) (index_of s unit) []
