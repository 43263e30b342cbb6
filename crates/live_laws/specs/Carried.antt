-- What the net of a live client carried of a run of a live venue, by the calls of both alone. Calls
-- stand newest first.
use Rattle.std.specs.Prelude.{◌≡◌, ℕ, ◌==◌, List, [], ◌∷◌, ◌++◌, Some, slice_get, if◌then◌else◌}
use Rattle.std.specs.List.{AllByRecursion}
use Rattle.unit_packets.specs.Cutting.{blocks_of}
use Rattle.sending_end.specs.declared.session.Session.TheVariants.{SpinServer}
use Rattle.live_net.specs.LiveCalls.{LiveCall, Receive, Open, Take}
use Rattle.live_net.specs.declared.net.Received.TheVariants as received
use Rattle.live_net.specs.declared.live.PeerOpened.TheVariants as opened
use Rattle.live_net.specs.declared.live.PeerTaken.TheVariants as taken
use Rattle.live_recovery.specs.declared.peer.Peer.{Peer}
use Rattle.venue_end.specs.declared.setup.VenueSetup.{VenueSetup}
use Rattle.venue_net.specs.VenueCalls.{VenueCall}
use Rattle.live_laws.specs.Sent.{IsPut, IsSent}

-- the Spin Server of a unit, as a client's peer
abbrev pub spin_peer : ℕ → Peer
spin_peer unit = record { unit = unit; session = SpinServer }

-- no two of a client's peers are the Spin Server of one unit
abbrev pub AreApart : List Peer → Type 0
AreApart peers = (at other unit : ℕ) → slice_get peers at ≡ Some (spin_peer unit)
    → slice_get peers other ≡ Some (spin_peer unit) → at ≡ other

-- the bytes that a peer gave since a connection with it was begun
abbrev pub was_given : ℕ → List LiveCall → List ℕ
was_given peer [] = []
was_given peer (Open at opened.Begun ∷ before) = if at == peer then [] else was_given peer before
was_given peer (Take at room bytes (taken.Got n) ∷ before) =
    if at == peer then was_given peer before ++ bytes else was_given peer before
was_given peer (call ∷ before) = was_given peer before

-- a call of the client brings what that run sent and put: each block of a datagram was sent for its
-- unit, and the bytes of a Spin Server go on with what was put at one place of its unit
abbrev pub Carries : List VenueSetup
    → List VenueCall → List Peer → LiveCall → List LiveCall → Type 0
Carries s run peers (Receive line room bytes (received.Got n)) before =
    AllByRecursion (λ block. IsSent s run block.unit block) (blocks_of bytes)
Carries s run peers (Take peer room bytes (taken.Got n)) before = (unit : ℕ)
    → slice_get peers peer ≡ Some (spin_peer unit)
    → IsPut s run unit (was_given peer before ++ bytes)
Carries s run peers call before = Unit {0}

-- so do all calls of a client's run
abbrev pub AllCarried : List VenueSetup → List VenueCall → List Peer → List LiveCall → Type 0
AllCarried s run peers [] = Unit {0}
AllCarried s run peers (call ∷ before) =
    Carries s run peers call before × AllCarried s run peers before
