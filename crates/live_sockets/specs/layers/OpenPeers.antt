-- What a caller sees of lines and peers over sockets.
use Rattle.std.specs.Prelude.{◌≡◌, ℕ, Bool, true, false, List, set, get_or}
use Rattle.live_net.specs.declared.live.PeerOpened.{PeerOpened}
use Rattle.live_net.specs.declared.live.PeerOpened.TheVariants as opened
use Rattle.live_net.specs.declared.live.PeerTaken.{PeerTaken}
use Rattle.live_net.specs.declared.live.PeerTaken.TheVariants as taken
use Rattle.live_net.specs.declared.live.PeerPut.{PeerPut}
use Rattle.live_net.specs.declared.live.PeerPut.TheVariants as put

-- how many lines there are, which peers have a connection, and how often a line or the wait failed
pub record OpenLive : Type 0 where
  pub lines : ℕ
  pub connected : List Bool
  pub faults : ℕ

-- this peer has a connection; one that is not there has none
abbrev pub HasConnection : List Bool → ℕ → Type 0
HasConnection connected peer = get_or connected peer false ≡ true

-- a call leaves this peer with a connection or without, and all else as it was
abbrev pub Leaves : OpenLive → OpenLive → ℕ → Bool → Type 0
Leaves old new peer stands = new ≡ record old { connected = set old.connected peer stands }

-- whether the peer has a connection after such an answer
abbrev pub is_begun : PeerOpened → Bool
is_begun opened.Begun = true
is_begun opened.Refused = false

abbrev pub stands_after_take : PeerTaken → Bool
stands_after_take taken.Ended = false
stands_after_take answer = true

abbrev pub stands_after_put : PeerPut → Bool
stands_after_put put.Ended = false
stands_after_put answer = true
