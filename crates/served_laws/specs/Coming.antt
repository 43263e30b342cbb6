-- What may come to a client's end: on its lines a venue's messages, and by its connections with
-- Spin Servers what servers of the venue said. Of its session with the proxy nothing is asked.
use Rattle.std.specs.Prelude.{◌≡◌, ℕ, List, [], ◌∷◌, ◌++◌}
use mathlib.Core.List.{IsPrefix}
use Rattle.std.specs.List.{AllByRecursion}
use Rattle.heard_items.specs.Datagrams.{IsVenueBlock}
use Rattle.pitch_model.specs.History.{Raw}
use Rattle.session_ends.specs.Closing.{Setup}
use Rattle.session_ends.specs.Events.{Event}
use Rattle.spin_server.specs.Served.{Served}
use Rattle.spin_path.specs.Paths.{IsSpinServer, MayServe, all_said}
use Rattle.client_end.specs.Came.{Came, Heard, SpinMade, SpinTook, SpinLost}

-- ---- Bytes of a Spin Server
-- these bytes begin what a Spin Server of the unit said, which saw the first of these messages and
-- no sequence past them, and was told of none past them
pub record IsSaid (V : List Raw) (unit : ℕ) (bytes : List ℕ) : Type 0 where
  pub setup : Setup
  pub server : IsSpinServer setup
  pub unit_is : setup.unit ≡ unit
  pub happened : List (Event (List Served))
  pub served : AllByRecursion (MayServe V) happened
  pub begins : IsPrefix bytes (all_said setup happened)

-- the bytes that came since the last connection with a Spin Server was made, joined
abbrev pub spin_bytes : List Came → List ℕ
spin_bytes [] = []
spin_bytes (SpinMade ∷ before) = []
spin_bytes (SpinTook bytes ∷ before) = spin_bytes before ++ bytes
spin_bytes (SpinLost bytes count ∷ before) = spin_bytes before ++ bytes
spin_bytes (came ∷ before) = spin_bytes before

-- ---- All that comes
-- this may come after that: a block of the venue's messages, and bytes that go on with what one
-- server said by that connection; anything else may come at any time
abbrev pub MayCome : List Raw → ℕ → Came → List Came → Type 0
MayCome V unit (Heard block) before = IsVenueBlock V unit block
MayCome V unit (SpinTook bytes) before = IsSaid V unit (spin_bytes before ++ bytes)
MayCome V unit (SpinLost bytes count) before = IsSaid V unit (spin_bytes before ++ bytes)
MayCome V unit came before = Unit {0}

-- all that came, the newest first, is of the venue with these messages
abbrev pub ComesFrom : List Raw → ℕ → List Came → Type 0
ComesFrom V unit [] = Unit {0}
ComesFrom V unit (came ∷ before) = MayCome V unit came before × ComesFrom V unit before
