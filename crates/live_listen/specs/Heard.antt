-- What a listener hears in a run. The calls of a run stand newest first, datagrams and blocks in
-- their order.
use Rattle.std.specs.Prelude.{ℕ, ◌==◌, Bool, true, List, [], ◌∷◌, ◌++◌, filter}
use Rattle.std.specs.List.{flat_map, list_any}
use Rattle.unit_packets.specs.Blocks.{Block}
use Rattle.unit_packets.specs.Cutting.{blocks_of}
use Rattle.live_net.specs.LineCalls.{LineCall, Receive}
use Rattle.live_net.specs.declared.net.Received.TheVariants as received

-- the datagrams that came
abbrev pub datagrams_of : List LineCall → List (List ℕ)
datagrams_of [] = []
datagrams_of (Receive line room bytes (received.Got n) ∷ before) = datagrams_of before ++ bytes ∷ []
datagrams_of (call ∷ before) = datagrams_of before

-- a unit is listened to: it was named, or no unit was
abbrev pub is_listened : List ℕ → ℕ → Bool
is_listened [] unit = true
is_listened (first ∷ others) unit = list_any (λ named. named == unit) (first ∷ others)

-- a block's unit is
abbrev pub is_wanted : List ℕ → Block → Bool
is_wanted units block = is_listened units block.unit

-- of a datagram the whole blocks at its start are heard, where their units are listened to
abbrev pub heard_in : List ℕ → List ℕ → List Block
heard_in units datagram = filter (is_wanted units) (blocks_of datagram)

-- the blocks that were heard
abbrev pub blocks_heard : List ℕ → List (List ℕ) → List Block
blocks_heard units datagrams = flat_map (heard_in units) datagrams
