-- What the blocks of a datagram add to a history, and the datagrams of a venue.
use Rattle.std.specs.Prelude.{◌≡◌, ℕ, ◌+◌, ◌≤◌, ◌<◌, List, [], ◌∷◌, length, ◌==◌, if◌then◌else◌}
use Rattle.std.specs.List.{AllByRecursion}
use Rattle.unit_packets.specs.Blocks.{Block}
use Rattle.unit_packets.specs.Cutting.{blocks_of, rest_of}
use Rattle.pitch_model.specs.History.{Entry, Raw}
use Rattle.pitch_model.specs.Honest.{AreVenues}
use Rattle.heard_items.specs.Heard.{heard_block}

-- ---- Blocks that are heard one after another
-- a history with blocks that are heard after it
abbrev pub heard_blocks : List Block → List Entry → List Entry
heard_blocks [] E = E
heard_blocks (block ∷ blocks) E = heard_blocks blocks (heard_block block E)

-- how many of a block's messages are heard: none of an unsequenced block
abbrev pub block_messages : Block → ℕ
block_messages block = if block.sequence == 0 then 0 else length block.raws

-- ---- Datagrams of a venue
-- a block of a unit that has some of the venue's messages `V`, from its sequence on; or a
-- heartbeat, which tells at most of the message after the last of `V`
pub record IsVenueBlock (V : List Raw) (unit : ℕ) (block : Block) : Type 0 where
  pub unit_is : block.unit ≡ unit
  pub sequenced : 0 < block.sequence
  pub messages : AreVenues V block.sequence block.raws
  pub within : block.sequence + length block.raws ≤ length V + 1

-- a datagram is whole blocks of that kind
pub record IsPiece (V : List Raw) (unit : ℕ) (datagram : List ℕ) : Type 0 where
  pub whole : rest_of datagram ≡ []
  pub blocks : AllByRecursion (IsVenueBlock V unit) (blocks_of datagram)
