-- When each function gives which answer.
use Rattle.std.specs.Prelude.{◌≡◌, ◌⊎◌, ℕ, ◌==◌, nat_lt, List, Option, None, Some, if◌then◌else◌}
use Rattle.std.specs.Prelude.{Result, Ok, Err}
use Rattle.std.specs.Option.{IsSome}
use Rattle.pitch_fields.specs.Limits.{most_held}
use Rattle.pitch_fields.specs.declared.side.Side.{Side}
use Rattle.unit_packets.specs.Blocks.{Block}
use Rattle.unit_packets.specs.Cutting.{is_truncated}
use Rattle.unit_packets.specs.Held.{StandsFirst}
use Rattle.unit_packets.specs.declared.header.Header.{Header}
use Rattle.unit_packets.specs.declared.header.BlockError.{BlockError}
use Rattle.client_core.specs.declared.client.UnitClient.{UnitClient}
use Rattle.unit_clients.specs.Clients.{Units, client_of}
use Rattle.unit_clients.specs.Room.{HearFreely}
use Rattle.leveled_units.specs.Hearing.{IsIdle}
use Rattle.pitch_c.specs.Codes as code

-- this code; or, in the place of 0, that memory ran out
abbrev pub Answers : ℕ → ℕ → Type 0
Answers wanted result = (result ≡ wanted) ⊎ ((wanted ≡ code.ok) × (result ≡ code.no_memory))

-- the same; or, in the place of 0, that memory ran out once a block was heard
abbrev pub AnswersQuoted : ℕ → ℕ → Type 0
AnswersQuoted wanted result = Answers wanted result ⊎ ((wanted ≡ code.ok) × (result ≡ code.untold))

-- a hold has from 1 to 65,536 places
abbrev pub hold_code : ℕ → ℕ
hold_code hold =
    if hold == 0 then code.bad_hold else if nat_lt most_held hold then code.bad_hold else code.ok

-- whether more bytes may complete the block, where none begins the bytes
abbrev pub judged_code : Result Header BlockError → ℕ
judged_code (Ok header) = code.ok
judged_code (Err error) = if is_truncated error then code.truncated else code.not_a_block

-- whether a unit has a client
abbrev pub client_code : Option UnitClient → ℕ
client_code None = code.no_client
client_code (Some client) = code.ok

-- whether a side is one, and then the other
abbrev pub side_code : Option Side → ℕ → ℕ
side_code None other = code.no_side
side_code (Some side) other = other

-- a block stands first in the bytes that may take memory: its unit has no client, or this has less
-- to spare than the block's messages and those that it holds
pub record MayTakeMemory (bytes : List ℕ) (units : Units) : Type 0 where
  pub block : Block
  pub stands : StandsFirst bytes block
  pub takes : HearFreely units block → ⊥

-- so it is where quotes are asked for: its unit has no client, or it has messages and a sequence
pub record MayTakeQuoted (bytes : List ℕ) (units : Units) : Type 0 where
  pub block : Block
  pub stands : StandsFirst bytes block
  pub takes : IsSome (client_of units block.unit) → IsIdle block → ⊥
