-- What a turn brings: a message that is accepted, and datagrams that are sent.
use Rattle.std.specs.Prelude.{ℕ, zero, suc, ◌+◌, ◌-◌, ◌%◌, Bool, ◌==◌, min, List, [], ◌∷◌, ◌++◌}
use Rattle.std.specs.Prelude.{drop, if◌then◌else◌}
use Rattle.std.specs.List.{AllByRecursion}
use Rattle.pitch_io.specs.declared.line.Line.{Line}
use Rattle.pitch_io.specs.declared.line.Line.TheVariants.{A, B, Gap}
use Rattle.unit_packets.specs.BlockBytes.{block_bytes, heartbeat_block}
use Rattle.unit_packets.specs.Packing.{packed}
use Rattle.pitch_model.specs.History.{Raw}
use Rattle.heard_items.specs.Datagrams.{IsPiece}
use Rattle.venue_core.specs.Losses.{is_lost}
use Rattle.venue_core.specs.Plan.{plan}
use Rattle.world_model.specs.Ends.{default_limits}

-- a demo's number, and how many messages its venue accepts
pub record Setting : Type 0 where
  pub number : ℕ
  pub count : ℕ

abbrev pub setting : ℕ → ℕ → Setting
setting number count = record { number = number; count = count }

-- the unit, whose limits are those where none are said; how many messages its client can hold; the
-- room for what one call of `next` or `take` brings, which no datagram passes
abbrev pub demo_unit : ℕ
demo_unit = 1

abbrev pub hold_limit : ℕ
hold_limit = default_limits.hold

abbrev pub call_room : ℕ
call_room = 65535

-- in each turn one message of the plan is accepted, until all are
abbrev pub accepted : Setting → ℕ → ℕ
accepted s turn = min turn s.count

-- the messages that were accepted up to a turn
abbrev pub messages : Setting → ℕ → List Raw
messages s turn = plan s.number demo_unit (accepted s turn)

-- a datagram has messages that were accepted up to a turn, at their sequences
abbrev pub IsDuePiece : Setting → ℕ → List ℕ → Type 0
IsDuePiece s turn datagram = IsPiece (messages s turn) demo_unit datagram

abbrev pub AreDuePieces : Setting → ℕ → List (List ℕ) → Type 0
AreDuePieces s turn datagrams = AllByRecursion (IsDuePiece s turn) datagrams

-- the datagrams of the turn's message; there is none once all were accepted
abbrev pub new_datagrams : Setting → ℕ → List (List ℕ)
new_datagrams s turn =
    packed demo_unit (accepted s (turn - 1) + 1) (drop (accepted s (turn - 1)) (messages s turn))

-- a turn's copy is lost on a line by the rule of losses; nothing of the venue is sent on the gap
-- line
abbrev pub line_number : Line → ℕ
line_number A = 1
line_number B = 2
line_number Gap = 3

abbrev pub copies : Setting → Line → ℕ → List (List ℕ)
copies s line turn =
    if is_lost s.number demo_unit turn (line_number line) then [] else new_datagrams s turn

-- every tenth turn has a heartbeat and a tick
abbrev pub is_tenth : ℕ → Bool
is_tenth turn = turn % 10 == 0

-- the heartbeat of a turn
abbrev pub beat : Setting → ℕ → List ℕ
beat s turn = block_bytes (heartbeat_block demo_unit (accepted s turn + 1))

abbrev pub beats : Setting → ℕ → List (List ℕ)
beats s turn = if is_tenth turn then beat s turn ∷ [] else []

-- all that is sent on a line of the venue, up to a turn, in its order
abbrev pub due : Setting → Line → ℕ → List (List ℕ)
due s line zero = []
due s line (suc turn) = due s line turn ++ (copies s line (suc turn) ++ beats s (suc turn))

-- how many ticks come up to a turn
abbrev pub ticks : ℕ → ℕ
ticks zero = 0
ticks (suc turn) = if is_tenth (suc turn) then ticks turn + 1 else ticks turn
