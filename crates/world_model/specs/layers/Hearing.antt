-- What a client's end hears of the blocks that come on a line.
use Rattle.std.specs.Prelude.{◌≡◌, ℕ, Bool, nat_lt, List}
use Rattle.unit_packets.specs.Blocks.{Block}
use Rattle.pitch_io.specs.declared.line.Line.{Line}
use Rattle.pitch_model.specs.History.{Entry}
use Rattle.heard_items.specs.layers.DatagramCounts.{overflows_in}
use Rattle.line_arbiter.specs.Noted.{HasNoted}
use Rattle.line_arbiter.specs.declared.arbiter.Arbiter.{Arbiter}
use Rattle.client_end.specs.Came.{Came, end_after}
use Rattle.sending_end.specs.declared.end.SendingEnd.{SendingEnd}
use Rattle.world_model.specs.Ends.{client_setup}
use Rattle.world_model.specs.State.{State}
use Rattle.world_model.specs.Stands.{HasClient}
use Rattle.world_model.specs.Verbs.{hears}
use Rattle.world_model.specs.declared.limits.Limits.{Limits}

-- the hold, of H places, overflows with one of the blocks
abbrev pub overflow_in : ℕ → List Block → List Entry → Bool
overflow_in H blocks E = nat_lt 0 (overflows_in H E blocks)

-- a client's end that stands for what came to it, and an arbiter, have what a state has
pub record Listens (unit : ℕ) (limits : Limits) (e : SendingEnd) (arbiter : Arbiter) (s : State) :
    Type 0 where
  pub client : HasClient unit limits e s
  pub noted : HasNoted arbiter s.notes
  pub came : List Came
  pub came_is : s.client ≡ end_after (client_setup unit limits) came

-- they heard and noted blocks that came on a line
pub record HearsBlocks (unit : ℕ) (line : Line) (e e' : SendingEnd)
    (arbiter arbiter' : Arbiter) (blocks : List Block) (overflow : Bool) : Type 0 where
  pub listens : (limits : Limits) (s : State) → Listens unit limits e arbiter s
      → Listens unit limits e' arbiter' (hears unit limits line blocks s)
  pub overflow_is : (limits : Limits) (s : State) → Listens unit limits e arbiter s
      → overflow ≡ overflow_in limits.hold blocks s.client.heard
