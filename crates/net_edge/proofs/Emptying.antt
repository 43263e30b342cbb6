-- All that waits is put, at one end after another.
use Rattle.std.proofs.Common.{◌≡◌, List, length, Option, refl, sym, ◌∙◌, subst, arith}
use Rattle.pitch_io.specs.declared.net.LinkEnd.{LinkEnd}
use Rattle.pitch_io.specs.Nets.{Call}
use Rattle.venue_end.specs.Came.{VenueState}
use Rattle.world_model.specs.State.{State}
use Rattle.net_edge.specs.Acting.{put_at}
use Rattle.net_edge.specs.Due.{Setting}
use Rattle.net_edge.specs.Scene.{Scene, waits_at}
use Rattle.net_edge.specs.declared.stage.Stage.{Stage}
use Rattle.net_edge.specs.layers.Ends.{Becomes, Holds}
use Rattle.net_edge.specs.layers.Playing.{Plays, StageAt, all_put_at, ended_in}

-- all that waits at an end of a world is put
abbrev pub put_one : LinkEnd → State → State
put_one at w = put_at at (length (waits_at at w)) w

pub put_world : (at : LinkEnd) (now : Scene) → (all_put_at at now).world ≡ put_one at now.world
put_world at now = grind arith

pub put_turn : (at : LinkEnd) (now : Scene) → (all_put_at at now).turn ≡ now.turn
put_turn at now = grind arith

put_ended : (at : LinkEnd) (now : Scene) → ended_in (all_put_at at now) ≡ ended_in now
put_ended at now = grind arith

-- what a call that puts all at an end ensures of the net's calls
abbrev pub PutsAll : {V : Type 0} → (V → VenueState → Type 0) → LinkEnd → Option (List Call) → Option (List Call) → Stage V → Type 0
PutsAll is at c0 c1 e0 = (s : Setting) (base : List Call) (now : Scene) (w : State) → Holds is e0 w → waits_at at w ≡ waits_at at now.world → Plays s base c0 now → Plays s base c1 (all_put_at at now)

pub put_more : {V : Type 0} {is : V → VenueState → Type 0} (at : LinkEnd) {s : Setting} {base : List Call} {c0 c1 : Option (List Call)} {e0 e1 : Stage V} {now : Scene} → Becomes is e0 e1 (put_one at) → PutsAll is at c0 c1 e0 → StageAt is s base c0 e0 now
    → StageAt is s base c1 e1 (all_put_at at now)
put_more {is = is} at {s = s} {base = base} {e1 = e1} {now = now} becomes plays stage = record {
  few = stage.few;
  holds = subst (Holds is e1) (sym (put_world at now)) (becomes.holds now.world stage.holds);
  ended = becomes.ended ∙ stage.ended ∙ sym (put_ended at now);
  plays = plays s base now now.world stage.holds refl stage.plays;
}
