-- One step more in a run that is under way.
use Rattle.std.proofs.Common.{◌≡◌, ◌≤◌, ℕ, ◌+◌, List, [], ◌∷◌, ◌++◌, take, drop, length, Option, None, Some, true, ap, sym, ◌∙◌, subst, append_assoc, length-append, arith}
use Rattle.std.proofs.lemmas.List.{append-nil, length-take-le}
use Rattle.std.proofs.Math.Seq.{take-add}
use Rattle.pitch_io.specs.declared.line.Line.{Line}
use Rattle.pitch_io.specs.declared.line.Line.TheVariants.{B}
use Rattle.pitch_io.specs.declared.net.LinkEnd.{LinkEnd}
use Rattle.pitch_io.specs.declared.net.LinkEnd.TheVariants.{GrpClient}
use Rattle.pitch_io.specs.declared.net.NetDone.TheVariants.{Done}
use Rattle.pitch_io.specs.Nets.{Call, Send}
use Rattle.pitch_io.specs.layers.Coming.{ListsCall}
use Rattle.net_edge.specs.Acting.{called, scene_after, sent_on, end_puts, in_world, all_tick, next_turn}
use Rattle.net_edge.specs.Breaking.{ListsAdded}
use Rattle.net_edge.specs.Due.{Setting, IsDuePiece, beat, is_tenth}
use Rattle.net_edge.specs.layers.Playing.{Plays}
use Rattle.net_edge.specs.Scene.{Scene, waits_at}
use Rattle.net_edge.specs.Steps.{Did, Beat, Turn, calls_of}
use Rattle.net_edge.specs.Turns.{GoesWell, MayCall, MayCome, IsOver, MayGoOn}
use Rattle.net_edge.proofs.Waits.{put_at_both, put_at_none, waits_left}

pub told_then : (base : List Call) (calls calls' : Option (List Call)) (call : Call) (added : List Call) → ListsAdded base calls added → ListsCall calls calls' call → ListsAdded base calls' (call ∷ added)
told_then base calls None call added told lists = tt
told_then base None (Some after) call added told lists = absurd lists
told_then base (Some before) (Some after) call added told lists = lists ∙ ap (λ (x : List Call). call ∷ x) told

-- a call more
pub play_call : (s : Setting) (base : List Call) (calls calls' : Option (List Call)) (now : Scene) (call : Call) → ListsCall calls calls' call → GoesWell call → MayCall s call now → Plays s base calls now → Plays s base calls' (called call now)
play_call s base calls calls' now call lists well may plays = (
  Did call ∷ plays.0,
  record {
    told = told_then base calls calls' call (calls_of plays.0) plays.1.told lists;
    steps = ((well, subst (MayCall s call) (sym plays.1.now_is) may), plays.1.steps);
    now_is = ap (called call) plays.1.now_is;
  },
)

-- the turn's heartbeat on line B, with its tick
pub play_beat : (s : Setting) (base : List Call) (calls calls' : Option (List Call)) (now : Scene) (heartbeat : List ℕ) → ListsCall calls calls' (Send B heartbeat Done) → heartbeat ≡ beat s now.turn → is_tenth now.turn ≡ true → IsDuePiece s now.turn heartbeat
    → Plays s base calls now → Plays s base calls' (in_world all_tick (sent_on B (heartbeat ∷ []) now))
play_beat s base calls calls' now heartbeat lists is tenth piece plays = (
  Beat heartbeat Done ∷ plays.0,
  record {
    told = told_then base calls calls' (Send B heartbeat Done) (calls_of plays.0) plays.1.told lists;
    steps = (subst (MayCome s (Beat heartbeat Done)) (sym plays.1.now_is) ((λ failed. failed), is, tenth, piece), plays.1.steps);
    now_is = ap (scene_after s (Beat heartbeat Done)) plays.1.now_is;
  },
)

-- the next turn begins
pub play_turn : (s : Setting) (base : List Call) (calls : Option (List Call)) (now : Scene) → IsOver s now → MayGoOn s now → Plays s base calls now → Plays s base calls (next_turn s now)
play_turn s base calls now over goes plays = (
  Turn ∷ plays.0,
  record {
    told = plays.1.told;
    steps = (subst (MayCome s Turn) (sym plays.1.now_is) (over, goes), plays.1.steps);
    now_is = ap (next_turn s) plays.1.now_is;
  },
)

-- ---- What was sent and put
-- a datagram more is of the same turn
pub sent_in_turn : (line : Line) (xs : List (List ℕ)) (now : Scene) → now.turn ≡ (sent_on line xs now).turn
sent_in_turn line xs now = grind arith

pub sent_none : (line : Line) (now : Scene) → sent_on line [] now ≡ now
sent_none line now = grind (arith, append-nil)

pub sent_both : (line : Line) (xs ys : List (List ℕ)) (now : Scene) → sent_on line ys (sent_on line xs now) ≡ sent_on line (xs ++ ys) now
sent_both line xs ys now = grind (arith, append_assoc)

pub put_none : (at : LinkEnd) (now : Scene) → end_puts at [] now ≡ now
put_none at now = grind (arith, append-nil, put_at_none)

pub put_both : (at : LinkEnd) (xs ys : List ℕ) (now : Scene) → end_puts at ys (end_puts at xs now) ≡ end_puts at (xs ++ ys) now
put_both at xs ys now = grind (arith, append_assoc, put_at_both, length-append)

-- of some bytes the next piece was written
pub put_next : (at : LinkEnd) (bytes piece : List ℕ) (done count : ℕ) (now : Scene) → piece ≡ drop done bytes → end_puts at (take count piece) (end_puts at (take done bytes) now) ≡ end_puts at (take (done + count) bytes) now
put_next at bytes piece done count now is =
    ap (λ (p : List ℕ). end_puts at (take count p) (end_puts at (take done bytes) now)) is
    ∙ put_both at (take done bytes) (take count (drop done bytes)) now
    ∙ ap (λ (xs : List ℕ). end_puts at xs now) (sym (take-add done count bytes))

-- the rest of what waited waits
left_after : (at : LinkEnd) (xs : List ℕ) (now : Scene) → waits_at at (end_puts at xs now).world ≡ drop (length xs) (waits_at at now.world)
left_after GrpClient xs now = waits_left GrpClient (length xs) now.world
left_after at xs now = waits_left at (length xs) now.world

pub put_may : (at : LinkEnd) (bytes piece : List ℕ) (done : ℕ) (now : Scene) → bytes ≡ waits_at at now.world → done ≤ length bytes → piece ≡ drop done bytes → (later : List ℕ) × (waits_at at (end_puts at (take done bytes) now).world ≡ piece ++ later)
put_may at bytes piece done now waits within is = (
  [],
  left_after at (take done bytes) now ∙ ap (λ (n : ℕ). drop n (waits_at at now.world)) (length-take-le done bytes within) ∙ ap (drop done) (sym waits) ∙ sym is ∙ sym (append-nil piece),
)
