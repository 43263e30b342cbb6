-- What the code knows of a run that is under way. No caller needs it.
use Rattle.std.specs.Prelude.{◌≡◌, ◌≤◌, ◌-◌, ◌&&◌, ℕ, Bool, true, false, List, [], ◌∷◌}
use Rattle.std.specs.Prelude.{Option, None, Some, Result, OnOk, IfErr, length, if◌then◌else◌}
use Rattle.pitch_io.specs.declared.line.Line.TheVariants.{A, B}
use Rattle.pitch_io.specs.declared.net.LinkEnd.{LinkEnd}
use Rattle.pitch_io.specs.declared.net.LinkEnd.TheVariants.{GrpClient, GrpServer, SpinClient}
use Rattle.pitch_io.specs.declared.net.LinkEnd.TheVariants.{SpinServer}
use Rattle.pitch_io.specs.declared.net.NetTaken.{NetTaken}
use Rattle.pitch_io.specs.Causes.{Rose}
use Rattle.pitch_io.specs.Nets.{Call, Begin}
use Rattle.pitch_io.specs.declared.net.NetDone.TheVariants.{Done}
use Rattle.net_edge.specs.Acting.{scene_of, is_group_open, end_puts, in_world, all_tick, sent_on}
use Rattle.net_edge.specs.Breaking.{ListsAdded}
use Rattle.net_edge.specs.Demo.{IsLast}
use Rattle.net_edge.specs.Due.{Setting, beat, due, is_tenth, messages, ticks}
use Rattle.net_edge.specs.Scene.{Scene, line_in, at_end, waits_at, is_done, is_got, published}
use Rattle.net_edge.specs.Steps.{Step, calls_of}
use Rattle.net_edge.specs.Turns.{AreSteps, IsOver}
use Rattle.net_edge.specs.declared.end_set.EndSet.{EndSet}
use Rattle.net_edge.specs.declared.error.DemoError.{DemoError}
use Rattle.net_edge.specs.declared.error.DemoError.TheVariants as errors
use Rattle.net_edge.specs.declared.stage.Stage.{Stage}
use Rattle.net_edge.specs.declared.turn.Place.{Place}
use Rattle.net_edge.specs.declared.turn.Place.TheVariants.{Line as TheLine, End as TheEnd}
use Rattle.net_edge.specs.layers.Ends.{Holds}
use Rattle.venue_end.specs.Came.{VenueState}
use Rattle.world_model.specs.State.{State}

-- ---- Faults
-- where it was a fault of the net, its count of faults rose
abbrev pub RoseAtFault : ℕ → ℕ → DemoError → Type 0
RoseAtFault before after error = error ≡ errors.NetFault → Rose before after

-- and the count never falls, and stays where all went well
pub record NetCounts {T : Type 0} (result : Result T DemoError) (before after : ℕ) : Type 0 where
  pub fault : IfErr result (RoseAtFault before after)
  pub later : before ≤ after
  pub still : OnOk result (after ≡ before)

-- ---- Calls
-- the calls before a run, of which the last is `begin`
abbrev pub calls_before : Option (List Call) → List Call
calls_before None = []
calls_before (Some calls) = Begin Done ∷ calls

-- a run that leads to a scene
pub record LeadsTo (s : Setting)
    (base : List Call) (calls : Option (List Call)) (now : Scene) (run : List Step) : Type 0 where
  pub told : ListsAdded base calls (calls_of run)
  pub steps : AreSteps s run
  pub now_is : scene_of s run ≡ now

-- there is such a run
abbrev pub Plays : Setting → List Call → Option (List Call) → Scene → Type 0
Plays s base calls now = (run : List Step) × LeadsTo s base calls now run

-- ---- What waits
-- all that waits at an end is put
abbrev pub all_put_at : LinkEnd → Scene → Scene
all_put_at at now = end_puts at (waits_at at now.world) now

-- at all ends
abbrev pub all_put : Scene → Scene
all_put now = all_put_at SpinClient
    (all_put_at GrpClient (all_put_at SpinServer (all_put_at GrpServer now)))

-- nothing waits
abbrev pub NothingWaits : State → Type 0
NothingWaits w = (at : LinkEnd) → waits_at at w ≡ []

-- ---- Parts of a scene
-- which ends got End
abbrev pub ended_in : Scene → EndSet
ended_in now = record {
  grp_client = now.grp_client.ended;
  grp_server = now.grp_server.ended;
  spin_client = now.spin_client.ended;
  spin_server = now.spin_server.ended;
}

-- the answers of a turn's group of calls
abbrev pub answers_of : Place → Scene → List NetTaken
answers_of (TheLine line) now = (line_in line now).answers
answers_of (TheEnd at) now = (at_end at now).answers

-- it is asked no more: an end may be done, a line never is
abbrev pub is_place_done : Place → Scene → Bool
is_place_done (TheLine line) now = false
is_place_done (TheEnd at) now = is_done at now

-- the turn's group of calls there is over, or it is asked no more
abbrev pub IsPlaceOver : Place → Scene → Type 0
IsPlaceOver place now = is_group_open (answers_of place now) ≡ true → is_place_done place now ≡ true

-- nothing else was asked from one scene to another, nothing was sent on lines A and B, no second
-- passed, and what is asked no more stays so
pub record Asks (place : Place) (now after : Scene) : Type 0 where
  pub turn_is : after.turn ≡ now.turn
  pub on_a : after.a.sent ≡ now.a.sent
  pub on_b : after.b.sent ≡ now.b.sent
  pub ticked : after.world.venue.spent.now ≡ now.world.venue.spent.now
  pub done : (at : LinkEnd) → is_done at now ≡ true → is_done at after ≡ true
  pub others : (other : Place) → (other ≡ place → ⊥) → answers_of other after ≡ answers_of other now

-- one call more may come there, and others behind it where it gets something and more may come
pub record MayAsk (place : Place) (more : Bool) (now : Scene) : Type 0 where
  pub opened : is_group_open (answers_of place now) ≡ true
  pub undone : is_place_done place now ≡ false
  pub goes : (answer : NetTaken)
      → is_group_open (answer ∷ answers_of place now) ≡ (is_got answer && more)

-- ---- A heartbeat
-- it was sent on both lines, a second passed, and what was said by that was put
abbrev pub after_beat : Setting → Scene → Scene
after_beat s now = all_put (in_world all_tick
    (sent_on B (beat s now.turn ∷ []) (sent_on A (beat s now.turn ∷ []) now)))

-- the same in every tenth turn
abbrev pub after_due_beat : Setting → Scene → Scene
after_due_beat s now = if is_tenth now.turn then after_beat s now else now

-- ---- Turns
-- nothing was called in this turn yet
abbrev pub IsUncalled : Scene → Type 0
IsUncalled now = (place : Place) → answers_of place now ≡ []

-- what was sent on the lines of the venue, and the ticks, up to a turn
pub record IsSentTo (s : Setting) (turn : ℕ) (now : Scene) : Type 0 where
  pub on_a : now.a.sent ≡ due s A turn
  pub on_b : now.b.sent ≡ due s B turn
  pub ticked : now.world.venue.spent.now ≡ ticks turn

-- the venue of a world accepted the messages up to a turn, and sent them
pub record IsAllSent (s : Setting) (turn : ℕ) (w : State) : Type 0 where
  pub accepted : w.venue.messages ≡ messages s turn
  pub all_sent : w.venue.sent ≡ length (messages s turn)

-- ---- A stage and the net's calls, of which those before a run are the base
module _ {V : Type 0} (is : V → VenueState → Type 0) (s : Setting) (base : List Call)
    (calls : Option (List Call)) (stage : Stage V) where
  -- a stage and the net's calls are those of a scene
  pub record StageAt (now : Scene) : Type 0 where
    pub few : s.count ≤ 1000
    pub holds : Holds is stage now.world
    pub ended : stage.ended ≡ ended_in now
    pub plays : Plays s base calls now

  -- and nothing waits, and all that the proxy had for the gap line was sent
  pub record DemoAt (now : Scene) : Type 0 where
    pub at : StageAt now
    pub put : NothingWaits now.world
    pub replayed : now.gap.sent ≡ now.world.replayed

  -- one call more was made at a place
  pub record AsksOnce (place : Place) (answer : NetTaken) (now : Scene) : Type 0 where
    pub after : Scene
    pub at : DemoAt after
    pub asks : Asks place now after
    pub answers_are : answers_of place after ≡ answer ∷ answers_of place now

  -- all calls of the turn there were
  pub record AsksAll (place : Place) (now : Scene) : Type 0 where
    pub after : Scene
    pub at : DemoAt after
    pub asks : Asks place now after
    pub over : IsPlaceOver place after

  -- a turn begins, of which the venue has not done its part: the stage holds the world before that
  pub record TurnBegins (turn : ℕ) (now : Scene) : Type 0 where
    pub few : s.count ≤ 1000
    pub turn_is : now.turn ≡ turn
    pub world : State
    pub world_is : now.world ≡ published s turn world
    pub holds : Holds is stage world
    pub ended : stage.ended ≡ ended_in now
    pub plays : Plays s base calls now
    pub put : NothingWaits now.world
    pub replayed : now.gap.sent ≡ now.world.replayed
    pub all_sent : IsAllSent s (turn - 1) world
    pub sent : IsSentTo s (turn - 1) now
    pub uncalled : IsUncalled now

  -- the venue has done its part
  pub record TurnGoes (turn : ℕ) : Type 0 where
    pub now : Scene
    pub at : DemoAt now
    pub turn_is : now.turn ≡ turn
    pub sent : IsSentTo s turn now
    pub uncalled : IsUncalled now

  -- the turn is over
  pub record TurnEnds (turn : ℕ) : Type 0 where
    pub now : Scene
    pub at : DemoAt now
    pub turn_is : now.turn ≡ turn
    pub over : IsOver s now

  -- so is the run
  pub record EndsRun : Type 0 where
    pub now : Scene
    pub at : DemoAt now
    pub over : IsOver s now
    pub last : IsLast s now
