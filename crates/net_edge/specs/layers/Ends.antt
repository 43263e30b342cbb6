-- What the code knows of the two ends of the demo's unit. No caller needs it.
use Rattle.std.specs.Prelude.{◌≡◌, ◌≤◌, ℕ, Bool, true, false, List, ◌++◌, length}
use Rattle.std.specs.List.{AllByRecursion}
use Rattle.pitch_io.specs.declared.net.LinkEnd.{LinkEnd}
use Rattle.pitch_io.specs.declared.net.LinkEnd.TheVariants.{GrpClient, GrpServer, SpinClient}
use Rattle.pitch_io.specs.declared.net.LinkEnd.TheVariants.{SpinServer}
use Rattle.pitch_fields.specs.Fields.{AreBytes}
use Rattle.pitch_fields.specs.Limits.{last_sequence}
use Rattle.pitch_messages.specs.Raw.{IsRaw}
use Rattle.pitch_model.specs.History.{Raw}
use Rattle.heard_items.specs.Datagrams.{IsPiece}
use Rattle.client_end.specs.Came.{Came, EndSetup, end_after}
use Rattle.venue_end.specs.Came.{VenueCame, VenueState, venue_after, venue_step}
use Rattle.venue_end.specs.Stands.{VenueStands}
use Rattle.venue_end.specs.declared.setup.VenueSetup.{VenueSetup}
use Rattle.venue_end.specs.declared.venue.VenueEnd.{VenueEnd}
use Rattle.world_model.specs.Ends.{client_setup, default_limits, venue_setup}
use Rattle.world_model.specs.Stands.{HasClient}
use Rattle.world_model.specs.State.{State}
use Rattle.net_edge.specs.Due.{demo_unit}
use Rattle.net_edge.specs.declared.end_set.EndSet.{EndSet}
use Rattle.net_edge.specs.declared.stage.Stage.{Stage}

abbrev pub demo_venue : VenueSetup
demo_venue = venue_setup demo_unit default_limits

abbrev pub demo_client : EndSetup
demo_client = client_setup demo_unit default_limits

-- ---- The venue's end, whatever it is made of
-- whatever it stood for, this came
pub record HasCome {V : Type 0} (is : V → VenueState → Type 0) (old new : V) (came : VenueCame) :
    Type 0 where
  pub comes : (now : VenueState) → is old now → is new (venue_step demo_venue came now)

-- messages of a venue: raws, whose bytes are bytes, and no more than there are sequences
pub record AreMessages (V : List Raw) : Type 0 where
  pub raws : AllByRecursion IsRaw V
  pub bytes : AllByRecursion AreBytes V
  pub few : length V ≤ last_sequence

-- these datagrams were appended, and each has messages that were accepted, at their sequences
pub record HandsOut (now : VenueState) (lines lines' datagrams : List (List ℕ)) : Type 0 where
  pub lined : lines' ≡ lines ++ datagrams
  pub pieces : AllByRecursion (IsPiece now.messages demo_unit) datagrams

-- a venue's end stands for this: there is a list of all that came to it
pub record IsPlain (e : VenueEnd) (now : VenueState) : Type 0 where
  pub came : List VenueCame
  pub now_is : now ≡ venue_after demo_venue came
  pub stands : VenueStands demo_venue e came

-- ---- Both ends
-- a stage's ends are those of a world
pub record Holds {V : Type 0} (is : V → VenueState → Type 0) (stage : Stage V) (w : State) :
    Type 0 where
  pub venue : is stage.venue w.venue
  pub client : HasClient demo_unit default_limits stage.client w
  pub came : List Came
  pub came_is : w.client ≡ end_after demo_client came

-- whatever world they were of, they are of what it becomes
pub record Becomes {V : Type 0} (is : V → VenueState → Type 0) (old new : Stage V)
    (becomes : State → State) : Type 0 where
  pub holds : (w : State) → Holds is old w → Holds is new (becomes w)
  pub ended : new.ended ≡ old.ended

-- as a world becomes another, these datagrams were appended, which are the ones that the proxy has
-- for the gap line then and had not before
pub record Replays (w v : State) (lines lines' : List (List ℕ)) : Type 0 where
  pub more : List (List ℕ)
  pub hands : HandsOut w.venue lines lines' more
  pub replayed : v.replayed ≡ w.replayed ++ more

-- ---- Which ends got End
abbrev pub no_ends : EndSet
no_ends =
    record { grp_client = false; grp_server = false; spin_client = false; spin_server = false }

abbrev pub has_end : LinkEnd → EndSet → Bool
has_end GrpClient ends = ends.grp_client
has_end GrpServer ends = ends.grp_server
has_end SpinClient ends = ends.spin_client
has_end SpinServer ends = ends.spin_server

abbrev pub and_end : LinkEnd → EndSet → EndSet
and_end GrpClient ends = record ends { grp_client = true }
and_end GrpServer ends = record ends { grp_server = true }
and_end SpinClient ends = record ends { spin_client = true }
and_end SpinServer ends = record ends { spin_server = true }
