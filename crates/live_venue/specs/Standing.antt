-- A live venue between two calls of its net.
use Rattle.std.specs.Prelude.{◌≡◌, ◌≤◌, ℕ, List, [], ◌∷◌, ◌++◌, Bool, true, false}
use Rattle.std.specs.Prelude.{length, Option, None, Some, Result, Ok, Err}
use Rattle.std.specs.List.{AllByRecursion, flat_map}
use Rattle.unit_commands.specs.Pieces.{read_through}
use Rattle.unit_packets.specs.Packing.{bytes_in}
use Rattle.venue_end.specs.declared.setup.VenueSetup.{VenueSetup}
use Rattle.venue_net.specs.VenueCalls.{VenueCall}
use Rattle.venue_turns.specs.Turning.{IsNext, TurnsStand}
use Rattle.venue_turns.specs.declared.due.Due.{Due}
use Rattle.venue_units.specs.Coming.{UnitCame}
use Rattle.venue_units.specs.Units.{EachKeeps, UnitsStand}
use Rattle.venue_units.specs.declared.units.VenueUnits.{VenueUnits}
use Rattle.live_venue.specs.Input.{Heard}
use Rattle.live_venue.specs.Running.{Advertises, Now, PassSeconds, Runs, Ticks, ends_now}
use Rattle.live_venue.specs.Running.{turns_of, ways}
use Rattle.live_venue.specs.Sending.{Sending, to_line}
use Rattle.live_venue.specs.Serving.{AddsRun, AreFeeds, IsPieceOn, SendsPieces, ServeEnds}
use Rattle.live_venue.specs.declared.error.ServeError.{ServeError}
use Rattle.live_venue.specs.declared.error.ServeError.TheVariants.{Input}
use Rattle.live_venue.specs.declared.fault.InputFault.{InputFault}
use Rattle.live_venue.specs.declared.outbox.Batch.{Batch}
use Rattle.live_venue.specs.declared.outbox.Outbox.{Outbox}
use Rattle.live_venue.specs.declared.outbox.Road.{Road}
use Rattle.live_venue.specs.declared.outbox.Road.TheVariants.{Both, Gap}
use Rattle.live_venue.specs.declared.serving.Serving.{Serving}

-- ---- What can be served
-- at most 64 units, and the proxy of each keeps as many messages as a proxy may
pub record CanServe (s : List VenueSetup) : Type 0 where
  pub few : length s ≤ 64
  pub keep : EachKeeps s

-- ---- What is to be sent
-- a datagram on its lines, and several on theirs
abbrev pub on_road : Road → List ℕ → List Sending
on_road (Both a b) datagram = to_line a datagram ∷ to_line b datagram ∷ []
on_road (Gap line) datagram = to_line line datagram ∷ []

abbrev pub each_on : Road → List (List ℕ) → List Sending
each_on road datagrams = flat_map (on_road road) datagrams

abbrev pub outgoing : Batch → List Sending
outgoing batch = each_on batch.road (bytes_in batch.datagrams.items)

abbrev pub all_outgoing : List Batch → List Sending
all_outgoing batches = flat_map outgoing batches

-- ---- What was sent
-- what is still to be sent are pieces
abbrev pub ArePieces : List VenueSetup → List UnitCame → List Sending → Type 0
ArePieces s came unsent = AllByRecursion (λ next. IsPieceOn s came next.line next.datagram) unsent

-- a run of calls that the net lists, where it stands, and what it sent and its units accepted
pub record RunIs (s : List VenueSetup) (start calls : Option (List VenueCall))
    (run : List VenueCall) (now : Now) : Type 0 where
  pub adds : AddsRun run start calls
  pub runs : Runs s run now
  pub sent : SendsPieces s now.came run
  pub feeds : AreFeeds s now.came

-- by sending alone a run went on
pub record SentOn (s : List VenueSetup) (start calls : Option (List VenueCall))
    (run : List VenueCall) (now : Now) : Type 0 where
  pub longer : List VenueCall
  pub is_run : RunIs s start calls longer now
  pub same_turns : turns_of longer ≡ turns_of run

-- whatever run led here that has these pieces to send first: they were sent
abbrev pub Sends : Option (List VenueCall) → Option (List VenueCall) → List Sending → Type 0
Sends calls calls' first = (s : List VenueSetup) (start : Option (List VenueCall))
    (run : List VenueCall) (now : Now) (rest : List Sending)
    → RunIs s start calls run now → ArePieces s now.came first → now.unsent ≡ first ++ rest
    → SentOn s start calls' run (record now { unsent = rest })

-- ---- What a venue's parts have
-- the units stand for what they heard, and this is the first fault
pub record Hears (s : List VenueSetup) (units : VenueUnits) (fault : Option InputFault)
    (heard : Heard) : Type 0 where
  pub stand : UnitsStand s units heard.came
  pub fault_is : fault ≡ heard.fault

-- what is to be sent are pieces, and wait for it
pub record Queued (s : List VenueSetup) (outbox : Outbox) (now : Now) : Type 0 where
  pub waiting : all_outgoing outbox.batches.items ≡ now.unsent
  pub pieces : ArePieces s now.came now.unsent

-- the units have what came to them, and the outbox what they send
pub record Serve (s : List VenueSetup) (units : VenueUnits) (outbox : Outbox) (now : Now) :
    Type 0 where
  pub stand : UnitsStand s units now.came
  pub queued : Queued s outbox now

-- and it becomes so
abbrev pub Become : List VenueSetup → (units units' : VenueUnits) → (outbox outbox' : Outbox)
    → (Now → Now → Type 0) → Type 0
Become s units units' outbox outbox' Leads = (now : Now) → Serve s units outbox now
    → now.unsent ≡ [] → (now' : Now) × (Leads now now' × Serve s units' outbox' now')

-- a second passed for a unit, and for each of those below an index
abbrev pub PassesFor : List VenueSetup → ℕ → VenueUnits → VenueUnits → Type 0
PassesFor s at units units' = (now : Now) → UnitsStand s units now.came → (between : Now)
    × ((after : Now) × (Ticks at now between × (Advertises at between after
    × (UnitsStand s units' after.came))))

abbrev pub Passes : List VenueSetup → ℕ → VenueUnits → VenueUnits → Type 0
Passes s count units units' = (now : Now) → UnitsStand s units now.came
    → (after : Now) × (PassSeconds count now after × UnitsStand s units' after.came)

-- ---- Where a run stands
-- nothing is to be sent, and the input has no fault
pub record IsIdle (now : Now) : Type 0 where
  pub sent : now.unsent ≡ []
  pub good : now.fault ≡ None

-- a venue after a run
pub record Stands (s : List VenueSetup) (start calls : Option (List VenueCall)) (v : Serving)
    (run : List VenueCall) (now : Now) : Type 0 where
  pub is_run : RunIs s start calls run now
  pub serve : Serve s v.units v.outbox now
  pub read : v.reader ≡ read_through now.text
  pub idle : IsIdle now

-- the run goes on
pub record GoesOn (s : List VenueSetup) (start calls : Option (List VenueCall)) (v : Serving) :
    Type 0 where
  pub run : List VenueCall
  pub now : Now
  pub stands : Stands s start calls v run now
  pub turns : TurnsStand (ways s) (ends_now s now.came) v.turns (turns_of run)

-- the input was heard: by its first fault, where it has one, the run ends
pub record HasHeard (s : List VenueSetup) (v : Serving) (fault : Option InputFault) (now : Now) :
    Type 0 where
  pub serve : Serve s v.units v.outbox now
  pub fault_is : fault ≡ now.fault
  pub read : fault ≡ None → v.reader ≡ read_through now.text

abbrev pub by_fault : Option InputFault → Result Bool ServeError
by_fault None = Ok true
by_fault (Some fault) = Err (Input fault)

-- and this is due next
pub record IsAbout (s : List VenueSetup) (start calls : Option (List VenueCall)) (v : Serving)
    (what : Due) : Type 0 where
  pub run : List VenueCall
  pub now : Now
  pub stands : Stands s start calls v run now
  pub turns : TurnsStand (ways s) (ends_now s now.came) v.turns (turns_of run)
  pub next : IsNext (ways s) (ends_now s now.came) (turns_of run) v.turns.place what

-- ---- At the end of a run
-- where it was over, and where the input has a fault, the units stand for all that came to them
abbrev pub StandAtEnd : List VenueSetup → Result (Unit {0}) ServeError → VenueUnits
    → List UnitCame → Type 0
StandAtEnd s (Ok done) units came = UnitsStand s units came
StandAtEnd s (Err (Input fault)) units came = UnitsStand s units came
StandAtEnd s answer units came = Unit {0}

-- a run ended so, with these units
pub record EndsWith (s : List VenueSetup) (result : Result (Unit {0}) ServeError)
    (start calls : Option (List VenueCall)) (units : VenueUnits) : Type 0 where
  pub ends : ServeEnds s result start calls
  pub stand : StandAtEnd s result units ends.now.came

-- by the answer of a step
abbrev pub Steps : List VenueSetup → Result Bool ServeError
    → (start calls : Option (List VenueCall)) → Serving → Type 0
Steps s (Ok true) start calls v = GoesOn s start calls v
Steps s (Ok false) start calls v = EndsWith s (Ok tt) start calls v.units
Steps s (Err error) start calls v = EndsWith s (Err error) start calls v.units
