-- What comes to the units of a venue by the calls of a run, and what they send. The calls of a run,
-- and what came, stand newest first.
use Rattle.std.specs.Prelude.{◌≡◌, ◌⊎◌, ◌≤◌, ℕ, zero, suc, ◌*◌, true, false, Bool, List, [], ◌∷◌}
use Rattle.std.specs.Prelude.{◌++◌, length, Option, None}
use Rattle.live_net.specs.LiveCalls.{PeerPutWithin}
use Rattle.live_net.specs.declared.live.WaitEnd.TheVariants as wait_end
use Rattle.live_net.specs.declared.live.PeerTaken.TheVariants as taken
use Rattle.live_net.specs.declared.live.PeerPut.TheVariants as put
use Rattle.venue_end.specs.Came.{VenueCame, AllCut, Advertised, Beaten, Flushed, Second}
use Rattle.venue_end.specs.declared.setup.VenueSetup.{VenueSetup}
use Rattle.venue_net.specs.VenueCalls.{VenueCall, Wait, Read, Send, Accept, Take, Put, Close}
use Rattle.venue_net.specs.declared.net.InputRead.TheVariants as input
use Rattle.venue_turns.specs.Due.{Ends, IsDue, Ways}
use Rattle.venue_units.specs.Coming.{UnitCame, to_unit}
use Rattle.venue_units.specs.Places.{cut_at, is_shut_at, made_at, put_at, took_at, unit_of}
use Rattle.venue_units.specs.Places.{unit_places, waits_at, with_pump}
use Rattle.live_venue.specs.Sending.{Sending, gap_at, lines_at, on_both, on_gap, to_line}
use Rattle.live_venue.specs.Input.{Heard, piece_heard, rest_heard}
use Rattle.live_venue.specs.declared.fault.InputFault.{InputFault}

-- all of the input that was read, what came to the units, what is still to be sent, and the first
-- fault of the input
pub record Now : Type 0 where
  pub text : List ℕ
  pub came : List UnitCame
  pub unsent : List Sending
  pub fault : Option InputFault

abbrev pub at_first : Now
at_first = record { text = []; came = []; unsent = []; fault = None }

abbrev pub ways : List VenueSetup → Ways
ways s = record { places = unit_places * length s }

-- the venue's ends, by their places
abbrev pub ends_now : List VenueSetup → List UnitCame → Ends
ends_now s came = record {
  shut = λ place. is_shut_at s place came;
  waits = λ place. waits_at s place came;
}

-- ---- What comes to a unit
abbrev pub with_came : ℕ → VenueCame → Now → Now
with_came at came now = record now { came = to_unit at came ∷ now.came }

-- a connection was let in at a place, or has ended
abbrev pub let_in : ℕ → Now → Now
let_in place now = with_came (unit_of place) (made_at place) now

abbrev pub left : ℕ → Now → Now
left place now = with_came (unit_of place) (cut_at place) now

-- bytes of it came: the ranges of the gap requests that are accepted go out on the gap line
abbrev pub took : List VenueSetup → ℕ → List ℕ → Now → Now
took s place bytes now = record now {
  came = to_unit (unit_of place) (took_at place bytes) ∷ now.came;
  unsent = on_gap (unit_of place) (gap_at s (unit_of place) (took_at place bytes) now.came);
}

-- so many bytes of what waited for it were put
abbrev pub wrote : ℕ → ℕ → Now → Now
wrote place count now = with_came (unit_of place) (put_at place count) now

-- where nothing waits any more for a client of a Spin Server, that is asked for its next block
abbrev pub with_pump_if : Bool → ℕ → List UnitCame → List UnitCame
with_pump_if true place came = with_pump place came
with_pump_if false place came = came

abbrev pub is_none : List ℕ → Bool
is_none [] = true
is_none (byte ∷ bytes) = false

abbrev pub pumped : List VenueSetup → ℕ → Now → Now
pumped s place now = record now {
  came = with_pump_if (is_none (waits_at s place now.came)) place now.came;
}

-- ---- What the units send
-- what a unit accepted, and what each of those below an index did
abbrev pub flush_at : List VenueSetup → ℕ → Now → Now
flush_at s at now = record now {
  came = to_unit at Flushed ∷ now.came;
  unsent = now.unsent ++ on_both at (lines_at s at Flushed now.came);
}

abbrev pub flushed : List VenueSetup → ℕ → Now → Now
flushed s zero now = now
flushed s (suc at) now = flush_at s at (flushed s at now)

-- its heartbeat, and those of the units below an index
abbrev pub beat_at : List VenueSetup → ℕ → Now → Now
beat_at s at now =
    record now { unsent = now.unsent ++ on_both at (lines_at s at Beaten now.came) }

abbrev pub beaten : List VenueSetup → ℕ → Now → Now
beaten s zero now = now
beaten s (suc at) now = beat_at s at (beaten s at now)

-- ---- The input
-- what the units heard of it is sent at once
abbrev pub with_heard : List VenueSetup → Heard → List ℕ → Now → Now
with_heard s heard text now = flushed s (length s) (record now {
  text = text;
  came = heard.came;
  fault = heard.fault;
})

-- ---- A second
-- it passed for a unit; without memory all sessions of the unit are cut
abbrev pub Ticks : ℕ → Now → Now → Type 0
Ticks at now now' = (now' ≡ with_came at Second now)
    ⊎ (now' ≡ with_came at AllCut (with_came at Second now))

-- the image of all its messages is advertised; without memory it is not, or all sessions are cut
abbrev pub Advertises : ℕ → Now → Now → Type 0
Advertises at now now' = (now' ≡ with_came at Advertised now)
    ⊎ ((now' ≡ with_came at AllCut (with_came at Advertised now)) ⊎ (now' ≡ now))

-- both for each of the units below an index
abbrev pub PassSeconds : ℕ → Now → Now → Type 0
PassSeconds zero now now' = now' ≡ now
PassSeconds (suc at) now now' = (before : Now) × (PassSeconds at now before
    × ((between : Now) × (Ticks at before between × Advertises at between now')))

-- and then each unit's heartbeat goes out
abbrev pub SecondPasses : List VenueSetup → Now → Now → Type 0
SecondPasses s now now' = (after : Now) × (PassSeconds (length s) now after
    × (now' ≡ beaten s (length s) after))

-- ---- What a call brings
abbrev pub Brings : List VenueSetup → VenueCall → Now → Now → Type 0
-- a second
Brings s (Wait more wait_end.Second) now now' = SecondPasses s now now'
-- bytes of the input: the commands of the lines that they end; its end: that of the last line
Brings s (Read room bytes (input.Got n)) now now' =
    now' ≡ with_heard s (piece_heard s now.text bytes now.came) (now.text ++ bytes) now
Brings s (Read room bytes input.Ended) now now' =
    now' ≡ with_heard s (rest_heard s now.text now.came) now.text now
-- a client: a session is made for it; without memory there is none
Brings s (Accept place true) now now' = (now' ≡ let_in place now) ⊎ (now' ≡ left place now)
-- bytes of a client: they are answered; without memory its session is cut
Brings s (Take place room bytes (taken.Got n)) now now' =
    (now' ≡ took s place bytes now) ⊎ (now' ≡ left place now)
-- a put: so many bytes wait no more, and the next block of an image may follow
Brings s (Put place piece (put.Wrote n)) now now' = (now' ≡ pumped s place (wrote place n now))
    ⊎ (now' ≡ left place (wrote place n now))
-- an end: the session is cut
Brings s (Take place room bytes taken.Ended) now now' = now' ≡ left place now
Brings s (Put place piece put.Ended) now now' = now' ≡ left place now
Brings s (Close place) now now' = now' ≡ left place now
-- and all else nothing
Brings s call now now' = now' ≡ now

-- ---- A run
-- the calls by which nothing is sent
abbrev pub turns_of : List VenueCall → List VenueCall
turns_of [] = []
turns_of (Send line datagram ∷ before) = turns_of before
turns_of (call ∷ before) = call ∷ turns_of before

-- no more came by a call than there was room for, and no more was put than was handed in
abbrev pub Fits : VenueCall → Type 0
Fits (Read room bytes answer) = length bytes ≤ room
Fits (Take place room bytes answer) = length bytes ≤ room
Fits (Put place piece answer) = PeerPutWithin answer piece
Fits call = Unit {0}

-- a call more is made once all is sent, and where the input has no fault; it was due, with the ends
-- as they were then, and brought what it did
pub record CallsOn (s : List VenueSetup) (call : VenueCall) (before : List VenueCall)
    (now now' : Now) : Type 0 where
  pub sent : now.unsent ≡ []
  pub good : now.fault ≡ None
  pub is_due : IsDue (ways s) (ends_now s now.came) (turns_of before) call
  pub fits : Fits call
  pub brings : Brings s call now now'

-- what is to be sent is sent, one after another
abbrev pub RunsOn : List VenueSetup → VenueCall → List VenueCall → Now → Now → Type 0
RunsOn s (Send line datagram) before now now' =
    now ≡ record now' { unsent = to_line line datagram ∷ now'.unsent }
RunsOn s call before now now' = CallsOn s call before now now'

abbrev pub Runs : List VenueSetup → List VenueCall → Now → Type 0
Runs s [] now = now ≡ at_first
Runs s (call ∷ before) now' = (now : Now) × (Runs s before now × RunsOn s call before now now')
