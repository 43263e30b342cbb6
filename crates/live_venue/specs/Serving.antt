-- How the run of a live venue ends.
use Rattle.std.specs.Prelude.{◌≡◌, ◌⊎◌, ℕ, List, [], ◌∷◌, ◌++◌, slice_get, Option, None, Some}
use Rattle.std.specs.Prelude.{Result, Ok, Err}
use Rattle.std.specs.List.{AllByRecursion}
use Rattle.heard_items.specs.Datagrams.{IsPiece}
use Rattle.live_net.specs.declared.live.WaitEnd.TheVariants as wait_end
use Rattle.spin_path.specs.PathLaws.{IsFeed}
use Rattle.venue_end.specs.declared.setup.VenueSetup.{VenueSetup}
use Rattle.venue_net.specs.VenueCalls.{VenueCall, Wait, Read, Send}
use Rattle.venue_net.specs.declared.net.InputRead.TheVariants as input
use Rattle.venue_units.specs.Coming.{UnitCame, state_at}
use Rattle.live_venue.specs.Sending.{gap_line, line_a, line_b}
use Rattle.live_venue.specs.Running.{Now, Runs}
use Rattle.live_venue.specs.declared.error.ServeError.{ServeError}
use Rattle.live_venue.specs.declared.error.ServeError.TheVariants as errors

-- where the net lists its calls after a run, it listed them before, and those of the run were added
abbrev pub AddsRun : List VenueCall → Option (List VenueCall) → Option (List VenueCall) → Type 0
AddsRun run old None = Unit {0}
AddsRun run None (Some calls) = ⊥
AddsRun run (Some before) (Some calls) = calls ≡ run ++ before

-- ---- What was sent
-- a line is one of a unit's
abbrev pub IsLineOf : ℕ → ℕ → Type 0
IsLineOf at line = (line ≡ line_a at) ⊎ ((line ≡ line_b at) ⊎ (line ≡ gap_line at))

-- a datagram has messages of the unit of its line, at their sequences, and none that the unit has
-- not accepted
abbrev pub IsPieceOn : List VenueSetup → List UnitCame → ℕ → List ℕ → Type 0
IsPieceOn s came line datagram = (at : ℕ) × ((setup : VenueSetup) × ((slice_get s at ≡ Some setup)
    × (IsLineOf at line × IsPiece (state_at setup at came).messages setup.unit datagram)))

-- so has each that was sent
abbrev pub SendsAPiece : List VenueSetup → List UnitCame → VenueCall → Type 0
SendsAPiece s came (Send line datagram) = IsPieceOn s came line datagram
SendsAPiece s came call = Unit {0}

abbrev pub SendsPieces : List VenueSetup → List UnitCame → List VenueCall → Type 0
SendsPieces s came run = AllByRecursion (SendsAPiece s came) run

-- the messages that each unit accepted are bytes, and no more of them than there are sequences
abbrev pub AreFeeds : List VenueSetup → List UnitCame → Type 0
AreFeeds s came = (at : ℕ) (setup : VenueSetup) → slice_get s at ≡ Some setup
    → IsFeed (state_at setup at came).messages

-- ---- The end
-- the last call was a wait that was over; a call that failed
abbrev pub IsOver : List VenueCall → Type 0
IsOver (Wait more wait_end.Over ∷ before) = Unit {0}
IsOver run = ⊥

abbrev pub HasFailed : List VenueCall → Type 0
HasFailed (Wait more wait_end.Failed ∷ before) = Unit {0}
HasFailed (Read room bytes input.Failed ∷ before) = Unit {0}
HasFailed run = ⊥

-- the calls that brought what there was no memory for: none, or the last one
abbrev pub AreUnheard : List VenueCall → Type 0
AreUnheard [] = Unit {0}
AreUnheard (Send line datagram ∷ calls) = ⊥
AreUnheard (call ∷ []) = Unit {0}
AreUnheard calls = ⊥

-- by the answer: it was over; the net failed; or the input has this fault, and all that was
-- accepted before it was sent
abbrev pub IsEnd : Result (Unit {0}) ServeError → List VenueCall → List VenueCall → Now → Type 0
IsEnd (Ok done) unheard run now = (unheard ≡ []) × IsOver run
IsEnd (Err errors.Net) unheard run now = (unheard ≡ []) × HasFailed run
IsEnd (Err (errors.Input fault)) unheard run now =
    (unheard ≡ []) × ((now.fault ≡ Some fault) × (now.unsent ≡ []))
IsEnd (Err errors.OutOfMemory) unheard run now = AreUnheard unheard

-- there is such a run: each of its calls was due, each datagram that was sent is a piece of the
-- messages that its unit accepted, and these are bytes, each with a sequence
pub record ServeEnds (s : List VenueSetup) (result : Result (Unit {0}) ServeError)
    (calls calls' : Option (List VenueCall)) : Type 0 where
  pub unheard : List VenueCall
  pub run : List VenueCall
  pub now : Now
  pub adds : AddsRun (unheard ++ run) calls calls'
  pub runs : Runs s run now
  pub pieces : SendsPieces s now.came run
  pub feeds : AreFeeds s now.came
  pub is_end : IsEnd result unheard run now
