-- What holds of all that comes to the ends of a venue's units.
use Rattle.std.specs.Prelude.{◌≡◌, ℕ, true, List, [], ◌∷◌, ◌++◌, map, is_some, if◌then◌else◌}
use Rattle.heard_items.specs.Datagrams.{IsPiece}
use Rattle.pitch_model.specs.History.{Raw}
use Rattle.pitch_text.specs.declared.command.Command.{Command}
use Rattle.venue_core.specs.Commands.{raw_of}
use Rattle.venue_core.specs.Refusals.{refusal}
use Rattle.venue_end.specs.Came.{VenueCame, Commanded, venue_after}
use Rattle.venue_end.specs.declared.setup.VenueSetup.{VenueSetup}
use Rattle.venue_units.specs.Coming.{UnitCame, state_at, to_unit}
use Rattle.venue_units.specs.Places.{cut_at, is_shut_at, unit_of}

-- ---- Messages
-- the commands that came to one end, the newest first
abbrev pub commands_in : List VenueCame → List Command
commands_in [] = []
commands_in (Commanded command ∷ before) = command ∷ commands_in before
commands_in (came ∷ before) = commands_in before

-- those of them that are not refused after the messages of the ones before, the oldest first
abbrev pub accepted_of : List Command → List Command
accepted_of [] = []
accepted_of (command ∷ before) =
    if is_some (refusal (map raw_of (accepted_of before)) command) then accepted_of before
    else accepted_of before ++ command ∷ []

-- an end has the messages of exactly these
abbrev pub MessagesAreTheCommands : Type 0
MessagesAreTheCommands = (s : VenueSetup) (before : List VenueCame)
    → (venue_after s before).messages ≡ map raw_of (accepted_of (commands_in before))

-- what comes later appends messages, and changes none
abbrev pub MessagesGrow : Type 0
MessagesGrow = (s : VenueSetup) (at : ℕ) (later before : List UnitCame) → (more : List Raw)
    × ((state_at s at (later ++ before)).messages ≡ (state_at s at before).messages ++ more)

-- so what was a piece of a unit's feed stays one
abbrev pub PiecesStayPieces : Type 0
PiecesStayPieces = (s : VenueSetup) (at unit : ℕ) (datagram : List ℕ) (later before : List UnitCame)
    → IsPiece (state_at s at before).messages unit datagram
    → IsPiece (state_at s at (later ++ before)).messages unit datagram

-- ---- Places
-- whatever came, once what stood at a place is cut, no session stands there
abbrev pub CutPlacesAreShut : Type 0
CutPlacesAreShut = (s : List VenueSetup) (place : ℕ) (before : List UnitCame)
    → is_shut_at s place (to_unit (unit_of place) (cut_at place) ∷ before) ≡ true
