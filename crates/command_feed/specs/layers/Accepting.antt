-- What accepting commands does.
use Rattle.std.specs.Prelude.{◌≡◌, ℕ, List, [], ◌∷◌, ◌++◌, None, Some, Result, Ok, Err}
use Rattle.pitch_text.specs.declared.command.CommandEntry.{CommandEntry}
use Rattle.text_lines.specs.Text.{with_front}
use Rattle.text_lines.specs.declared.fault.TextError.{TextError}
use Rattle.venue_core.specs.Commands.{raw_of}
use Rattle.venue_core.specs.Refusals.{refusal}
use Rattle.venue_core.specs.Standing.{VenueState}
use Rattle.venue_core.specs.Stands.{Stands}
use Rattle.venue_core.specs.declared.error.VenueError.{VenueError}
use Rattle.command_feed.specs.layers.Faults.{of_text}
use Rattle.command_feed.specs.Feed.{accepted_after, messages_of}
use Rattle.command_feed.specs.declared.error.CommandError.{CommandError}
use Rattle.command_feed.specs.declared.error.CommandError.TheVariants.{Refused}

-- a venue that accepted some messages refuses nothing of the command, and stands for its message
-- too
pub record IsAccepted (accepted : List (List ℕ)) (entry : CommandEntry) (venue : VenueState) :
    Type 0 where
  pub none : refusal accepted entry.command ≡ None
  pub stands : Stands venue (accepted ++ raw_of entry.command ∷ []) 0

-- it refuses the command, which is the error of the line
pub record IsRefused (accepted : List (List ℕ)) (entry : CommandEntry) (error : CommandError) :
    Type 0 where
  pub cause : VenueError
  pub refuses : refusal accepted entry.command ≡ Some cause
  pub is : error ≡ Refused entry.line cause

-- what a venue that accepted some messages has accepted after the commands that were read too, or
-- the first fault among those
abbrev pub accepted_in : List (List ℕ)
    → Result (List CommandEntry) TextError → Result (List (List ℕ)) CommandError
accepted_in accepted (Ok entries) = accepted_after accepted entries
accepted_in accepted (Err fault) = Err (of_text fault)

-- these commands before those that were read, or the fault among those
abbrev pub with_before : List CommandEntry
    → Result (List CommandEntry) TextError → Result (List CommandEntry) TextError
with_before [] read = read
with_before (entry ∷ entries) read = with_front entry (with_before entries read)

-- a venue that accepted some messages accepted the first of the commands that were read, and those
-- that are left follow
pub record TakesSome (accepted : List (List ℕ))
    (read left : Result (List CommandEntry) TextError) (venue : VenueState) : Type 0 where
  pub taken : List (List ℕ)
  pub same : accepted_in accepted read ≡ accepted_in taken left
  pub stands : Stands venue taken 0

-- all the commands were read, and it accepted them
pub record AcceptsAll (accepted : List (List ℕ))
    (read : Result (List CommandEntry) TextError) (venue : VenueState) : Type 0 where
  pub all : List (List ℕ)
  pub accepts : accepted_in accepted read ≡ Ok all
  pub stands : Stands venue all 0

-- it accepted the messages of a text
pub record IsVenueAfter (text : List ℕ) (venue : VenueState) : Type 0 where
  pub all : List (List ℕ)
  pub accepts : messages_of text ≡ Ok all
  pub stands : Stands venue all 0
