-- The feed that a text of commands makes.
use Rattle.std.specs.Prelude.{◌≡◌, ℕ, List, [], ◌∷◌, ◌++◌, map, Option, None, Some, Result, Ok, Err}
use Rattle.std.specs.List.{concat}
use Rattle.pitch_text.specs.CommandGrammar.{command, command_entry}
use Rattle.text_lines.specs.Text.{TextFault, entries_of}
use Rattle.pitch_text.specs.declared.command.Command.{Command}
use Rattle.pitch_text.specs.declared.command.CommandEntry.{CommandEntry}
use Rattle.unit_packets.specs.Packing.{IsPacking, packed}
use Rattle.venue_core.specs.Commands.{raw_of}
use Rattle.venue_core.specs.Refusals.{refusal}
use Rattle.venue_core.specs.declared.error.VenueError.{VenueError}
use Rattle.command_feed.specs.declared.error.CommandError.{CommandError}
use Rattle.command_feed.specs.declared.error.CommandError.TheVariants.{Bad, Refused}

-- the command of a line is refused, or others follow it
abbrev pub then_accepted : Option VenueError
    → ℕ → Result (List (List ℕ)) CommandError → Result (List (List ℕ)) CommandError
then_accepted (Some error) line others = Err (Refused line error)
then_accepted None line others = others

-- what a venue that accepted some messages has accepted after these commands too, or the first that
-- it refuses, with its line
abbrev pub accepted_after : List (List ℕ) → List CommandEntry → Result (List (List ℕ)) CommandError
accepted_after accepted [] = Ok accepted
accepted_after accepted (entry ∷ entries) =
    then_accepted (refusal accepted entry.command) entry.line
    (accepted_after (accepted ++ raw_of entry.command ∷ []) entries)

-- the messages of the commands that were read, or the first fault of their text
abbrev pub messages_on : Result (List (ℕ × Command)) TextFault → Result (List (List ℕ)) CommandError
messages_on (Ok entries) = accepted_after [] (map command_entry entries)
messages_on (Err at) = Err (Bad at.line at.fault.column at.fault.cause)

-- the messages of a text of commands: the whole text is read before the first command goes to the
-- venue
unfoldable pub messages_of : List ℕ → Result (List (List ℕ)) CommandError
messages_of text = messages_on (entries_of command text)

-- the datagrams of a unit's messages, the first of which has sequence 1, end to end
abbrev pub feed_on : ℕ → Result (List (List ℕ)) CommandError → Result (List ℕ) CommandError
feed_on unit (Ok messages) = Ok (concat (packed unit 1 messages))
feed_on unit (Err error) = Err error

-- the feed of a text of commands, or why there is none
abbrev pub feed_of : ℕ → List ℕ → Result (List ℕ) CommandError
feed_of unit text = feed_on unit (messages_of text)

-- the messages of the text were packed for a unit, from sequence 1 on, and their datagrams appended
-- end to end
pub record AppendsPacking (unit : ℕ) (text before after : List ℕ) : Type 0 where
  pub messages : List (List ℕ)
  pub datagrams : List (List ℕ)
  pub accepted : messages_of text ≡ Ok messages
  pub packing : IsPacking unit 1 messages datagrams
  pub appended : after ≡ before ++ concat datagrams
