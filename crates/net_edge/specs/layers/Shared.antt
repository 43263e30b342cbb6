-- What the code knows of a shared unit's side of the demo's venue. No caller needs it.
use Rattle.std.specs.Prelude.{◌≡◌, ◌≤◌, ◌+◌, ℕ, List, [], ◌∷◌, ◌++◌, None, false, length, drop}
use Rattle.pitch_model.specs.Advertising.{accepted_by, advertised_by, with_sequence}
use Rattle.pitch_model.specs.History.{Raw}
use Rattle.pitch_text.specs.declared.command.Command.{Command}
use Rattle.shared_unit.specs.layers.Moments.{Writing}
use Rattle.unit_market.specs.Markets.{Journal}
use Rattle.venue_core.specs.Commands.{raw_of}
use Rattle.venue_core.specs.Refusals.{refusal}
use Rattle.venue_end.specs.Came.{VenueState, journal_in}
use Rattle.venue_end.specs.Stands.{ServersAre}
use Rattle.venue_end.specs.declared.servers.Servers.{Servers}
use Rattle.world_model.specs.Ends.{default_limits}
use Rattle.net_edge.specs.Due.{demo_unit}
use Rattle.net_edge.specs.layers.Ends.{AreMessages, demo_venue}

-- a writer has a journal of the demo's unit: its messages were accepted and its sequences
-- advertised in the writer's history, which was not cut off
pub record SharedHas (writer : Writing) (j : Journal) : Type 0 where
  pub unit_is : j.unit ≡ demo_unit
  pub kept_is : j.kept ≡ default_limits.kept
  pub reaches : writer.cut_off ≡ false
  pub accepted_is : accepted_by writer.history ≡ j.messages
  pub advertised_is : advertised_by writer.history ≡ j.advertised
  pub messages : AreMessages j.messages

-- a command was not refused, and its message is accepted
pub record Accepts (writer writer' : Writing) (command : Command) (j : Journal) : Type 0 where
  pub not_refused : refusal j.messages command ≡ None
  pub has : SharedHas writer' (record j { messages = j.messages ++ raw_of command ∷ [] })

-- the image of all messages is advertised, whose sequence this is
pub record Advertises (writer writer' : Writing) (sequence : ℕ) (j : Journal) : Type 0 where
  pub sequence_is : sequence ≡ length j.messages
  pub has : SharedHas writer'
      (record j { advertised = with_sequence j.advertised (length j.messages) })

-- ---- The end
-- a venue's end over a shared unit: its market has the messages and the sequences, its servers the
-- sessions, and what was not sent yet is at hand, with the first sequence of that
pub record SharedIs (market : Writing) (servers : Servers) (unsent : List Raw) (next : ℕ)
    (now : VenueState) : Type 0 where
  pub has : SharedHas market (journal_in demo_venue now)
  pub are : ServersAre demo_venue servers now
  pub within : now.sent ≤ length now.messages
  pub unsent_is : unsent ≡ drop now.sent now.messages
  pub next_is : next ≡ now.sent + 1
