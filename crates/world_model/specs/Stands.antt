-- What a world stands for.
use Rattle.std.specs.Prelude.{◌≡◌, ℕ, List}
use Rattle.pitch_text.specs.declared.verb.Verb.{Verb}
use Rattle.unit_packets.specs.Packing.{bytes_in}
use Rattle.client_end.specs.Parts.{EndIs}
use Rattle.line_arbiter.specs.Noted.{HasNoted}
use Rattle.sending_end.specs.declared.end.SendingEnd.{SendingEnd}
use Rattle.venue_end.specs.Stands.{VenueIs}
use Rattle.world_model.specs.Ends.{venue_setup, client_setup}
use Rattle.world_model.specs.State.{State}
use Rattle.world_model.specs.Verbs.{state_of}
use Rattle.world_model.specs.declared.limits.Limits.{Limits}
use Rattle.world_model.specs.declared.world.World.{World}

-- the client's end of a unit and the bytes that wait there are those of a state
pub record HasClient (unit : ℕ) (limits : Limits) (e : SendingEnd) (s : State) : Type 0 where
  pub unit_is : e.unit ≡ unit
  pub end_is : EndIs (client_setup unit limits) e.end s.client
  pub grp_up : e.grp_said.items ≡ s.grp_up
  pub spin_up : e.spin_said.items ≡ s.spin_up

-- the parts of a world are those of a state
pub record WorldIs (w : World) (s : State) : Type 0 where
  pub begun : w.begun ≡ s.begun
  pub venue : VenueIs (venue_setup w.unit w.limits) w.venue s.venue
  pub client : HasClient w.unit w.limits w.client s
  pub sent : bytes_in w.sent.items ≡ s.sent
  pub replayed : bytes_in w.replayed.items ≡ s.replayed
  pub passed : w.passed ≡ s.passed
  pub noted : HasNoted w.arbiter s.notes

-- the world of a unit with these limits, with which these verbs were done, the newest first
pub record WorldStands (w : World) (unit : ℕ) (limits : Limits) (done : List Verb) : Type 0 where
  pub unit_is : w.unit ≡ unit
  pub limits_are : w.limits ≡ limits
  pub is : WorldIs w (state_of unit limits done)
