-- What holds of a world holds of what it becomes, where it goes on holding as each thing comes.
use Rattle.std.proofs.Common.{ℕ, zero, suc, Bool, true, false, List, [], ◌∷◌}
use Rattle.std.proofs.lemmas.Bool.{cond_both}
use Rattle.pitch_io.specs.declared.line.Line.{Line}
use Rattle.pitch_io.specs.declared.net.NetTaken.{NetTaken}
use Rattle.pitch_text.specs.declared.verb.Session.{Session}
use Rattle.pitch_text.specs.declared.verb.Session.TheVariants.{Spin}
use Rattle.unit_packets.specs.Blocks.{Block}
use Rattle.venue_end.specs.Came.{SpinPumped}
use Rattle.venue_end.specs.Sessions.{session_of}
use Rattle.world_model.specs.Ends.{default_limits, server_cut, stands, the_session}
use Rattle.world_model.specs.State.{State}
use Rattle.world_model.specs.Verbs.{hears, hears_block, pumped, pumps, settled, venue_has}
use Rattle.net_edge.specs.Acting.{server_answers, server_takes}
use Rattle.net_edge.specs.Due.{demo_unit}
use Rattle.net_edge.specs.layers.Ends.{demo_venue}

module _ (P : State → Type 0) where
  -- the venue's end has cut a connection, or it stands
  pub settles : (session : Session) (w : State) → P w → P (venue_has demo_unit default_limits (server_cut session) w) → P (settled demo_unit default_limits session w)
  settles session w stays cut = cond_both (stands session w.client) w (venue_has demo_unit default_limits (server_cut session) w) P (λ e. stays) (λ e. cut)

  pub hears_on : (line : Line) → ((block : Block) (w : State) → P w → P (hears_block demo_unit default_limits line block w)) → (blocks : List Block) (w : State) → P w → P (hears demo_unit default_limits line blocks w)
  hears_on line more [] w is = is
  hears_on line more (block ∷ blocks) w is = hears_on line more blocks (hears_block demo_unit default_limits line block w) (more block w is)

  -- a Spin Server is asked for blocks
  module _ (more : (w : State) → P w → P (venue_has demo_unit default_limits (SpinPumped the_session) w)) where
    pub pumps_on : (n : ℕ) (w : State) → P w → P (pumped demo_unit default_limits n w)
    pumps_on zero w is = is
    pumps_on (suc n) w is = more (pumped demo_unit default_limits n w) (pumps_on n w is)

    pub serves_on : (bytes : List ℕ) (answer : NetTaken) (goes_on : Bool) (w : State) → P (server_answers Spin bytes answer w) → P (server_takes Spin bytes answer goes_on w)
    serves_on bytes answer true w is = is
    serves_on bytes answer false w is = let v : State = server_answers Spin bytes answer w in pumps_on (pumps demo_venue (session_of the_session v.venue.spins)) v is
