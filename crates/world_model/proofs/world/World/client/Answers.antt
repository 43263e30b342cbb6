use Rattle.std.proofs.Common.{◌<◌, subst, arith}
use Rattle.client_core.specs.Tracks.{Tracks}
use Rattle.client_core.proofs.Venues.{own_venue}
use Rattle.client_end.specs.Parts.{ClientHeard}
use Rattle.world_model.specs.State.{State}
use Rattle.world_model.specs.Verbs.{state_of}
use Rattle.world_model.specs.declared.limits.Limits.{Limits}
use Rattle.world_model.proofs.Acting.{has_all, seen_client, whole}
use Rattle.world_model.proofs.world.World.client.Goals as goal

pub returns-clause-tracks : goal.returns-clause-tracks
returns-clause-tracks c = λ unit limits before stands.
    let s : State = state_of unit limits before in
    let heard = seen_client c.args.self.now s (has_all c.args.self.now unit limits before stands) (λ setup now. ClientHeard setup.hold c.client.result.now now.heard) c.client.ensures in
    subst (λ (l : Limits). Tracks c.client.result.now l.hold s.client.heard) stands.limits_are heard.tracks

pub returns-clause-keeps : goal.returns-clause-keeps
returns-clause-keeps c = λ unit limits before stands.
    let w = c.args.self.now in
    let s : State = state_of unit limits before in
    let small : w.unit < 256 = omega arith in
    (seen_client w s (has_all w unit limits before stands) (λ setup now. ClientHeard setup.hold c.client.result.now now.heard) c.client.ensures).keeps s.venue.messages
    (own_venue s.venue.messages s.client.heard stands.is.venue.market.venue.bytes (whole w s (has_all w unit limits before stands) small).honest)

pub returns-clause-whole : goal.returns-clause-whole
returns-clause-whole c = λ unit limits before stands.
    let w = c.args.self.now in
    let small : w.unit < 256 = omega arith in
    whole w (state_of unit limits before) (has_all w unit limits before stands) small
