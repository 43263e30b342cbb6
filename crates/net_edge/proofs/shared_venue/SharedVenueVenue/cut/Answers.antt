use Rattle.std.proofs.Common.{refl}
use Rattle.pitch_text.specs.declared.verb.Session.TheVariants.{Grp, Spin}
use Rattle.world_model.specs.Ends.{server_cut}
use Rattle.net_edge.proofs.SharedEnds.{alone_comes}
use Rattle.net_edge.proofs.shared_venue.SharedVenueVenue.cut.Goals as goal

pub returns-in-Grp : goal.returns-in-Grp
returns-in-Grp g c = rw c.in-Grp.is (record { comes = alone_comes _ _ _ _ _ (server_cut Grp) (λ now. refl) c.cut_proxy.ensures.stands })

pub returns-in-Spin : goal.returns-in-Spin
returns-in-Spin g c = rw c.in-Spin.is (record { comes = alone_comes _ _ _ _ _ (server_cut Spin) (λ now. refl) c.cut_spin.ensures.stands })
