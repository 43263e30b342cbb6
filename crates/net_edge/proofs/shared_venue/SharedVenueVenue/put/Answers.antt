use Rattle.std.proofs.Common.{refl}
use Rattle.pitch_text.specs.declared.verb.Session.TheVariants.{Grp, Spin}
use Rattle.world_model.specs.Ends.{server_put}
use Rattle.net_edge.proofs.SharedEnds.{alone_comes}
use Rattle.net_edge.proofs.shared_venue.SharedVenueVenue.put.Goals as goal

pub returns-in-Grp : goal.returns-in-Grp
returns-in-Grp g c = rw c.in-Grp.is (record { comes = alone_comes _ _ _ _ _ (server_put Grp c.args.count) (λ now. refl) c.put_by_proxy.ensures.stands })

pub returns-in-Spin : goal.returns-in-Spin
returns-in-Spin g c = rw c.in-Spin.is (record { comes = alone_comes _ _ _ _ _ (server_put Spin c.args.count) (λ now. refl) c.put_by_spin.ensures.stands })
