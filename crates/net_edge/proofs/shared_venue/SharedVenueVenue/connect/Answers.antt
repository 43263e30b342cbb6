use Rattle.std.proofs.Common.{refl}
use Rattle.std.proofs.lemmas.Result.{on_ok_weaker}
use Rattle.pitch_text.specs.declared.verb.Session.TheVariants.{Grp, Spin}
use Rattle.world_model.specs.Ends.{server_made}
use Rattle.net_edge.proofs.SharedEnds.{alone_comes}
use Rattle.net_edge.proofs.shared_venue.SharedVenueVenue.connect.Goals as goal

pub returns-in-Grp : goal.returns-in-Grp
returns-in-Grp g c = rw c.in-Grp.is (on_ok_weaker c.connect_proxy.result (λ comes. record { comes = alone_comes _ _ _ _ _ (server_made Grp) (λ now. refl) comes }) c.connect_proxy.ensures.stands)

pub returns-in-Spin : goal.returns-in-Spin
returns-in-Spin g c = rw c.in-Spin.is (on_ok_weaker c.connect_spin.result (λ comes. record { comes = alone_comes _ _ _ _ _ (server_made Spin) (λ now. refl) comes }) c.connect_spin.ensures.stands)
