use Rattle.std.proofs.Common.{refl, sym}
use Rattle.std.proofs.lemmas.List.{append-nil}
use Rattle.std.proofs.lemmas.Result.{on_ok_weaker}
use Rattle.pitch_text.specs.declared.verb.Session.TheVariants.{Grp, Spin}
use Rattle.unit_packets.specs.Packing.{bytes_in}
use Rattle.world_model.specs.Ends.{server_took}
use Rattle.net_edge.specs.layers.Ends.{demo_venue}
use Rattle.net_edge.proofs.SharedEnds.{alone_is, grp_hands}
use Rattle.net_edge.proofs.shared_venue.SharedVenueVenue.take.Goals as goal

pub returns-in-Grp-clause-comes : goal.returns-in-Grp-clause-comes
returns-in-Grp-clause-comes g c = rw c.in-Grp.is (on_ok_weaker c.take_proxy.result (λ comes. record { comes = λ now is. alone_is _ _ _ _ _ _ (server_took Grp c.args.piece.now) now (λ v. refl) c.take_proxy.ensures.side (comes demo_venue now is.are is.has) is }) c.take_proxy.ensures.stands)

pub returns-in-Grp-clause-lines : goal.returns-in-Grp-clause-lines
returns-in-Grp-clause-lines g c = rw c.in-Grp.is (on_ok_weaker c.take_proxy.result (λ lined now is. grp_hands now is.has.messages _ _ _ (lined demo_venue now is.are is.has)) c.take_proxy.ensures.lines)

pub returns-in-Spin-clause-comes : goal.returns-in-Spin-clause-comes
returns-in-Spin-clause-comes g c = rw c.in-Spin.is (on_ok_weaker c.take_spin.result (λ comes. record { comes = λ now is. alone_is _ _ _ _ _ _ (server_took Spin c.args.piece.now) now (λ v. refl) c.take_spin.ensures.side (comes demo_venue now is.are is.has) is }) c.take_spin.ensures.stands)

pub returns-in-Spin-clause-lines : goal.returns-in-Spin-clause-lines
returns-in-Spin-clause-lines g c = rw c.in-Spin.is (on_ok_weaker c.take_spin.result (λ comes now is. record { lined = sym (append-nil (bytes_in c.args.gap_line.now.items)); pieces = tt }) c.take_spin.ensures.stands)
