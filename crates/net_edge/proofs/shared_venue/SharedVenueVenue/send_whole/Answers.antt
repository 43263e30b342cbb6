use Rattle.std.proofs.Common.{Bool, subst}
use Rattle.net_edge.proofs.SharedEnds.{Pumping, pumping_begins, pumping_ends, pumping_on}
use Rattle.net_edge.proofs.shared_venue.SharedVenueVenue.send_whole.Goals as goal

pub loop-more-init : goal.loop-more-init
loop-more-init g c = λ w is. pumping_begins w c.args.self.now.market c.args.self.now.unsent.items c.args.self.now.next c.args.self.now.servers is

pub loop-more-preserved : goal.loop-more-preserved
loop-more-preserved g c = λ w is.
    pumping_on w c.loop-more.self.market c.loop-more.self.unsent.items c.loop-more.self.next c.loop-more.self.servers c.pump_spin.new.self c.in_ok-more.more
    (subst (λ (more : Bool). Pumping w c.loop-more.self.market c.loop-more.self.servers c.loop-more.self.unsent.items c.loop-more.self.next more) c.loop-more-test.true (c.loop-more.invariant w is)) c.in_ok-more.ensures.stands c.in_ok-more.ensures.more

pub returns : goal.returns
returns g c = λ w is.
    pumping_ends w c.loop-more.self.market c.loop-more.self.unsent.items c.loop-more.self.next c.loop-more.self.servers
    (subst (λ (more : Bool). Pumping w c.loop-more.self.market c.loop-more.self.servers c.loop-more.self.unsent.items c.loop-more.self.next more) c.loop-more-test.false (c.loop-more.invariant w is))
