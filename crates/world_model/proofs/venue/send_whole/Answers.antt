use Rattle.std.proofs.Common.{Bool, subst}
use Rattle.world_model.proofs.Pumping.{Pumping, pumping_begins, pumping_ends, pumping_on}
use Rattle.world_model.proofs.venue.send_whole.Goals as goal

pub loop-more-init : goal.loop-more-init
loop-more-init c = λ s before is. pumping_begins s before c.args.venue.now is

pub loop-more-preserved : goal.loop-more-preserved
loop-more-preserved c = λ s before is.
    pumping_on s before c.loop-more.venue c.pump_spin.new.self c.in_ok-more.more (subst (λ (more : Bool). Pumping s before c.loop-more.venue more) c.loop-more-test.true (c.loop-more.invariant s before is)) c.in_ok-more.ensures.stands c.in_ok-more.ensures.more

pub returns : goal.returns
returns c = λ s before is. pumping_ends s before c.loop-more.venue (subst (λ (more : Bool). Pumping s before c.loop-more.venue more) c.loop-more-test.false (c.loop-more.invariant s before is))
