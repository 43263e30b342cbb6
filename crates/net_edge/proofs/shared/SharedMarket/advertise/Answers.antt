use Rattle.net_edge.proofs.Sharing.{advertises}
use Rattle.net_edge.proofs.shared.SharedMarket.advertise.Goals as goal

pub returns : goal.returns
returns g c = λ j. rw (← c.self.view_is)
    (advertises c.self.inside.writer c.advertise.new.self c.in_ok-sequence.sequence j c.in_ok-sequence.ensures.sequence c.in_ok-sequence.ensures.reaches c.in_ok-sequence.ensures.history)
