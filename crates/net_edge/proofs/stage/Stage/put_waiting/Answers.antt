use Rattle.std.proofs.Common.{◌∙◌}
use Rattle.net_edge.proofs.stage.Stage.put_waiting.Goals as goal

pub returns-clause-plays : goal.returns-clause-plays
returns-clause-plays g c = λ s base now w h same plays.
    let waits = c.waiting-bytes.ensures w h ∙ same in
    rw (← waits) (c.in_ok-put_whole.ensures.put s base now waits plays)
