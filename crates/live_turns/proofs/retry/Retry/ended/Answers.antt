use Rattle.live_turns.proofs.Retrying.{knows_ended}
use Rattle.live_turns.proofs.retry.Retry.ended.Goals as goal

pub returns : goal.returns
returns c = λ peer run call knows is. knows_ended peer run call is c.pause_at_end-pause.result (c.pause_at_end-pause.ensures peer run knows)
