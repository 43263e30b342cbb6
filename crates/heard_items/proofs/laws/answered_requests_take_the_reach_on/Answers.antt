use Rattle.heard_items.proofs.Answered.{answer_raises}
use Rattle.heard_items.proofs.laws.answered_requests_take_the_reach_on.Goals as goal

pub returns : goal.returns
returns c = answer_raises
