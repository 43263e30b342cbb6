use Rattle.drill_client.proofs.Going.{heard_to_more, heard_to_end}
use Rattle.drill_client.proofs.following.hear_datagram.Goals as goal

pub pieces-preserved : goal.pieces-preserved
pieces-preserved c = heard_to_more _ _ _ _ _ _ c.in-Some.block c.pieces.invariant c.in-Some.ensures.steps c.in_ok-hear_block.ensures

pub returns : goal.returns
returns c = heard_to_end _ _ _ _ c.pieces.invariant c.in-None.ensures.steps.0
