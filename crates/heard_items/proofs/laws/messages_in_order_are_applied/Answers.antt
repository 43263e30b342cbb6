use Rattle.heard_items.proofs.Answered.{messages_raise}
use Rattle.heard_items.proofs.laws.messages_in_order_are_applied.Goals as goal

pub returns : goal.returns
returns c = messages_raise
