use Rattle.pitch_messages.proofs.Chains.{empty_chain, no_raws}
use Rattle.pitch_messages.proofs.raw_list.RawList.make.Goals as goal

pub invariant_of-result : goal.invariant_of-result
invariant_of-result c = empty_chain _ c.new.ensures.items

pub returns : goal.returns
returns c = no_raws _
