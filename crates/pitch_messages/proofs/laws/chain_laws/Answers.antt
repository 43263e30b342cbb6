use Rattle.pitch_messages.proofs.LongestChain.{longest_chain_is_one, raws_are_longest}
use Rattle.pitch_messages.proofs.laws.chain_laws.Goals as goal

pub returns-clause-computed : goal.returns-clause-computed
returns-clause-computed c = raws_are_longest

pub returns-clause-one : goal.returns-clause-one
returns-clause-one c = longest_chain_is_one
