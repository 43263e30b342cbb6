use Rattle.pitch_model.proofs.Entries.{kept_leaves, overflow_leaves}
use Rattle.pitch_model.proofs.laws.later_messages_are_held.Goals as goal

pub returns-clause-kept : goal.returns-clause-kept
returns-clause-kept c = kept_leaves

pub returns-clause-overflow : goal.returns-clause-overflow
returns-clause-overflow c = overflow_leaves
