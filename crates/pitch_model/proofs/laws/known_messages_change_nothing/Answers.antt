use Rattle.pitch_model.proofs.Entries.{old_leaves, repeat_leaves}
use Rattle.pitch_model.proofs.laws.known_messages_change_nothing.Goals as goal

pub returns-clause-old : goal.returns-clause-old
returns-clause-old c = old_leaves

pub returns-clause-repeat : goal.returns-clause-repeat
returns-clause-repeat c = repeat_leaves
