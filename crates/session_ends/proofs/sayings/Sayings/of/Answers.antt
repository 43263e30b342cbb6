use Rattle.std.proofs.Common.{refl}
use Rattle.pitch_messages.specs.Raw.{raws_of}
use Rattle.session_ends.proofs.sayings.Sayings.of.Goals as goal

pub of_block-requires-clause-many : goal.of_block-requires-clause-many
unfolding raws_of
of_block-requires-clause-many c = refl

pub of_block-requires-clause-whole : goal.of_block-requires-clause-whole
unfolding raws_of
of_block-requires-clause-whole c = refl
