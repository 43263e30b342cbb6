use Rattle.spin_path.proofs.Moves.{never_answered}
use Rattle.spin_path.proofs.Whole.{images_are_whole}
use Rattle.spin_path.proofs.laws.images_are_whole.Goals as goal

pub returns-clause-whole : goal.returns-clause-whole
returns-clause-whole c = images_are_whole

pub returns-clause-never : goal.returns-clause-never
returns-clause-never c = never_answered
