use Rattle.line_copies.proofs.Lasting.{last_are_kept}
use Rattle.line_copies.proofs.laws.last_sequences_are_kept.Goals as goal

pub returns : goal.returns
returns c = last_are_kept
