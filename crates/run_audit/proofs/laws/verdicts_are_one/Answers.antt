use Rattle.run_audit.proofs.Verdicts.{verdict_is_one}
use Rattle.run_audit.proofs.laws.verdicts_are_one.Goals as goal

pub returns : goal.returns
returns c = verdict_is_one
