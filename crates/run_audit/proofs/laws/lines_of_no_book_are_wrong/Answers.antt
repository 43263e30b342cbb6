use Rattle.run_audit.proofs.Reporting.{wrong_first, wrong_within}
use Rattle.run_audit.proofs.laws.lines_of_no_book_are_wrong.Goals as goal

pub returns-clause-first : goal.returns-clause-first
returns-clause-first c = wrong_first

pub returns-clause-within : goal.returns-clause-within
returns-clause-within c = wrong_within
