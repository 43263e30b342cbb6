use Rattle.unit_commands.proofs.CutLemmas.{texts_are_cut, cuts_are_one, grown}
use Rattle.unit_commands.proofs.laws.cutting_laws.Goals as goal

pub returns-clause-cut : goal.returns-clause-cut
returns-clause-cut c = texts_are_cut

pub returns-clause-one : goal.returns-clause-one
returns-clause-one c = cuts_are_one

pub returns-clause-grown : goal.returns-clause-grown
returns-clause-grown c = grown
