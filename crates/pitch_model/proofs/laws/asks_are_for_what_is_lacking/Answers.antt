use Rattle.pitch_model.proofs.Recovering.{gap_is, spin_is}
use Rattle.pitch_model.proofs.laws.asks_are_for_what_is_lacking.Goals as goal

pub returns-clause-gap : goal.returns-clause-gap
returns-clause-gap c = gap_is

pub returns-clause-spin : goal.returns-clause-spin
returns-clause-spin c = spin_is
