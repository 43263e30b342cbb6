use Rattle.heard_items.proofs.Datagrams.{heard_both, fresh_few, fresh_sum, overflows_few, overflows_sum, unit_heard}
use Rattle.heard_items.proofs.laws.blocks_add_up.Goals as goal

pub returns-clause-heard : goal.returns-clause-heard
returns-clause-heard c = heard_both

pub returns-clause-fresh : goal.returns-clause-fresh
returns-clause-fresh c = fresh_sum

pub returns-clause-overflows : goal.returns-clause-overflows
returns-clause-overflows c = overflows_sum

pub returns-clause-fresh_few : goal.returns-clause-fresh_few
returns-clause-fresh_few c = fresh_few

pub returns-clause-overflows_few : goal.returns-clause-overflows_few
returns-clause-overflows_few c = overflows_few

pub returns-clause-unit : goal.returns-clause-unit
returns-clause-unit c = unit_heard
