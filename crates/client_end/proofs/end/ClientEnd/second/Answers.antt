use Rattle.client_end.proofs.Losing.{both_lost}
use Rattle.client_end.proofs.end.ClientEnd.second.Goals as goal

pub returns-in-Err-clause-err : goal.returns-in-Err-clause-err
returns-in-Err-clause-err c = both_lost c.args.self.now c.pass_second.new.self c.lose_both.new.self c.lose_both.ensures c.in-Err.ensures.err
