use Rattle.long_options.proofs.Program.{calls_taken, takes_calls}
use Rattle.long_options.proofs.takes_exactly_calls.Goals as goal

pub returns-clause-takes_calls : goal.returns-clause-takes_calls
returns-clause-takes_calls c = takes_calls

pub returns-clause-calls_taken : goal.returns-clause-calls_taken
returns-clause-calls_taken c = calls_taken
