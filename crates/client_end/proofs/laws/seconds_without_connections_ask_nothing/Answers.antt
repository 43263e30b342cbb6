use Rattle.client_end.proofs.Lines.{none_is_asked}
use Rattle.client_end.proofs.laws.seconds_without_connections_ask_nothing.Goals as goal

pub returns : goal.returns
returns c = none_is_asked
