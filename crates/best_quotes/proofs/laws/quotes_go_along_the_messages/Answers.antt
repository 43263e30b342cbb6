use Rattle.best_quotes.proofs.Along.{quoted_along}
use Rattle.best_quotes.proofs.laws.quotes_go_along_the_messages.Goals as goal

pub returns : goal.returns
returns c = quoted_along
