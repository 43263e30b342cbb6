use Rattle.best_quotes.proofs.Listing.{changes_of, both_stay}
use Rattle.best_quotes.proofs.laws.changes_are_of_what_changes.Goals as goal

pub returns : goal.returns
returns c = λ old new symbols rise stay. changes_of old new symbols rise (λ q out. both_stay old new q (stay q out))
