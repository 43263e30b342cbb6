use Rattle.heard_items.proofs.Hearing.{heard_item, change_item, item_fits}
use Rattle.heard_items.proofs.laws.items_say_what_their_blocks_say.Goals as goal

pub returns-clause-heard : goal.returns-clause-heard
returns-clause-heard c = heard_item

pub returns-clause-change : goal.returns-clause-change
returns-clause-change c = change_item

pub returns-clause-fits : goal.returns-clause-fits
returns-clause-fits c = item_fits
