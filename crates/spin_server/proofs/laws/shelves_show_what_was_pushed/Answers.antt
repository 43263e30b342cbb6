use Rattle.spin_server.proofs.Shelving.{shelf_seen, seen_served, seen_newest, none_advertised}
use Rattle.spin_server.proofs.laws.shelves_show_what_was_pushed.Goals as goal

pub returns-clause-shows : goal.returns-clause-shows
returns-clause-shows c = shelf_seen

pub returns-clause-served : goal.returns-clause-served
returns-clause-served c = seen_served

pub returns-clause-newest : goal.returns-clause-newest
returns-clause-newest c = seen_newest

pub returns-clause-none : goal.returns-clause-none
returns-clause-none c = none_advertised
