use Rattle.line_copies.proofs.Venues.{are_of_no_venue, lines_are_as_honest}
use Rattle.line_copies.proofs.laws.copies_that_differ_are_of_no_venue.Goals as goal

pub returns-clause-none : goal.returns-clause-none
returns-clause-none c = are_of_no_venue

pub returns-clause-lines : goal.returns-clause-lines
returns-clause-lines c = lines_are_as_honest
