use Rattle.live_units.proofs.Following.{books_are, lines_are, text_is}
use Rattle.live_units.proofs.laws.blocks_alone_print_what_follow_does.Goals as goal

pub returns-clause-lines : goal.returns-clause-lines
returns-clause-lines c = lines_are

pub returns-clause-books : goal.returns-clause-books
returns-clause-books c = books_are

pub returns-clause-text : goal.returns-clause-text
returns-clause-text c = text_is
