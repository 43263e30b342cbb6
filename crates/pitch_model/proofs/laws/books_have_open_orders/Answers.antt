use Rattle.pitch_model.proofs.Books.{book_after_book, book_after_len}
use Rattle.pitch_model.proofs.Widths.{book_after_fits}
use Rattle.pitch_model.proofs.laws.books_have_open_orders.Goals as goal

pub returns-clause-book : goal.returns-clause-book
returns-clause-book c = book_after_book

pub returns-clause-few : goal.returns-clause-few
returns-clause-few c = book_after_len

pub returns-clause-wire : goal.returns-clause-wire
returns-clause-wire c = book_after_fits
