use Rattle.std.proofs.Common.{sym, subst, arith, None, []}
use Rattle.pitch_model.specs.Book.{IsBook}
use Rattle.order_book.specs.Standing.{book_of}
use Rattle.pitch_model.proofs.Books.{cleared_book}
use Rattle.order_book.proofs.unit_book.UnitBook.make.Goals as goal

pub invariant_of-result : goal.invariant_of-result
invariant_of-result c = record {
  book = subst (λ es. IsBook (book_of None es c.make.result.statuses)) (sym c.new.ensures.empty) (cleared_book (book_of None [] c.make.result.statuses));
  unique = c.new.ensures.unique;
  few = omega arith;
}
