use Rattle.std.proofs.Common.{◌≡◌, ◌++◌, take}
use Rattle.std.specs.FinMap as map
use Rattle.feed_lines.specs.BookText.{book_head}
use Rattle.feed_lines.proofs.Booking.{lines_of}
use Rattle.run_audit.proofs.printing.printed_orders.Given as goal

abbrev pub invariant-lines : goal.invariant-lines
invariant-lines l = l.text.items ≡ book_head l.unit l.n l.fn.book.book.second (map.len l.fn.book.book.orders) ++ lines_of (take l.order-index l.order-items)
