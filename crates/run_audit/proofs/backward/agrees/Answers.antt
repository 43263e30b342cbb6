use Rattle.std.proofs.Common.{arith, refl, slice_set}
use Rattle.feed_lines.specs.BookText.{book_text}
use Rattle.run_audit.specs.layers.Finding.{messages_of}
use Rattle.run_audit.specs.layers.Walking.{AreAt}
use Rattle.run_audit.proofs.Agreeing.{on_ok, stands_there}
use Rattle.run_audit.proofs.Walking.{at_here, at_length, at_put, book_there, log_at, walk_at}
use Rattle.run_audit.proofs.backward.agrees.Goals as goal

pub index_mut-walk-requires : goal.index_mut-walk-requires
index_mut-walk-requires c =
    let same = at_length c.args.logs.now c.args.walks.now.items c.requires.at in
    let lt = c.if-at-logs.false in
    omega (arith, same, lt)

pub go_to-requires-clause-at : goal.go_to-requires-clause-at
go_to-requires-clause-at c =
    at_here c.args.logs.now c.args.walks.now.items c.args.unit c.index-logs-at-2.result c.index_mut-walk.result.now c.requires.at
    (log_at c.args.logs.now c.args.unit c.index-logs-at-2.result c.if-at-logs.false c.index-logs-at-2.is)
    (walk_at c.args.logs.now c.args.walks.now.items c.args.unit c.index_mut-walk.result.now c.requires.at c.if-at-logs.false c.index_mut-walk.ensures.value)

pub returns-clause-at : goal.returns-clause-at
returns-clause-at c =
    on_ok (AreAt c.args.logs.now (slice_set c.args.walks.now.items c.args.unit c.go_to.new.walk)) c.stands.result
    (at_put c.args.logs.now c.args.walks.now.items c.args.unit c.index-logs-at-2.result c.go_to.new.walk c.requires.at
    (log_at c.args.logs.now c.args.unit c.index-logs-at-2.result c.if-at-logs.false c.index-logs-at-2.is) c.in_ok-go_to.ensures.at)

pub returns-clause-agrees : goal.returns-clause-agrees
returns-clause-agrees c =
    stands_there (messages_of c.args.logs.now) c.args.lines.now c.args.unit c.args.n (book_text c.args.unit c.args.n c.go_to.new.walk.book.book) c.stands.result
    (book_there c.args.logs.now c.args.unit c.args.n c.index-logs-at-2.result c.go_to.new.walk (book_text c.args.unit c.args.n c.go_to.new.walk.book.book) c.ranges.unit.fits
    (log_at c.args.logs.now c.args.unit c.index-logs-at-2.result c.if-at-logs.false c.index-logs-at-2.is) c.in_ok-go_to.ensures.at c.in_ok-go_to.ensures.there refl)
    c.stands.ensures
