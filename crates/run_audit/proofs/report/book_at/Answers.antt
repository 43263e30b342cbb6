use Rattle.std.proofs.Common.{ap, arith, length}
use Rattle.run_audit.proofs.Walking.{at_here, at_length, at_put, book_there, log_at, messages_here, messages_none, walk_at}
use Rattle.run_audit.proofs.report.book_at.Goals as goal

pub returns-then-n-len-clause-book : goal.returns-then-n-len-clause-book
returns-then-n-len-clause-book c =
    let are = ap length (messages_here c.args.logs.now c.args.unit c.index-logs-at.result (log_at c.args.logs.now c.args.unit c.index-logs-at.result c.if-at-logs.true c.index-logs-at.is)) in
    omega (arith, are)

pub index_mut-walk-requires : goal.index_mut-walk-requires
index_mut-walk-requires c =
    let same = at_length c.args.logs.now c.args.walks.now.items c.requires.at in
    let lt = c.if-at-logs.true in
    omega (arith, same, lt)

pub go_to-requires-clause-at : goal.go_to-requires-clause-at
go_to-requires-clause-at c =
    at_here c.args.logs.now c.args.walks.now.items c.args.unit c.index-logs-at-then-at-logs.result c.index_mut-walk.result.now c.requires.at
    (log_at c.args.logs.now c.args.unit c.index-logs-at-then-at-logs.result c.if-at-logs.true c.index-logs-at-then-at-logs.is)
    (walk_at c.args.logs.now c.args.walks.now.items c.args.unit c.index_mut-walk.result.now c.requires.at c.if-at-logs.true c.index_mut-walk.ensures.value)

pub returns-then-at-logs-clause-at : goal.returns-then-at-logs-clause-at
returns-then-at-logs-clause-at c =
    at_put c.args.logs.now c.args.walks.now.items c.args.unit c.index-logs-at-then-at-logs.result c.go_to.new.walk c.requires.at
    (log_at c.args.logs.now c.args.unit c.index-logs-at-then-at-logs.result c.if-at-logs.true c.index-logs-at-then-at-logs.is) c.in_ok-go_to.ensures.at

pub returns-then-at-logs-clause-book : goal.returns-then-at-logs-clause-book
returns-then-at-logs-clause-book c =
    book_there c.args.logs.now c.args.unit c.args.n c.index-logs-at-then-at-logs.result c.go_to.new.walk c.in_ok-printed.field-0.items c.ranges.unit.fits
    (log_at c.args.logs.now c.args.unit c.index-logs-at-then-at-logs.result c.if-at-logs.true c.index-logs-at-then-at-logs.is) c.in_ok-go_to.ensures.at c.in_ok-go_to.ensures.there c.in_ok-printed.ensures

pub returns-then-n-gt0-clause-book : goal.returns-then-n-gt0-clause-book
returns-then-n-gt0-clause-book c =
    let none = ap length (messages_none c.args.logs.now c.args.unit c.if-at-logs.false) in
    let more = c.if-n-gt0.true in
    omega (arith, none, more)
