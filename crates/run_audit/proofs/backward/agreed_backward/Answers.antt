use Rattle.std.proofs.Common.{rules}
use Rattle.std.proofs.lemmas.List.Sorted.{All-permutation}
use Rattle.run_audit.specs.layers.Backward.{IsAgreed}
use Rattle.run_audit.specs.layers.Finding.{messages_of}
use Rattle.run_audit.specs.Report.{lines_of}
use Rattle.run_audit.proofs.Agreeing.{agreed_more, agreed_one, asked_at, asked_few}
use Rattle.run_audit.proofs.backward.agreed_backward.Goals as goal

pub agrees-requires-clause-few : goal.agrees-requires-clause-few
agrees-requires-clause-few c =
    asked_few c.args.text.now c.book-item.result c.requires
    (asked_at (lines_of c.args.text.now) c.in_ok-asked.asked.items c.sort_unstable_by_key.new.self.items c.deref-book-items.result.now c.books.book-index c.book-item.result c.in_ok-asked.ensures c.sort_unstable_by_key.ensures.permutation c.deref-book-items.ensures.value
    (search rules) c.book-item.is)

pub books-preserved : goal.books-preserved
books-preserved c = record {
  at = c.in_ok-count.ensures.at;
  agreed = agreed_more (messages_of c.args.logs.now) (lines_of c.args.text.now) c.books.agreed.items c.push.new.self.items (record { line = c.book-item.result.line; count = c.in-Some.count }) c.books.invariant.agreed c.in_ok-push.ensures.items
      (agreed_one (messages_of c.args.logs.now) (lines_of c.args.text.now) c.book-item.result c.in_ok-count.field-0 c.in-Some.count c.in_ok-count.ensures.agrees c.in-Some.is
      (asked_at (lines_of c.args.text.now) c.in_ok-asked.asked.items c.sort_unstable_by_key.new.self.items c.deref-book-items.result.now c.books.book-index c.book-item.result c.in_ok-asked.ensures c.sort_unstable_by_key.ensures.permutation c.deref-book-items.ensures.value
      (search rules) c.book-item.is));
}

pub returns : goal.returns
returns c = All-permutation (IsAgreed (messages_of c.args.logs.now) (lines_of c.args.text.now)) c.books.agreed.items c.sort_unstable_by_key-2.new.self.items c.sort_unstable_by_key-2.ensures.permutation c.books.invariant.agreed
