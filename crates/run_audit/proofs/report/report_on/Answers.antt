use Rattle.std.proofs.Common.{ap, arith, Bor, List, ℕ, length, ◌+◌, subst}
use Rattle.std.specs.List.{Contains}
use Rattle.run_audit.specs.declared.backward.AgreedBook.{AgreedBook}
use Rattle.run_audit.specs.layers.Finding.{Reads, messages_of}
use Rattle.run_audit.specs.Report.{lines_of}
use Rattle.run_audit.proofs.Agreeing.{stands_first, stands_some, stands_within}
use Rattle.run_audit.proofs.Deciding.{differs_few, few_books, few_left, first_of_book, judged_differs, judged_same, later_of_book, no_front, not_of_book, passed_line, says_no, says_yes, wrong_book}
use Rattle.run_audit.proofs.Reporting.{reads_book, reads_passed, wrong_first}
use Rattle.run_audit.proofs.report.report_on.Goals as goal

pub judge_book-requires-clause-short : goal.judge_book-requires-clause-short
judge_book-requires-clause-short c = let left = few_left (messages_of c.args.logs.now) c.args.text.now c.parts.lines c.parts.books c.parts.number c.parts.invariant.reads c.requires.size in let n = c.parts.invariant.reads.number_is in omega (arith, left, n)

pub judge_book-requires-clause-agreed : goal.judge_book-requires-clause-agreed
judge_book-requires-clause-agreed c book has at = stands_first (messages_of c.args.logs.now) (lines_of c.args.text.now) c.parts.lines c.parts.books c.parts.number c.in_ok-agreed.agreed.items book c.parts.invariant.reads c.in_ok-agreed.ensures
    (subst (λ (l : List AgreedBook). Contains l book) c.deref.ensures.value has) at

pub overflow_add-number : goal.overflow_add-number
overflow_add-number c =
    let left = few_left (messages_of c.args.logs.now) c.args.text.now c.parts.lines c.parts.books c.parts.number c.parts.invariant.reads c.requires.size in
    let j = judged_same (messages_of c.args.logs.now) c.in-Some.line.now c.parts.lines c.judge_book.new.lines c.in_ok-count.field-0 c.in-Same.count c.in_ok-count.ensures.judged c.in-Same.is in
    let many = stands_within (messages_of c.args.logs.now) c.parts.lines c.judge_book.new.lines c.in-Same.count j.0 j.1 in
    omega (arith, left, many)

pub overflow_add-result : goal.overflow_add-result
overflow_add-result c =
    let left = few_left (messages_of c.args.logs.now) c.args.text.now c.parts.lines c.parts.books c.parts.number c.parts.invariant.reads c.requires.size in
    let few = differs_few (messages_of c.args.logs.now) c.in-Some.line.now c.parts.lines c.judge_book.new.lines c.in-Differs.count
    (judged_differs (messages_of c.args.logs.now) c.in-Some.line.now c.parts.lines c.judge_book.new.lines c.in_ok-count.field-0 c.in-Differs.count c.in_ok-count.ensures.judged c.in-Differs.is) in
    omega (arith, left, few)

pub returns-in-Differs : goal.returns-in-Differs
returns-in-Differs c =
    says_no (messages_of c.args.logs.now) (lines_of c.args.text.now) (c.parts.number + c.in-Differs.count)
    (wrong_book (messages_of c.args.logs.now) c.requires.few (lines_of c.args.text.now) c.parts.lines c.in-Some.ensures.0 c.judge_book.new.lines c.in-Some.line.now c.parts.books c.parts.number c.in-Differs.count c.parts.invariant.reads c.in-Some.ensures.1 (first_of_book c.in-Some.line.now c.starts_with.result c.starts_with.ensures.value c.if-starts_with.true)
    (judged_differs (messages_of c.args.logs.now) c.in-Some.line.now c.parts.lines c.judge_book.new.lines c.in_ok-count.field-0 c.in-Differs.count c.in_ok-count.ensures.judged c.in-Differs.is))

pub overflow_add-books : goal.overflow_add-books
overflow_add-books c = let few = few_books (messages_of c.args.logs.now) c.requires.few c.args.text.now c.parts.lines c.parts.books c.parts.number c.parts.invariant.reads c.requires.size in omega (arith, few)

pub parts-smaller-then-starts_with : goal.parts-smaller-then-starts_with
parts-smaller-then-starts_with c =
    let j = judged_same (messages_of c.args.logs.now) c.in-Some.line.now c.parts.lines c.judge_book.new.lines c.in_ok-count.field-0 c.in-Same.count c.in_ok-count.ensures.judged c.in-Same.is in
    let some = stands_some (messages_of c.args.logs.now) c.requires.few c.parts.lines c.in-Same.count j.0 in
    let many = stands_within (messages_of c.args.logs.now) c.parts.lines c.judge_book.new.lines c.in-Same.count j.0 j.1 in
    omega (arith, some, many)

pub parts-preserved-then-starts_with : goal.parts-preserved-then-starts_with
parts-preserved-then-starts_with c =
    let j = judged_same (messages_of c.args.logs.now) c.in-Some.line.now c.parts.lines c.judge_book.new.lines c.in_ok-count.field-0 c.in-Same.count c.in_ok-count.ensures.judged c.in-Same.is in
    record {
      reads = subst (λ (ls : List (List ℕ)). Reads (messages_of c.args.logs.now) (lines_of c.args.text.now) ls (c.parts.books + 1) (c.parts.number + c.in-Same.count)) j.1
          (reads_book (messages_of c.args.logs.now) (lines_of c.args.text.now) c.parts.lines c.parts.books c.parts.number c.in-Same.count c.parts.invariant.reads j.0);
      at = c.in_ok-count.ensures.at;
    }

pub returns-then-is_inner : goal.returns-then-is_inner
returns-then-is_inner c =
    says_no (messages_of c.args.logs.now) (lines_of c.args.text.now) c.parts.number
    (wrong_first (messages_of c.args.logs.now) c.requires.few (lines_of c.args.text.now) c.parts.lines c.in-Some.ensures.0 c.in-Some.line.now c.parts.books c.parts.number c.parts.invariant.reads c.in-Some.ensures.1 (later_of_book c.in-Some.line.now c.is_inner.result c.is_inner.ensures c.if-is_inner.true)
    (λ unit n more part e. no_front c.in-Some.line.now c.is_inner.result c.is_inner.ensures c.if-is_inner.true unit n more e))

pub overflow_add-number-else-is_inner : goal.overflow_add-number-else-is_inner
overflow_add-number-else-is_inner c =
    let left = few_left (messages_of c.args.logs.now) c.args.text.now c.parts.lines c.parts.books c.parts.number c.parts.invariant.reads c.requires.size in
    let many = ap length c.in-Some.ensures.1 in
    omega (arith, left, many)

pub parts-preserved : goal.parts-preserved
parts-preserved c = record {
  reads = reads_passed (messages_of c.args.logs.now) (lines_of c.args.text.now) c.parts.lines c.next_line.new.self c.in-Some.line.now c.parts.books c.parts.number c.parts.invariant.reads
      (passed_line (λ (x : Bor (List ℕ)). x.now) c.next_line.result c.parts.lines c.next_line.new.self c.in-Some.ensures.0 c.in-Some.line.now c.next_line.ensures c.in-Some.ensures.1)
      (not_of_book c.in-Some.line.now c.starts_with.result c.is_inner.result c.starts_with.ensures.value c.if-starts_with.false c.is_inner.ensures c.if-is_inner.false);
  at = c.parts.invariant.at;
}

pub returns : goal.returns
returns c = says_yes (messages_of c.args.logs.now) (lines_of c.args.text.now) c.parts.lines c.parts.books c.parts.number c.parts.invariant.reads c.in_default.ensures
