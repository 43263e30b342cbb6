-- Worked examples of audits, computed by the definitions.
use Rattle.std.proofs.Common.{◌≡◌, ℕ, ◌<◌, ◌^◌, ◌==◌, Bool, true, false, List, [], ◌∷◌, ◌++◌, length, if◌then◌else◌, refl, sym, arith, codes, Some, None}
use Rattle.std.proofs.Common.{ap, ◌∙◌, lit<, lit≤, map as mapped}
use Rattle.std.specs.Prelude.{bytes_eq}
use Rattle.std.proofs.lemmas.Bool.{false≢true}
use Rattle.std.specs.Fmt.{digits}
use Rattle.std.specs.FinMap as map
use Rattle.std.specs.List.{flat_map}
use Rattle.std.specs.Ordering.{nat_cmp}
use Rattle.pitch_messages.specs.declared.order.Order.{Order}
use Rattle.pitch_messages.specs.Raw.{raws_of}
use Rattle.pitch_messages.specs.Reading.{reads}
use Rattle.unit_packets.specs.Cutting.{blocks_by, blocks_of, rest_by, rest_of}
use Rattle.unit_packets.specs.Judging.{judge, messages_end}
use Rattle.unit_packets.specs.declared.header.BlockError.TheVariants.{Truncated}
use Rattle.pitch_model.specs.History.{Raw}
use Rattle.pitch_model.specs.Book.{after, book_after}
use Rattle.pitch_model.specs.Statuses.{statuses_of, symbol_state}
use Rattle.pitch_model.proofs.Examples.{no_entries, no_orders, no_statuses}
use Rattle.feed_lines.specs.BookText.{book_head, book_orders, book_text, order_line}
use Rattle.feed_lines.proofs.Booking.{state_lines}
use Rattle.run_audit.specs.Causes.{audit_fault_text, verdict_line}
use Rattle.run_audit.specs.layers.Finding.{Names}
use Rattle.run_audit.specs.Input.{fault_in_log, gap_at, input_fault, log_size, messages_in, report_in}
use Rattle.run_audit.specs.layers.Lines.{book_front}
use Rattle.run_audit.specs.Report.{Agrees, IsFirstWrong, IsPart, Printed, book_lines, lines_of}
use Rattle.run_audit.specs.declared.input.AuditFault.TheVariants.{NoSize, CutLog, Faulty}
use Rattle.run_audit.specs.declared.verdict.Verdict.TheVariants.{Yes, No}
use Rattle.run_audit.proofs.Deciding.{no_front}
use Rattle.run_audit.proofs.Fronts.{front_names}
use Rattle.run_audit.proofs.Judging.{no_part}
use Rattle.run_audit.specs.layers.Laws.{AreFew}
use Rattle.run_audit.proofs.Reporting.{first_is, reads_book, reads_none, wrong_first, wrong_within}

-- ---- Inputs
-- the time 34200, and a block with it that has a sequence
abbrev clock : Raw
clock = 6 ∷ 0x20 ∷ 0x98 ∷ 0x85 ∷ 0 ∷ 0 ∷ []

abbrev timed : ℕ → List ℕ
timed sequence = 14 ∷ 0 ∷ 1 ∷ 1 ∷ sequence ∷ 0 ∷ 0 ∷ 0 ∷ clock

-- how many bytes the log is said to have, the log and the report
abbrev input : ℕ → List ℕ → List ℕ → List ℕ
input size log text = size ∷ 0 ∷ 0 ∷ 0 ∷ 0 ∷ 0 ∷ 0 ∷ 0 ∷ log ++ text

sound_input : input_fault (input 14 (timed 1) []) ≡ None
unfolding input_fault fault_in_log blocks_of blocks_by rest_of rest_by judge messages_end raws_of
sound_input = refl

-- all eight bytes of the size count
a_large_size : log_size (2 ∷ 1 ∷ 0 ∷ 0 ∷ 0 ∷ 0 ∷ 0 ∷ 1 ∷ []) ≡ 72057594037928194
a_large_size = refl

-- each unit has sequences of its own
timed_of_two : List ℕ
timed_of_two = 14 ∷ 0 ∷ 1 ∷ 2 ∷ 1 ∷ 0 ∷ 0 ∷ 0 ∷ clock

units_are_logged_apart : input_fault (input 28 (timed 1 ++ timed_of_two) []) ≡ None
unfolding timed_of_two input_fault fault_in_log blocks_of blocks_by rest_of rest_by judge messages_end raws_of
units_are_logged_apart = refl

its_messages : messages_in (input 14 (timed 1) (codes "x")) 1 ≡ clock ∷ []
unfolding blocks_of blocks_by judge messages_end raws_of
its_messages = refl

its_report : lines_of (report_in (input 14 (timed 1) (codes "a\n\nb"))) ≡ codes "a" ∷ [] ∷ codes "b" ∷ []
unfolding lines_of
its_report = refl

cut_size : input_fault (7 ∷ 0 ∷ 0 ∷ 0 ∷ 0 ∷ 0 ∷ 0 ∷ []) ≡ Some (NoSize 7)
unfolding input_fault
cut_size = refl

-- a log that is cut is judged before its blocks
cut_log : input_fault (input 15 (timed 2) []) ≡ Some (CutLog 14 15)
unfolding input_fault
cut_log = refl

cut_block : input_fault (input 13 (timed 1) []) ≡ Some (Faulty (record { place = 8; error = Truncated 13 14 }))
unfolding input_fault fault_in_log blocks_of blocks_by rest_of rest_by judge messages_end raws_of
cut_block = refl

gap : input_fault (input 14 (timed 2) []) ≡ Some (gap_at 8 2 1)
unfolding input_fault fault_in_log blocks_of blocks_by rest_of rest_by judge messages_end raws_of
gap = refl

-- ---- Their words
size_text : audit_fault_text (NoSize 7) ≡ codes "byte 0: truncated, has 7 of 8"
unfolding digits
size_text = refl

log_text : audit_fault_text (CutLog 14 15) ≡ codes "byte 8: truncated, has 14 of 15"
unfolding digits
log_text = refl

gap_words : audit_fault_text (gap_at 8 2 1) ≡ codes "byte 8: sequence 2 where 1 is next"
unfolding digits
gap_words = refl

yes_line : verdict_line (Yes 1) ≡ codes "audit yes books 1\n"
unfolding digits
yes_line = refl

no_line : verdict_line (No 2) ≡ codes "audit no line 2\n"
unfolding digits
no_line = refl

-- ---- Reports where unit 1 has the time as its only message
abbrev timed_once : ℕ → List Raw
timed_once unit = if 1 == unit then clock ∷ [] else []

few : AreFew timed_once
few unit = by (1 == unit)
  where
    by : (b : Bool) → length (if b then clock ∷ [] else []) < 2 ^ 32
    by true = lit< tt
    by false = lit< tt

abbrev true_line : List ℕ
true_line = codes "book unit 1 at 1 second 34200 orders 0"

text_at_one : book_text 1 1 (book_after (clock ∷ [])) ≡ true_line ++ 10 ∷ []
unfolding after book_text book_orders reads digits
text_at_one =
    ap (λ (count : ℕ). (book_head 1 1 (Some 34200) count ++ flat_map (λ (e : ℕ × Order). order_line e.0 e.1) (map.entries no_orders)) ++ state_lines (statuses_of (book_after (clock ∷ [])))) (map.len-empty nat_cmp Order)
    ∙ ap (λ (es : List (ℕ × Order)). (book_head 1 1 (Some 34200) 0 ++ flat_map (λ (e : ℕ × Order). order_line e.0 e.1) es) ++ state_lines (statuses_of (book_after (clock ∷ [])))) (no_entries no_orders (map.len-empty nat_cmp Order))
    ∙ ap (λ (es : List (List ℕ × (ℕ × ℕ))). (book_head 1 1 (Some 34200) 0 ++ flat_map (λ (e : ℕ × Order). order_line e.0 e.1) []) ++ state_lines (mapped symbol_state es)) no_statuses

book_at_one : book_lines timed_once 1 1 ≡ true_line ∷ []
unfolding lines_of
book_at_one = ap lines_of text_at_one

a_true_book : Agrees timed_once (true_line ∷ []) 1
a_true_book = record { parts = Printed 1 1 ∷ []; are = ((lit< tt, lit≤ tt), tt); made = sym (ap (λ (ls : List (List ℕ)). ls ++ []) book_at_one); count = refl }

a_report_without_books : Agrees timed_once [] 0
a_report_without_books = no_part timed_once

-- what the line of that book names
names_one : (line rest : List ℕ) → line ≡ book_front 1 1 ++ rest → Names timed_once line (true_line ∷ [])
names_one line rest is = record {
  unit = 1;
  n = 1;
  part = (lit< tt, lit≤ tt);
  lines_are = sym book_at_one;
  only = λ other m more part e.
      let le = part.1 in
      let small = few other in
      let same = front_names other m 1 1 more rest (omega (arith, part.0)) (omega (arith, le, small)) (lit< tt) (lit< tt) (sym e ∙ is) in
      same;
}

-- another number of orders is wrong, at the line of the book
abbrev one_order_more : List ℕ
one_order_more = codes "book unit 1 at 1 second 34200 orders 1"

wrong_count : IsFirstWrong timed_once (one_order_more ∷ []) 1
unfolding digits
wrong_count =
    wrong_within timed_once few (one_order_more ∷ []) (one_order_more ∷ []) [] (true_line ∷ []) one_order_more 0 1 0 (reads_none timed_once (one_order_more ∷ [])) refl refl
    (names_one one_order_more (codes "34200 orders 1") refl)
    (record { line = true_line; rest = []; left = one_order_more ∷ []; passes = record { same = []; count_is = refl; wanted_is = refl; lines_are = refl }; differs = λ more e. absurd (false≢true (ap (λ (l : List ℕ). bytes_eq l true_line) (first_is one_order_more true_line [] more e))) })

-- so is a number past the log
abbrev past_the_log : List ℕ
past_the_log = codes "book unit 1 at 2 second 34200 orders 0"

wrong_number : IsFirstWrong timed_once (past_the_log ∷ []) 1
unfolding digits
wrong_number =
    wrong_first timed_once few (past_the_log ∷ []) (past_the_log ∷ []) [] past_the_log 0 1 (reads_none timed_once (past_the_log ∷ [])) refl refl (λ unit n more part e. none unit n more part e)
  where
    none : (unit n : ℕ) (more : List ℕ) → IsPart timed_once (Printed unit n) → past_the_log ≡ book_front unit n ++ more → ⊥
    none unit n more part e =
        let le = part.1 in
        let small = few unit in
        let same = front_names unit n 1 2 more (codes "34200 orders 0") (omega (arith, part.0)) (omega (arith, le, small)) (lit< tt) (lit< tt) (sym e) in
        let has = ap (λ (u : ℕ). length (timed_once u)) same.0 in
        let two = same.1 in
        omega (arith, le, has, two)

-- and the line of an order behind the book, which is its own
abbrev an_order : List ℕ
an_order = codes "order 5 B 100 IBM 10.0000"

wrong_order : IsFirstWrong timed_once (true_line ∷ an_order ∷ []) 2
unfolding digits
wrong_order =
    wrong_first timed_once few (true_line ∷ an_order ∷ []) (an_order ∷ []) [] an_order 1 2
    (reads_book timed_once (true_line ∷ an_order ∷ []) (true_line ∷ an_order ∷ []) 0 1 1 (reads_none timed_once (true_line ∷ an_order ∷ []))
    (record { unit = 1; n = 1; part = (lit< tt, lit≤ tt); left = an_order ∷ []; lines_are = sym (ap (λ (ls : List (List ℕ)). ls ++ an_order ∷ []) book_at_one); count_is = sym (ap length book_at_one) }))
    refl refl (λ unit n more part e. no_front an_order true refl refl unit n more e)
