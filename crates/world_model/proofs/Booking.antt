-- The text of a world that is shown.
use Rattle.std.proofs.Common.{◌≡◌, ℕ, List, ◌++◌, sym, ap, ◌∙◌, Option, take, length, length-take, ◌≤◌, arith, Result, Ok, Err, OnOk, OnErr}
use Rattle.std.proofs.lemmas.List.{take-append-le, take-take}
use Rattle.std.specs.FinMap as fin
use Rattle.pitch_io.specs.declared.line.Line.TheVariants.{A, B, Gap}
use Rattle.pitch_messages.specs.declared.order.Order.{Order}
use Rattle.pitch_model.specs.Book.{Book, IsBook}
use Rattle.pitch_model.specs.Levels.{orders_of}
use Rattle.pitch_model.specs.Reach.{reach}
use Rattle.feed_lines.specs.BookText.{book_head, book_orders, book_text}
use Rattle.feed_lines.proofs.Booking.{lines_of, book_orders_is}
use Rattle.line_arbiter.specs.Noted.{line_count}
use Rattle.line_arbiter.specs.declared.count.LineCount.{LineCount}
use Rattle.world_model.specs.Printed.{counts_text, shown_state}
use Rattle.world_model.specs.State.{State}
use Rattle.world_model.specs.Verbs.{client_book}
use Rattle.world_model.specs.declared.limits.Limits.{Limits}

-- ---- What `show` prints
-- the first line of the book and the lines of its orders
pub whole : (unit n count : ℕ) (second : Option ℕ) (orders : List Order) (book : Book) → IsBook book → second ≡ book.second → count ≡ fin.len book.orders → orders ≡ orders_of book
    → book_head unit n second count ++ lines_of orders ≡ book_orders unit n book
whole unit n count second orders book is s k os =
    ap (λ (o : Option ℕ). book_head unit n o count ++ lines_of orders) s
    ∙ ap (λ (m : ℕ). book_head unit n book.second m ++ lines_of orders) k
    ∙ ap (λ (l : List Order). book_head unit n book.second (fin.len book.orders) ++ lines_of l) os
    ∙ sym (book_orders_is unit n book is)

pub shown_is : (unit : ℕ) (limits : Limits) (s : State) (n : ℕ) (book : Book) (a b gap : LineCount) → n ≡ reach limits.hold s.client.heard → book ≡ client_book limits s → a ≡ line_count A unit s.notes → b ≡ line_count B unit s.notes → gap ≡ line_count Gap unit s.notes
    → book_text unit n book ++ counts_text a b gap ≡ shown_state unit limits s
unfolding shown_state
shown_is unit limits s n book a b gap n_is book_is a_is b_is gap_is =
    ap (λ (m : ℕ). book_text unit m book ++ counts_text a b gap) n_is
    ∙ ap (λ (x : Book). book_text unit (reach limits.hold s.client.heard) x ++ counts_text a b gap) book_is
    ∙ ap (λ (x : LineCount). book_text unit (reach limits.hold s.client.heard) (client_book limits s) ++ counts_text x b gap) a_is
    ∙ ap (λ (x : LineCount). book_text unit (reach limits.hold s.client.heard) (client_book limits s) ++ counts_text (line_count A unit s.notes) x gap) b_is
    ∙ ap (λ (x : LineCount). book_text unit (reach limits.hold s.client.heard) (client_book limits s) ++ counts_text (line_count A unit s.notes) (line_count B unit s.notes) x) gap_is

-- ---- Text that was appended
-- the text begins as it did
pub prefix_stays : {X E : Type 0} (r : Result X E) (old mid new text : List ℕ) → OnOk r (new ≡ mid ++ text) → OnErr r (new ≡ mid) → take (length old) mid ≡ old → take (length old) new ≡ old
prefix_stays (Ok x) old mid new text ok err prefix =
    let shown = ap (λ (l : List ℕ). length l) prefix in
    let le : length old ≤ length mid = omega (arith, shown, length-take (length old) mid) in
    ap (take (length old)) ok ∙ take-append-le (length old) mid text le ∙ prefix
prefix_stays (Err e) old mid new text ok err prefix = ap (take (length old)) err ∙ prefix

-- it begins as it did, through one more change
pub begins_still : (old mid new : List ℕ) → take (length old) mid ≡ old → take (length mid) new ≡ mid → take (length old) new ≡ old
begins_still old mid new prefix longer =
    let shown = ap (λ (l : List ℕ). length l) prefix in
    let le : length old ≤ length mid = omega (arith, shown, length-take (length old) mid) in
    sym (take-take (length old) (length mid) new le) ∙ ap (take (length old)) longer ∙ prefix
