-- How many orders and trading statuses a book has after messages.
use Rattle.std.proofs.Common.{◌≡◌, ℕ, ◌+◌, ◌≤◌, List, [], ◌∷◌, length, refl, ap, arith}
use Rattle.std.specs.FinMap.{len, len-insert, len-empty, contains_key}
use Rattle.std.specs.List.{fold}
use Rattle.std.specs.Ordering.{nat_cmp}
use Rattle.std.proofs.lemmas.Bool.{cond_both}
use Rattle.std.proofs.lemmas.Cmp.{nat_list_cmp_total}
use Rattle.pitch_messages.specs.declared.order.Order.{Order}
use Rattle.pitch_model.specs.Book.{Book, symbol_cmp, empty_book, at_second, cleared, without_order, with_status, added, changed, changed_by, Effect, ShowsSecond, ClearsOrders, AddsOrder, ChangesOrder, RemovesOrder, GivesStatus, DoesNothing, after_effect, after}
use Rattle.pitch_model.proofs.Books.{added_else, changed_else, effect_len, after_raw}
use Rattle.order_book.specs.Standing.{Standing}
use Rattle.client_core.specs.Applying.{Applies}
use Rattle.client_core.specs.Keeping.{book_size}

-- with the statuses as they were, and one order more at most
same_statuses : (book book' : Book) → book'.statuses ≡ book.statuses → len book'.orders ≤ len book.orders + 1 → book_size book' ≤ book_size book + 1
same_statuses book book' same le = let e = ap (λ s. len s) same in omega arith

status_size : (book : Book) (symbol : List ℕ) (status : ℕ × ℕ) → book_size (with_status book symbol status) ≤ book_size book + 1
status_size book symbol status =
    let l = len-insert nat_list_cmp_total book.statuses symbol status in
    let c = cond_both (contains_key book.statuses symbol) (len book.statuses) (len book.statuses + 1) (λ n. n ≤ len book.statuses + 1) (λ t. omega arith) (λ f. omega arith) in
    omega arith

-- an effect adds at most one order or trading status
effect_size : (book : Book) (effect : Effect) → book_size (after_effect book effect) ≤ book_size book + 1
effect_size book effect = by effect (effect_len book effect)
  where
    by : (effect : Effect) → len (after_effect book effect).orders ≤ len book.orders + 1 → book_size (after_effect book effect) ≤ book_size book + 1
    by (ShowsSecond second) le = same_statuses book (at_second book second) refl le
    by ClearsOrders le = same_statuses book (cleared book) refl le
    by (AddsOrder order) le = same_statuses book (added book order) (added_else book order).statuses le
    by (ChangesOrder id change) le = same_statuses book (changed book id (changed_by change)) (changed_else book id (changed_by change)).statuses le
    by (RemovesOrder id) le = same_statuses book (without_order book id) refl le
    by (GivesStatus symbol status) le = status_size book symbol status
    by DoesNothing le = same_statuses book book refl le

-- and so does a message
pub size_most : (book : Book) (raw : List ℕ) → book_size (after book raw) ≤ book_size book + 1
size_most book raw = after_raw (λ (b : Book). book_size b ≤ book_size book + 1) book raw (effect_size book)

-- messages add at most as many as they are
folded_size : (raws : List (List ℕ)) (book : Book) → book_size (fold after book raws) ≤ book_size book + length raws
folded_size [] book = omega arith
folded_size (raw ∷ raws) book = let f = folded_size raws (after book raw) in let a = size_most book raw in omega arith

-- nothing is in a book before any message
pub nothing_in : book_size empty_book ≡ 0
nothing_in = let o = len-empty nat_cmp Order in let s = len-empty symbol_cmp (ℕ × ℕ) in omega arith

-- what was applied added at most as many as the reach rose by
pub applied_size : (n n' : ℕ) (book book' : Standing) (raws : List (List ℕ)) → Applies n n' book book' raws → book_size book'.book + n ≤ book_size book.book + n'
applied_size n n' book book' raws A =
    let f = folded_size raws book.book in
    let e = ap book_size A.book_is in
    let r = A.reach_is in
    omega arith
