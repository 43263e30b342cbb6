-- Each effect on the entries leaves what holds of every book that is kept.
use Rattle.std.proofs.Common.{◌≡◌, ℕ, ◌≤◌, ◌<◌, List, [], length, Option, Some, None, nat_eq, refl, sym, ap, subst, arith, cond}
use Rattle.std.specs.List.{IsDistinct}
use Rattle.std.specs.Map.{keys_of, lookup}
use Rattle.std.specs.FinMap as map
use Rattle.std.specs.Ordering.{nat_cmp}
use Rattle.pitch_messages.specs.declared.order.Order.{Order}
use Rattle.pitch_model.specs.declared.order_change.OrderChange.{OrderChange}
use Rattle.pitch_model.specs.Book.{IsBook, changed, changed_by}
use Rattle.pitch_model.proofs.Books.{keeps_id, at_second_book, cleared_book, with_order_book, without_order_book, changed_book, with_order_len}
use Rattle.order_book.specs.Symbols.{StatusMap}
use Rattle.order_book.specs.Standing.{IsKept, book_of, most_orders}
use Rattle.order_book.proofs.Maps.{id_keys, inserts, removes, lens}

module _ (second : Option ℕ) (es : List (ℕ × Order)) (statuses : StatusMap) (kept : IsKept second es statuses) where
  pub kept_second : (value : ℕ) → IsKept (Some value) es statuses
  kept_second value = record { book = at_second_book (book_of second es statuses) value kept.book; unique = kept.unique; few = kept.few }

  -- no statuses matter
  pub kept_statuses : (others : StatusMap) → IsKept second es others
  kept_statuses others = record { book = record { ids = kept.book.ids; filled = kept.book.filled }; unique = kept.unique; few = kept.few }

  pub kept_clear : IsDistinct nat_eq (keys_of {X = Order} []) → IsKept second [] statuses
  kept_clear unique = record { book = cleared_book (book_of second es statuses); unique = unique; few = omega arith }

  module _ (fs : List (ℕ × Order)) where
    pub kept_same : fs ≡ es → IsKept second fs statuses
    kept_same same = subst (λ (xs : List (ℕ × Order)). IsKept second xs statuses) (sym same) kept

    pub kept_insert : (order : Order) → 0 < order.quantity → map.len (map.from_entries {R = nat_cmp} es) < most_orders → IsDistinct nat_eq (keys_of fs)
        → ((q : ℕ) → lookup (nat_eq q) fs ≡ cond (nat_eq order.id q) (Some order) (lookup (nat_eq q) es)) → IsKept second fs statuses
    kept_insert order filled few unique h =
        let same = inserts id_keys es fs order.id order h in
        let book : IsBook (book_of second fs statuses) = subst (λ orders. IsBook (record { second = second; orders = orders; statuses = statuses })) (sym same) (with_order_book (book_of second es statuses) order.id order kept.book refl filled) in
        let count = lens id_keys fs unique in
        let more = with_order_len (book_of second es statuses) order.id order in
        let equal = ap (map.len {R = nat_cmp}) same in
        record { book = book; unique = unique; few = omega arith }

    pub kept_remove : (id : ℕ) → IsDistinct nat_eq (keys_of fs) → length fs ≤ length es → ((q : ℕ) → lookup (nat_eq q) fs ≡ cond (nat_eq id q) None (lookup (nat_eq q) es)) → IsKept second fs statuses
    kept_remove id unique fewer h =
        let few = kept.few in
        record {
          book = subst (λ orders. IsBook (record { second = second; orders = orders; statuses = statuses })) (sym (removes id_keys es fs id h)) (without_order_book (book_of second es statuses) id kept.book);
          unique = unique;
          few = omega arith;
        }

    pub kept_change : (id : ℕ) (change : OrderChange) → IsDistinct nat_eq (keys_of fs) → length fs ≤ length es → book_of second fs statuses ≡ changed (book_of second es statuses) id (changed_by change) → IsKept second fs statuses
    kept_change id change unique fewer same =
        let few = kept.few in
        record {
          book = subst IsBook (sym same) (changed_book (book_of second es statuses) id (changed_by change) (keeps_id change) kept.book);
          unique = unique;
          few = omega arith;
        }
