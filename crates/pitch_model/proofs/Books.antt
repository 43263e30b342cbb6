-- Every book has orders with shares, each under its id, and no more of them than there were
-- messages.
use Rattle.std.proofs.Common.{◌≡◌, ℕ, ◌+◌, ◌-◌, ◌≤◌, ◌<◌, Bool, true, false, cond, List, [], ◌∷◌, length, fold, refl, sym, ap, ◌∙◌, subst, arith, Option, Some, None, Result, Ok, Err, ◌==◌}
use Rattle.std.proofs.lemmas.Option.{none-some, same_Some}
use Rattle.std.specs.Option.{option_map, is_some}
use Rattle.std.specs.Ordering.{nat_cmp, eq_by_cmp}
use Rattle.std.specs.FinMap as map
use Rattle.std.proofs.lemmas.Cmp.{nat_cmp_total}
use Rattle.std.proofs.lemmas.Bool.{cond_both, eqb-true, cond-true}
use Rattle.std.proofs.lemmas.Bool.Decides.{nat_tests}
use Rattle.pitch_fields.proofs.Keys.{same_test}
use Rattle.pitch_messages.specs.declared.order.Order.{Order}
use Rattle.pitch_messages.specs.declared.message.Message.{Message}
use Rattle.pitch_messages.specs.declared.message.ReadError.{ReadError}
use Rattle.pitch_messages.specs.Reading.{reads}
use Rattle.pitch_model.specs.History.{Raw}
use Rattle.pitch_model.specs.declared.order_change.OrderChange.{OrderChange}
use Rattle.pitch_model.specs.declared.order_change.OrderChange.TheVariants.{Reduced, Left, Modified}
use Rattle.pitch_model.specs.Book.{Book, IsBook, empty_book, at_second, cleared, without_order, with_order, added, reformed, changed, changed_by, Effect, ShowsSecond, ClearsOrders, AddsOrder, ChangesOrder, RemovesOrder, GivesStatus, DoesNothing, after_effect, effect_of, after_read, after, book_after}

-- what a quantity of 0 does not lead to
open_from_test : (n : ℕ) → (n == 0) ≡ false → 0 < n
open_from_test n f = grind (arith, nat_tests, f)

-- ---- What holds of each open order, through each effect
abbrev pub AllOrders : (ℕ → Order → Type 0) → Book → Type 0
AllOrders C book = (id : ℕ) (order : Order) → map.get book.orders id ≡ Some order → C id order

module _ (C : ℕ → Order → Type 0) where
  pub with_order_all : (book : Book) (id : ℕ) (order : Order) → AllOrders C book → C id order → AllOrders C (with_order book id order)
  with_order_all book id order all here q other g = by (eq_by_cmp nat_cmp q id) refl (sym (map.get-insert nat_cmp_total book.orders id order q) ∙ g)
    where
      by : (b : Bool) → eq_by_cmp nat_cmp q id ≡ b → cond b (Some order) (map.get book.orders q) ≡ Some other → C q other
      by true t e =
          let same : id ≡ q = sym (eqb-true q id (sym (same_test q id) ∙ t)) in
          subst (λ (j : ℕ). C j other) same (subst (C id) (same_Some order other e) here)
      by false t e = all q other e

  pub without_order_all : (book : Book) (id : ℕ) → AllOrders C book → AllOrders C (without_order book id)
  without_order_all book id all q other g = by (eq_by_cmp nat_cmp q id) (sym (map.get-remove nat_cmp_total book.orders id q) ∙ g)
    where
      by : (b : Bool) → cond b None (map.get book.orders q) ≡ Some other → C q other
      by true e = absurd (none-some other e)
      by false e = all q other e

  pub none_all : (book : Book) → AllOrders C (cleared book)
  none_all book q other g = absurd (none-some other (sym (map.get-empty nat_cmp q) ∙ g))

  pub added_all : (book : Book) (order : Order) → AllOrders C book → (0 < order.quantity → C order.id order) → AllOrders C (added book order)
  added_all book order all here =
      cond_both (order.quantity == 0) book (with_order book order.id order) (AllOrders C) (λ t. all) (λ f. with_order_all book order.id order all (here (open_from_test order.quantity f)))

  pub changed_all : (book : Book) (id : ℕ) (change : Order → Order) → AllOrders C book → ((order : Order) → C id order → 0 < (change order).quantity → C id (change order)) → AllOrders C (changed book id change)
  changed_all book id change all keeps = by (map.get book.orders id) refl
    where
      by : (o : Option Order) → map.get book.orders id ≡ o → AllOrders C (reformed book id (option_map change o))
      by None e = all
      by (Some order) e =
          cond_both ((change order).quantity == 0) (without_order book id) (with_order book id (change order)) (AllOrders C)
          (λ t. without_order_all book id all)
          (λ f. with_order_all book id (change order) all (keeps order (all id order e) (open_from_test (change order).quantity f)))

-- ---- What leaves the clock and the statuses as they are
pub record SameElse (old new : Book) : Type 0 where
  pub second : new.second ≡ old.second
  pub statuses : new.statuses ≡ old.statuses

pub added_else : (book : Book) (order : Order) → SameElse book (added book order)
added_else book order = cond_both (order.quantity == 0) book (with_order book order.id order) (SameElse book) (λ t. record { second = refl; statuses = refl }) (λ f. record { second = refl; statuses = refl })

pub changed_else : (book : Book) (id : ℕ) (change : Order → Order) → SameElse book (changed book id change)
changed_else book id change = by (option_map change (map.get book.orders id))
  where
    by : (o : Option Order) → SameElse book (reformed book id o)
    by None = record { second = refl; statuses = refl }
    by (Some order) = cond_both (order.quantity == 0) (without_order book id) (with_order book id order) (SameElse book) (λ t. record { second = refl; statuses = refl }) (λ f. record { second = refl; statuses = refl })

-- ---- Orders that stand
-- an order stands under its id, and has shares
abbrev Stands : ℕ → Order → Type 0
Stands id order = (order.id ≡ id) × (0 < order.quantity)

book_from : (book : Book) → AllOrders Stands book → IsBook book
book_from book all = record { ids = λ id order g. (all id order g).0; filled = λ id order g. (all id order g).1 }

all_from : (book : Book) → IsBook book → AllOrders Stands book
all_from book is id order g = (is.ids id order g, is.filled id order g)

added_stands : (book : Book) (order : Order) → AllOrders Stands book → AllOrders Stands (added book order)
added_stands book order all = added_all Stands book order all (λ some. (refl, some))

changed_stands : (book : Book) (id : ℕ) (change : Order → Order) → ((order : Order) → (change order).id ≡ order.id) → AllOrders Stands book → AllOrders Stands (changed book id change)
changed_stands book id change keeps all = changed_all Stands book id change all (λ order here some. (keeps order ∙ here.0, some))

-- ---- Each effect leaves a book
pub empty_book_book : IsBook empty_book
empty_book_book = book_from empty_book (none_all Stands empty_book)

pub cleared_book : (book : Book) → IsBook (cleared book)
cleared_book book = book_from (cleared book) (none_all Stands book)

pub at_second_book : (book : Book) (second : ℕ) → IsBook book → IsBook (at_second book second)
at_second_book book second is = record { ids = is.ids; filled = is.filled }

pub with_order_book : (book : Book) (id : ℕ) (order : Order) → IsBook book → order.id ≡ id → 0 < order.quantity → IsBook (with_order book id order)
with_order_book book id order is named some = book_from (with_order book id order) (with_order_all Stands book id order (all_from book is) (named, some))

pub without_order_book : (book : Book) (id : ℕ) → IsBook book → IsBook (without_order book id)
without_order_book book id is = book_from (without_order book id) (without_order_all Stands book id (all_from book is))

-- a change that keeps the id
pub changed_book : (book : Book) (id : ℕ) (change : Order → Order) → ((order : Order) → (change order).id ≡ order.id) → IsBook book → IsBook (changed book id change)
changed_book book id change keeps is = book_from (changed book id change) (changed_stands book id change keeps (all_from book is))

-- no change touches the id
pub keeps_id : (change : OrderChange) (order : Order) → (changed_by change order).id ≡ order.id
keeps_id (Reduced quantity) order = refl
keeps_id (Left quantity) order = refl
keeps_id (Modified quantity price display) order = refl

effect_stands : (book : Book) (effect : Effect) → AllOrders Stands book → AllOrders Stands (after_effect book effect)
effect_stands book (ShowsSecond second) B = B
effect_stands book ClearsOrders B = none_all Stands book
effect_stands book (AddsOrder order) B = added_stands book order B
effect_stands book (ChangesOrder id change) B = changed_stands book id (changed_by change) (keeps_id change) B
effect_stands book (RemovesOrder id) B = without_order_all Stands book id B
effect_stands book (GivesStatus symbol status) B = B
effect_stands book DoesNothing B = B

-- ---- Each raw message leaves a book
-- what holds of a book after each effect holds of it after each raw message
pub after_raw : (P : Book → Type 0) (book : Book) (raw : Raw) → ((effect : Effect) → P (after_effect book effect)) → P (after book raw)
unfolding after
after_raw P book raw each = by (reads raw)
  where
    by : (read : Result Message ReadError) → P (after_read book read)
    by (Err error) = each DoesNothing
    by (Ok message) = each (effect_of message)

pub after_book : (book : Book) (raw : Raw) → IsBook book → IsBook (after book raw)
after_book book raw is = after_raw IsBook book raw (λ effect. book_from (after_effect book effect) (effect_stands book effect (all_from book is)))

folded_book : (raws : List Raw) (book : Book) → IsBook book → IsBook (fold after book raws)
folded_book [] book B = B
folded_book (raw ∷ raws) book B = folded_book raws (after book raw) (after_book book raw B)

pub book_after_book : (raws : List Raw) → IsBook (book_after raws)
book_after_book raws = folded_book raws empty_book (book_from empty_book (none_all Stands empty_book))

-- ---- How many orders there are
pub with_order_len : (book : Book) (id : ℕ) (order : Order) → map.len (with_order book id order).orders ≤ map.len book.orders + 1
with_order_len book id order =
    let l = map.len-insert nat_cmp_total book.orders id order in
    let c = cond_both (map.contains_key book.orders id) (map.len book.orders) (map.len book.orders + 1) (λ n. n ≤ map.len book.orders + 1) (λ t. omega arith) (λ f. omega arith) in
    omega arith

replaced_len : (book : Book) (id : ℕ) (order : Order) → map.contains_key book.orders id ≡ true → map.len (with_order book id order).orders ≡ map.len book.orders
replaced_len book id order there = map.len-insert nat_cmp_total book.orders id order ∙ cond-true (map.contains_key book.orders id) (map.len book.orders) (map.len book.orders + 1) there

without_order_len : (book : Book) (id : ℕ) → map.len (without_order book id).orders ≤ map.len book.orders
without_order_len book id =
    let l = map.len-remove nat_cmp_total book.orders id in
    let c = cond_both (map.contains_key book.orders id) (map.len book.orders - 1) (map.len book.orders) (λ n. n ≤ map.len book.orders) (λ t. omega arith) (λ f. omega arith) in
    omega arith

cleared_len : (book : Book) → map.len (cleared book).orders ≡ 0
cleared_len book = map.len-empty nat_cmp Order

added_len : (book : Book) (order : Order) → map.len (added book order).orders ≤ map.len book.orders + 1
added_len book order = cond_both (order.quantity == 0) book (with_order book order.id order) (λ (b : Book). map.len b.orders ≤ map.len book.orders + 1) (λ t. omega arith) (λ f. with_order_len book order.id order)

pub changed_len : (book : Book) (id : ℕ) (change : Order → Order) → map.len (changed book id change).orders ≤ map.len book.orders
changed_len book id change = by (map.get book.orders id) refl
  where
    by : (o : Option Order) → map.get book.orders id ≡ o → map.len (reformed book id (option_map change o)).orders ≤ map.len book.orders
    by None e = omega arith
    by (Some order) e =
        cond_both ((change order).quantity == 0) (without_order book id) (with_order book id (change order)) (λ (b : Book). map.len b.orders ≤ map.len book.orders)
        (λ t. without_order_len book id)
        (λ f. let same = replaced_len book id (change order) (ap is_some e) in omega arith)

-- an effect adds at most one order
pub effect_len : (book : Book) (effect : Effect) → map.len (after_effect book effect).orders ≤ map.len book.orders + 1
effect_len book (ShowsSecond second) = omega arith
effect_len book ClearsOrders = let l = cleared_len book in omega arith
effect_len book (AddsOrder order) = added_len book order
effect_len book (ChangesOrder id change) = let l = changed_len book id (changed_by change) in omega arith
effect_len book (RemovesOrder id) = let l = without_order_len book id in omega arith
effect_len book (GivesStatus symbol status) = omega arith
effect_len book DoesNothing = omega arith

-- a message adds at most one order
pub after_len : (book : Book) (raw : Raw) → map.len (after book raw).orders ≤ map.len book.orders + 1
after_len book raw = after_raw (λ (b : Book). map.len b.orders ≤ map.len book.orders + 1) book raw (effect_len book)

folded_len : (raws : List Raw) (book : Book) → map.len (fold after book raws).orders ≤ map.len book.orders + length raws
folded_len [] book = omega arith
folded_len (raw ∷ raws) book = let f = folded_len raws (after book raw) in let a = after_len book raw in omega arith

pub book_after_len : (raws : List Raw) → map.len (book_after raws).orders ≤ length raws
book_after_len raws = let f = folded_len raws empty_book in let e = map.len-empty nat_cmp Order in omega arith
