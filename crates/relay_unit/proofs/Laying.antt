-- What messages do to the orders of a book does not rest on its clock and its statuses; and a clock
-- or a status, once known, stays known.
use Rattle.std.proofs.Common.{◌≡◌, ℕ, Bool, true, false, cond, List, [], ◌∷◌, Option, Some, None, Result, Ok, Err, fold, refl, ap, ◌∙◌, sym, subst, ◌==◌}
use Rattle.std.specs.Option.{option_map, option_or}
use Rattle.std.specs.Ordering.{eq_by_cmp, nat_cmp}
use Rattle.std.specs.FinMap as map
use Rattle.std.proofs.lemmas.Cmp.{nat_list_cmp_total}
use Rattle.std.proofs.lemmas.Option.{none-some}
use Rattle.pitch_messages.specs.declared.order.Order.{Order}
use Rattle.pitch_messages.specs.declared.message.Message.{Message}
use Rattle.pitch_messages.specs.declared.message.ReadError.{ReadError}
use Rattle.pitch_messages.specs.Reading.{reads}
use Rattle.pitch_model.specs.History.{Raw}
use Rattle.pitch_model.specs.Book.{Book, symbol_cmp, empty_book, cleared, without_order, with_order, with_status, added, reformed, changed, changed_by, Effect, ShowsSecond, ClearsOrders, AddsOrder, ChangesOrder, RemovesOrder, GivesStatus, DoesNothing, after_effect, effect_of, after_read, after}
use Rattle.relay_unit.specs.Following.{KnowsAllOf}

-- the whole is what is on top, with the clock and the statuses below where the top has none
pub record LaidOver (below top whole : Book) : Type 0 where
  pub orders_are : whole.orders ≡ top.orders
  pub second_is : whole.second ≡ option_or top.second below.second
  pub statuses_are : (symbol : List ℕ) → map.get whole.statuses symbol ≡ option_or (map.get top.statuses symbol) (map.get below.statuses symbol)

-- ---- An effect does the same to the top and to the whole
module _ (below top whole : Book) (L : LaidOver below top whole) where
  with_laid : (id : ℕ) (order : Order) → LaidOver below (with_order top id order) (with_order whole id order)
  with_laid id order = record {
    orders_are = ap (λ (m : map.FinMap nat_cmp Order). map.insert m id order) L.orders_are;
    second_is = L.second_is;
    statuses_are = L.statuses_are;
  }

  without_laid : (id : ℕ) → LaidOver below (without_order top id) (without_order whole id)
  without_laid id = record {
    orders_are = ap (λ (m : map.FinMap nat_cmp Order). map.remove m id) L.orders_are;
    second_is = L.second_is;
    statuses_are = L.statuses_are;
  }

  added_laid : (order : Order) → LaidOver below (added top order) (added whole order)
  added_laid order = by (order.quantity == 0)
    where
      by : (b : Bool) → LaidOver below (cond b top (with_order top order.id order)) (cond b whole (with_order whole order.id order))
      by true = L
      by false = with_laid order.id order

  reformed_laid : (id : ℕ) (order : Option Order) → LaidOver below (reformed top id order) (reformed whole id order)
  reformed_laid id None = L
  reformed_laid id (Some order) = by (order.quantity == 0)
    where
      by : (b : Bool) → LaidOver below (cond b (without_order top id) (with_order top id order)) (cond b (without_order whole id) (with_order whole id order))
      by true = without_laid id
      by false = with_laid id order

  changed_laid : (id : ℕ) (change : Order → Order) → LaidOver below (changed top id change) (changed whole id change)
  changed_laid id change =
      subst (λ (order : Option Order). LaidOver below (changed top id change) (reformed whole id order))
      (ap (λ (m : map.FinMap nat_cmp Order). option_map change (map.get m id)) (sym L.orders_are)) (reformed_laid id (option_map change (map.get top.orders id)))

  status_laid : (symbol : List ℕ) (status : ℕ × ℕ) → LaidOver below (with_status top symbol status) (with_status whole symbol status)
  status_laid symbol status = record {
    orders_are = L.orders_are;
    second_is = L.second_is;
    statuses_are = λ q.
        map.get-insert nat_list_cmp_total whole.statuses symbol status q
        ∙ by q (eq_by_cmp symbol_cmp q symbol)
        ∙ ap (λ (o : Option (ℕ × ℕ)). option_or o (map.get below.statuses q)) (sym (map.get-insert nat_list_cmp_total top.statuses symbol status q));
  }
    where
      by : (q : List ℕ) (b : Bool) → cond b (Some status) (map.get whole.statuses q) ≡ option_or (cond b (Some status) (map.get top.statuses q)) (map.get below.statuses q)
      by q true = refl
      by q false = L.statuses_are q

  effect_laid : (effect : Effect) → LaidOver below (after_effect top effect) (after_effect whole effect)
  effect_laid (ShowsSecond second) = record { orders_are = L.orders_are; second_is = refl; statuses_are = L.statuses_are }
  effect_laid ClearsOrders = record { orders_are = refl; second_is = L.second_is; statuses_are = L.statuses_are }
  effect_laid (AddsOrder order) = added_laid order
  effect_laid (ChangesOrder id change) = changed_laid id (changed_by change)
  effect_laid (RemovesOrder id) = without_laid id
  effect_laid (GivesStatus symbol status) = status_laid symbol status
  effect_laid DoesNothing = L

  after_laid : (raw : Raw) → LaidOver below (after top raw) (after whole raw)
  unfolding after
  after_laid raw = by (reads raw)
    where
      by : (read : Result Message ReadError) → LaidOver below (after_read top read) (after_read whole read)
      by (Ok message) = effect_laid (effect_of message)
      by (Err error) = L

pub fold_laid : (below top whole : Book) (raws : List Raw) → LaidOver below top whole → LaidOver below (fold after top raws) (fold after whole raws)
fold_laid below top whole [] L = L
fold_laid below top whole (raw ∷ raws) L = fold_laid below (after top raw) (after whole raw) raws (after_laid below top whole L raw)

-- ---- A book over its own clock and statuses
-- a book with the orders of another is those alone, over its clock and statuses
pub orders_laid : (book top : Book) → LaidOver book (record empty_book { orders = top.orders }) (record book { orders = top.orders })
orders_laid book top = record {
  orders_are = refl;
  second_is = refl;
  statuses_are = λ q. ap (λ (o : Option (ℕ × ℕ)). option_or o (map.get book.statuses q)) (sym (map.get-empty {X = ℕ × ℕ} symbol_cmp q));
}

or_twice : {A : Type 0} (top below : Option A) → option_or (option_or top below) below ≡ option_or top below
or_twice None None = refl
or_twice None (Some x) = refl
or_twice (Some x) below = refl

-- what is known below and was not taken out on top shows already
laid_twice : (below top whole again : Book) → LaidOver below top whole → LaidOver below whole again → again ≡ whole
laid_twice below top whole again L M = λ i. record {
  second = second i;
  orders = M.orders_are i;
  statuses = statuses i;
}
  where
    second : again.second ≡ whole.second
    second = M.second_is ∙ ap (λ (o : Option ℕ). option_or o below.second) L.second_is ∙ or_twice top.second below.second ∙ sym L.second_is

    shown : (q : List ℕ) → map.get again.statuses q ≡ map.get whole.statuses q
    shown q =
        M.statuses_are q ∙ ap (λ (o : Option (ℕ × ℕ)). option_or o (map.get below.statuses q)) (L.statuses_are q)
        ∙ or_twice (map.get top.statuses q) (map.get below.statuses q) ∙ sym (L.statuses_are q)

    statuses : again.statuses ≡ whole.statuses
    statuses = map.same_map nat_list_cmp_total (map.slice_cmp-IsAntisymmetric map.nat_cmp-IsAntisymmetric) again.statuses whole.statuses shown

-- messages that leave a later book from the empty one leave it too where they come after all orders
-- of an earlier one were taken out
pub anew_after_clear : (book : Book) (raws more : List Raw) → fold after empty_book raws ≡ fold after book more → fold after (cleared book) raws ≡ fold after book more
anew_after_clear book raws more same =
    laid_twice book (fold after (record empty_book { orders = book.orders }) more) (fold after book more) (fold after (cleared book) raws)
    (fold_laid book (record empty_book { orders = book.orders }) book more (orders_laid book book))
    (subst (λ (b : Book). LaidOver book b (fold after (cleared book) raws)) same (fold_laid book empty_book (cleared book) raws (orders_laid book empty_book)))

same_or : {A : Type 0} (top below : Option A) → ((x : A) → below ≡ Some x → (y : A) × (top ≡ Some y)) → option_or top below ≡ top
same_or None None knows = refl
same_or (Some y) below knows = refl
same_or None (Some x) knows = let found = knows x refl in absurd (none-some found.0 found.1)

-- where the top has a clock and each status that is known below, nothing shows from below
pub laid_whole : (below top whole : Book) → LaidOver below top whole → KnowsAllOf top below → whole ≡ top
laid_whole below top whole L knows = λ i. record {
  second = second i;
  orders = L.orders_are i;
  statuses = statuses i;
}
  where
    second : whole.second ≡ top.second
    second = L.second_is ∙ same_or top.second below.second knows.clock

    shown : (q : List ℕ) → map.get whole.statuses q ≡ map.get top.statuses q
    shown q = L.statuses_are q ∙ same_or (map.get top.statuses q) (map.get below.statuses q) (knows.statuses q)

    statuses : whole.statuses ≡ top.statuses
    statuses = map.same_map nat_list_cmp_total (map.slice_cmp-IsAntisymmetric map.nat_cmp-IsAntisymmetric) whole.statuses top.statuses shown
