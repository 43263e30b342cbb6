-- The fields of a book's orders and statuses have the widths of the wire, where those of the lists
-- of them do.
use Rattle.std.proofs.Common.{◌≡◌, ℕ, ◌<◌, ◌^◌, Bool, true, false, cond, List, [], ◌∷◌, ◌++◌, map, Some, sym, ap, ◌∙◌, subst, refl}
use Rattle.std.specs.List.{AllByRecursion}
use Rattle.std.specs.Ordering.{nat_cmp, eq_by_cmp}
use Rattle.std.specs.FinMap as finite
use Rattle.std.specs.FinMap.Entries.{find}
use Rattle.std.proofs.lemmas.Option.{none-some, same_Some}
use Rattle.pitch_messages.specs.declared.order.Order.{Order}
use Rattle.pitch_messages.specs.declared.trading_state.TradingState.{TradingState}
use Rattle.pitch_model.specs.Book.{Book, IsBook, symbol_cmp, book_after}
use Rattle.pitch_model.specs.Image.{image_of}
use Rattle.pitch_model.specs.Levels.{orders_of}
use Rattle.pitch_model.specs.Statuses.{symbol_state, statuses_of}
use Rattle.pitch_model.specs.layers.Widths.{FitsWire, FitsStatus}
use Rattle.pitch_model.proofs.Images.{image_of_leaves}
use Rattle.pitch_model.proofs.Putting.{tied}
use Rattle.order_book.specs.layers.Images.{FitsState}

order_found : (id : ℕ) (order : Order) (es : List (ℕ × Order))
    → AllByRecursion FitsWire (map (λ e. e.1) es) → find nat_cmp id es ≡ Some order → FitsWire order
order_found id order [] all e = absurd (none-some order e)
order_found id order (x ∷ es) all e = by (eq_by_cmp nat_cmp id x.0) (order_found id order es all.1) e
  where
    by : (b : Bool) → (find nat_cmp id es ≡ Some order → FitsWire order)
        → cond b (Some x.1) (find nat_cmp id es) ≡ Some order → FitsWire order
    by true more f = subst FitsWire (same_Some x.1 order f) all.0
    by false more f = more f

status_found : (symbol : List ℕ) (status : ℕ × ℕ) (es : List (List ℕ × (ℕ × ℕ)))
    → AllByRecursion FitsState (map symbol_state es) → find symbol_cmp symbol es ≡ Some status
    → FitsStatus symbol status
status_found symbol status [] all e = absurd (none-some status e)
status_found symbol status (x ∷ es) all e =
    by (eq_by_cmp symbol_cmp symbol x.0) refl (status_found symbol status es all.1) e
  where
    by : (b : Bool) → eq_by_cmp symbol_cmp symbol x.0 ≡ b
        → (find symbol_cmp symbol es ≡ Some status → FitsStatus symbol status)
        → cond b (Some x.1) (find symbol_cmp symbol es) ≡ Some status → FitsStatus symbol status
    by true t more f =
        let key = tied (finite.slice_cmp-IsAntisymmetric finite.nat_cmp-IsAntisymmetric) symbol x.0 t in
        subst (λ (k : List ℕ). FitsStatus k status) (sym key) (subst (FitsStatus x.0) (same_Some x.1 status f) all.0)
    by false t more f = more f

-- the image leaves the book whose orders and statuses stand in lists that fit
pub leaves_book : (book : Book) (orders none : List Order) (states no_states : List TradingState)
    → IsBook book → ((second : ℕ) → book.second ≡ Some second → second < 256 ^ 4)
    → orders ≡ none ++ orders_of book → none ≡ [] → AllByRecursion FitsWire orders
    → states ≡ no_states ++ statuses_of book → no_states ≡ [] → AllByRecursion FitsState states
    → book_after (image_of book) ≡ book
leaves_book book orders none states no_states is clock all empty fit listed unlisted known =
    let all_orders : orders ≡ orders_of book = all ∙ ap (λ (os : List Order). os ++ orders_of book) empty in
    let all_states : states ≡ statuses_of book = listed ∙ ap (λ (ss : List TradingState). ss ++ statuses_of book) unlisted in
    image_of_leaves book is (record {
      clock = clock;
      orders = λ id order at.
          order_found id order (finite.entries book.orders) (subst (AllByRecursion FitsWire) all_orders fit)
          (sym (finite.get-entries book.orders id) ∙ at);
      statuses = λ symbol status at.
          status_found symbol status (finite.entries book.statuses) (subst (AllByRecursion FitsState) all_states known)
          (sym (finite.get-entries book.statuses symbol) ∙ at);
    })
