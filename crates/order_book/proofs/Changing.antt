-- What a change of one order does to the book, where the orders are a list of entries.
use Rattle.std.proofs.Common.{◌≡◌, ◌≢◌, ℕ, Bool, true, false, cond, List, Option, Some, None, nat_eq, sym, ap, ◌∙◌, ◌==◌, arith}
use Rattle.std.specs.Option.{option_map, unwrap_or}
use Rattle.std.specs.Map.{lookup, lookup_key}
use Rattle.std.proofs.lemmas.Bool.Decides.{Decides-eqb, nat_tests}
use Rattle.std.proofs.lemmas.Map.Made.{lookup_key_same}
use Rattle.pitch_messages.specs.declared.order.Order.{Order}
use Rattle.pitch_model.specs.Book.{changed, reformed, with_order, without_order}
use Rattle.order_book.specs.Symbols.{StatusMap}
use Rattle.order_book.specs.Standing.{book_of}
use Rattle.order_book.proofs.Maps.{id_keys, inserts, removes, looks}

-- what was read twice at a place is the same
pub same_value : (p q : ℕ × Order) → Some p ≡ Some q → p.1 ≡ q.1
same_value p q e = ap (λ (o : Option (ℕ × Order)). (unwrap_or o p).1) e

none_left : (n m : ℕ) → n ≡ m → n ≡ 0 → (m == 0) ≡ true
none_left n m e z = grind (arith, nat_tests, e, z)

some_left : (n m : ℕ) → n ≡ m → n ≢ 0 → (m == 0) ≡ false
some_left n m e z = grind (arith, nat_tests, e, z)

module _ (second : Option ℕ) (es : List (ℕ × Order)) (statuses : StatusMap) (id : ℕ) (f : Order → Order) where
  -- no order is open
  pub nothing_changed : lookup (nat_eq id) es ≡ None → book_of second es statuses ≡ changed (book_of second es statuses) id f
  nothing_changed none = sym (ap (λ (o : Option Order). reformed (book_of second es statuses) id (option_map f o)) (looks id_keys es id ∙ none))

  module _ (fs : List (ℕ × Order)) (key : ℕ) (order form : Order) (found : lookup (nat_eq id) es ≡ Some order) (named : lookup_key (nat_eq id) es ≡ Some key) (is : form ≡ f order) where
    changed_is : changed (book_of second es statuses) id f ≡ cond ((f order).quantity == 0) (without_order (book_of second es statuses) id) (with_order (book_of second es statuses) id (f order))
    changed_is = ap (λ (o : Option Order). reformed (book_of second es statuses) id (option_map f o)) (looks id_keys es id ∙ found)

    own : key ≡ id
    own = sym (lookup_key_same {eq = nat_eq} Decides-eqb id es key named)

    -- it stands in another form
    pub rewritten : form.quantity ≢ 0 → ((q : ℕ) → lookup (nat_eq q) fs ≡ cond (nat_eq key q) (Some form) (lookup (nat_eq q) es)) → book_of second fs statuses ≡ changed (book_of second es statuses) id f
    rewritten some h =
        ap (λ orders. record { second = second; orders = orders; statuses = statuses }) (inserts id_keys es fs key form h)
        ∙ (λ i. with_order (book_of second es statuses) (own i) (is i))
        ∙ sym (changed_is ∙ ap (λ (b : Bool). cond b (without_order (book_of second es statuses) id) (with_order (book_of second es statuses) id (f order))) (some_left _ _ (ap (λ (o : Order). o.quantity) is) some))

    -- it has no shares left
    pub taken_out : form.quantity ≡ 0 → ((q : ℕ) → lookup (nat_eq q) fs ≡ cond (nat_eq key q) None (lookup (nat_eq q) es)) → book_of second fs statuses ≡ changed (book_of second es statuses) id f
    taken_out none h =
        ap (λ orders. record { second = second; orders = orders; statuses = statuses }) (removes id_keys es fs key h)
        ∙ (λ i. without_order (book_of second es statuses) (own i))
        ∙ sym (changed_is ∙ ap (λ (b : Bool). cond b (without_order (book_of second es statuses) id) (with_order (book_of second es statuses) id (f order))) (none_left _ _ (ap (λ (o : Order). o.quantity) is) none))
