-- What a message moves: the levels change by the orders of the id that it names, before and after.
use Rattle.std.proofs.Common.{◌≡◌, ℕ, ◌+◌, ◌==◌, ◌&&◌, Bool, true, false, cond, nat_le, List, length, Option, None, Some, refl, sym, ap, ◌∙◌, subst, arith}
use Rattle.std.specs.Option.{option_map}
use Rattle.std.specs.FinMap as finite
use Rattle.std.proofs.lemmas.Bool.{eqb-true}
use Rattle.std.proofs.lemmas.Bool.Decides.{nat_tests}
use Rattle.std.proofs.lemmas.Cmp.{nat_cmp_total}
use Rattle.pitch_fields.proofs.Keys.{itself}
use Rattle.pitch_messages.specs.declared.order.Order.{Order}
use Rattle.pitch_fields.specs.Fields.{number_at}
use Rattle.pitch_messages.specs.Raw.{kind_of}
use Rattle.pitch_model.specs.Book.{Book, at_second, cleared, with_order, without_order, with_status, added, changed, reformed, changed_by, Effect, ShowsSecond, ClearsOrders, AddsOrder, ChangesOrder, RemovesOrder, GivesStatus, DoesNothing, after_effect, after}
use Rattle.pitch_model.specs.Levels.{level}
use Rattle.best_quotes.specs.Balance.{shares_of}
use Rattle.order_book.specs.Naming.{names_order, named_order, touches_as, touched}
use Rattle.order_book.proofs.Telling.{Names, IsClear, Tells, after_told}
use Rattle.best_quotes.specs.layers.Turning.{Moves}
use Rattle.order_book.specs.declared.naming.Touches.{Touches}
use Rattle.order_book.specs.declared.naming.Touches.TheVariants as touches
use Rattle.best_quotes.proofs.Balancing.{level_removed, level_put}

stays : (book : Book) (id : ℕ) → Moves book book id
stays book id symbol side price = refl

-- levels are those of the orders
keeps : (book new : Book) (id : ℕ) → new.orders ≡ book.orders → Moves book new id
unfolding level
keeps book new id same symbol side price = λ i. level (record new { orders = same i }) symbol side price + shares_of symbol side price (finite.get (sym same i) id)

puts : (book : Book) (id : ℕ) (order : Order) → Moves book (with_order book id order) id
puts book id order symbol side price =
    level_put symbol side price book id order
    ∙ ap (λ (o : Option Order). level book symbol side price + shares_of symbol side price o)
    (sym (finite.get-insert nat_cmp_total book.orders id order id ∙ ap (λ (b : Bool). cond b (Some order) (finite.get book.orders id)) (itself id)))

takes : (book : Book) (id : ℕ) → Moves book (without_order book id) id
takes book id symbol side price =
    let gone : finite.get (finite.remove book.orders id) id ≡ None = finite.get-remove nat_cmp_total book.orders id id ∙ ap (λ (b : Bool). cond b None (finite.get book.orders id)) (itself id) in
    let none = ap (shares_of symbol side price) gone in
    let removed = level_removed symbol side price book id in
    omega arith

adds : (book : Book) (order : Order) → Moves book (added book order) order.id
adds book order = by (order.quantity == 0)
  where
    by : (t : Bool) → Moves book (cond t book (with_order book order.id order)) order.id
    by true = stays book order.id
    by false = puts book order.id order

reforms : (book : Book) (id : ℕ) (o : Option Order) → Moves book (reformed book id o) id
reforms book id None = stays book id
reforms book id (Some order) = by (order.quantity == 0)
  where
    by : (t : Bool) → Moves book (cond t (without_order book id) (with_order book id order)) id
    by true = takes book id
    by false = puts book id order

changes_one : (book : Book) (id : ℕ) (change : Order → Order) → Moves book (changed book id change) id
changes_one book id change = reforms book id (option_map change (finite.get book.orders id))

-- ---- Raw messages
abbrev pub IsTouched : Book → Book → Touches → Type 0
IsTouched old new touches.None = new.orders ≡ old.orders
IsTouched old new (touches.One id) = Moves old new id
IsTouched old new touches.All = new.orders ≡ finite.empty

-- what a raw touches
module _ (raw : List ℕ) where
  touches_named : (id : ℕ) → Names raw id → touched raw ≡ touches.One id
  touches_named id names =
      let enough : nat_le 14 (length raw) ≡ true = (let long = names.long in grind (arith, nat_tests, long)) in
      ap (λ (t : Bool). touches_as (cond t (Some (number_at 8 6 raw)) None) (kind_of raw) (length raw))
      (ap (λ (t : Bool). t && names_order (kind_of raw)) enough ∙ names.kind) ∙ ap (λ (n : ℕ). touches.One n) (sym names.id)

  touches_all : IsClear raw → touched raw ≡ touches.All
  touches_all clear =
      let enough : nat_le 6 (length raw) ≡ true = (let long = clear.long in grind (arith, nat_tests, long)) in
      ap (λ (o : Option ℕ). touches_as o (kind_of raw) (length raw)) names_none
      ∙ ap (λ (t : Bool). cond (t && nat_le 6 (length raw)) touches.All touches.None) (ap (λ (k : ℕ). k == 0x97) clear.kind)
      ∙ ap (λ (t : Bool). cond t touches.All touches.None) enough
    where
      and_false : (t : Bool) → (t && false) ≡ false
      and_false true = refl
      and_false false = refl

      names_none : named_order raw ≡ None
      names_none =
          ap (λ (t : Bool). cond t (Some (number_at 8 6 raw)) None)
          (ap (λ (t : Bool). nat_le 14 (length raw) && t) (ap names_order clear.kind) ∙ and_false (nat_le 14 (length raw)))

-- ---- All raw messages
module _ (book : Book) (raw : List ℕ) where
  -- what leaves the orders
  still : (new : Book) → new.orders ≡ book.orders → (IsClear raw → ⊥) → IsTouched book new (touched raw)
  still new same other = by (named_order raw)
    where
      none : (t : Bool) → (kind_of raw == 0x97) ≡ t → (u : Bool) → nat_le 6 (length raw) ≡ u → IsTouched book new (cond (t && u) touches.All touches.None)
      none false e u f = same
      none true e false f = same
      none true e true f = absurd (other (record { kind = eqb-true (kind_of raw) 0x97 e; long = grind (arith, nat_tests, f) }))

      by : (o : Option ℕ) → IsTouched book new (touches_as o (kind_of raw) (length raw))
      by (Some id) = keeps book new id same
      by None = none (kind_of raw == 0x97) refl (nat_le 6 (length raw)) refl

  -- what moves the order that is named
  one : (new : Book) (id : ℕ) → Names raw id → Moves book new id → IsTouched book new (touched raw)
  one new id names moves = subst (IsTouched book new) (sym (touches_named raw id names)) moves

  effect_touches : (effect : Effect) → Tells raw effect → IsTouched book (after_effect book effect) (touched raw)
  effect_touches (ShowsSecond second) other = still (at_second book second) refl other
  effect_touches ClearsOrders clear = subst (IsTouched book (cleared book)) (sym (touches_all raw clear)) refl
  effect_touches (AddsOrder order) tells = one (added book order) order.id tells.0 (adds book order)
  effect_touches (ChangesOrder id change) names = one (changed book id (changed_by change)) id names (changes_one book id (changed_by change))
  effect_touches (RemovesOrder id) names = one (without_order book id) id names (takes book id)
  effect_touches (GivesStatus symbol status) other = still (with_status book symbol status) refl other
  effect_touches DoesNothing other = still book refl other

pub touches_orders : (book : Book) (raw : List ℕ) → IsTouched book (after book raw) (touched raw)
touches_orders book raw = after_told (λ (new : Book). IsTouched book new (touched raw)) book raw (effect_touches book raw)
