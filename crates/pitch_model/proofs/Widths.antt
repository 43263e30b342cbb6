-- The orders and statuses of a book that messages of bytes leave have the widths of the wire.
use Rattle.std.proofs.Common.{◌≡◌, ℕ, ◌+◌, ◌^◌, ◌<◌, Bool, true, false, cond, List, [], ◌∷◌, fold, refl, sym, ap, ◌∙◌, subst, arith, Some, Result, Ok, Err, length-append}
use Rattle.std.proofs.lemmas.Option.{none-some, same_Some}
use Rattle.std.specs.List.{AllByRecursion}
use Rattle.std.specs.FinMap as map
use Rattle.std.specs.Ordering.{eq_by_cmp}
use Rattle.std.proofs.lemmas.Cmp.{nat_list_cmp_total}
use Rattle.pitch_fields.specs.Fields.{AreBytes}
use Rattle.pitch_fields.specs.declared.side.Side.{Side}
use Rattle.pitch_messages.specs.declared.order.Order.{Order}
use Rattle.pitch_messages.specs.declared.message.Message.{Message}
use Rattle.pitch_messages.specs.declared.message.Message.TheVariants as messages
use Rattle.pitch_messages.specs.declared.message.ReadError.{ReadError}
use Rattle.pitch_messages.specs.Reading.{reads}
use Rattle.pitch_messages.specs.Writing.{in_row}
use Rattle.pitch_messages.proofs.Widths.{HasBytes, IsWideRow, bytes_append, read_wide}
use Rattle.pitch_model.specs.declared.order_change.OrderChange.{OrderChange}
use Rattle.pitch_model.specs.declared.order_change.OrderChange.TheVariants.{Reduced, Left, Modified}
use Rattle.pitch_model.specs.Book.{Book, symbol_cmp, with_status, empty_book, reduced_by, left_with, modified, changed_by, long_price, order_of_long, Effect, ShowsSecond, ClearsOrders, AddsOrder, ChangesOrder, RemovesOrder, GivesStatus, DoesNothing, after_effect, effect_of, after_read, after, book_after}
use Rattle.pitch_model.proofs.Putting.{is_equal}
use Rattle.pitch_model.proofs.Books.{SameElse, added_else, changed_else, AllOrders, none_all, added_all, changed_all, without_order_all}
use Rattle.pitch_model.specs.layers.Widths.{FitsWire, FitsStatus, IsWireBook}

-- ---- What a message says fits
abbrev Fits : ℕ → Order → Type 0
Fits id order = FitsWire order

reduced_fits : (n : ℕ) (order : Order) → FitsWire order → FitsWire (reduced_by n order)
reduced_fits n order fits = let q = fits.quantity in record { id = fits.id; quantity = omega arith; symbol = fits.symbol; price = fits.price; participant = fits.participant; symbol_bytes = fits.symbol_bytes; participant_bytes = fits.participant_bytes }

left_fits : (n : ℕ) (order : Order) → n < 256 ^ 4 → FitsWire order → FitsWire (left_with n order)
left_fits n order few fits = record { id = fits.id; quantity = few; symbol = fits.symbol; price = fits.price; participant = fits.participant; symbol_bytes = fits.symbol_bytes; participant_bytes = fits.participant_bytes }

modified_fits : (n p : ℕ) (display : Bool) (order : Order) → n < 256 ^ 4 → p < 256 ^ 8 → FitsWire order → FitsWire (modified n p display order)
modified_fits n p display order few low fits = record { id = fits.id; quantity = few; symbol = fits.symbol; price = low; participant = fits.participant; symbol_bytes = fits.symbol_bytes; participant_bytes = fits.participant_bytes }

long_fits : (id : ℕ) (side : Side) (quantity : ℕ) (symbol : List ℕ) (price flags : ℕ) → id < 256 ^ 8 → quantity < 256 ^ 4 → HasBytes 6 symbol → price < 256 ^ 8 → FitsWire (order_of_long id side quantity symbol price flags)
long_fits id side quantity symbol price flags i q s p = record { id = i; quantity = q; symbol = length-append symbol (32 ∷ 32 ∷ []) ∙ ap (λ (n : ℕ). n + 2) s.0; price = p; participant = refl; symbol_bytes = bytes_append symbol (32 ∷ 32 ∷ []) s.1 (omega arith, (omega arith, tt)); participant_bytes = (omega arith, (omega arith, (omega arith, (omega arith, tt)))) }

-- a change whose numbers have the widths of the wire
abbrev FitsChange : OrderChange → Type 0
FitsChange (Reduced quantity) = Unit {0}
FitsChange (Left quantity) = quantity < 256 ^ 4
FitsChange (Modified quantity price display) = (quantity < 256 ^ 4) × (price < 256 ^ 8)

change_fits : (change : OrderChange) (order : Order) → FitsChange change → FitsWire order → FitsWire (changed_by change order)
change_fits (Reduced quantity) order fits here = reduced_fits quantity order here
change_fits (Left quantity) order fits here = left_fits quantity order fits here
change_fits (Modified quantity price display) order fits here = modified_fits quantity price display order fits.0 fits.1 here

-- an effect whose values have the widths of the wire
abbrev FitsEffect : Effect → Type 0
FitsEffect (ShowsSecond second) = second < 256 ^ 4
FitsEffect ClearsOrders = Unit {0}
FitsEffect (AddsOrder order) = FitsWire order
FitsEffect (ChangesOrder id change) = FitsChange change
FitsEffect (RemovesOrder id) = Unit {0}
FitsEffect (GivesStatus symbol status) = FitsStatus symbol status
FitsEffect DoesNothing = Unit {0}

message_fits : (message : Message) → IsWideRow (in_row message) → FitsEffect (effect_of message)
message_fits (messages.Time second) fits = fits.0
message_fits (messages.AddLong offset id side quantity symbol price flags) (o, (i, (d, (q, (s, (p, f)))))) = long_fits id side quantity symbol price flags i q s p
message_fits (messages.AddShort offset id side quantity symbol price flags) (o, (i, (d, (q, (s, (p, f)))))) =
    long_fits id side quantity symbol (long_price price) flags i (omega (arith, q)) s (omega (arith, p))
message_fits (messages.Executed offset id executed execution) fits = tt
message_fits (messages.ExecutedAt offset id executed remaining execution price) (o, (i, (e, (r, others)))) = r
message_fits (messages.ModifyLong offset id quantity price flags) (o, (i, (q, (p, f)))) = (q, p)
message_fits (messages.ModifyShort offset id quantity price flags) (o, (i, (q, (p, f)))) = (omega (arith, q), omega (arith, p))
message_fits (messages.AddExpanded offset id side quantity symbol price flags participant) (o, (i, (d, (q, (s, (p, (f, (t, u)))))))) =
    record { id = i; quantity = q; symbol = s.0; price = p; participant = t.0; symbol_bytes = s.1; participant_bytes = t.1 }
message_fits (messages.TradingStatus offset symbol halt sho) (o, (s, (h, (r, others)))) = record { symbol = s.0; symbol_bytes = s.1; halt = h; sho = r }
message_fits message fits = tt

-- the statuses
abbrev Statuses : Type 0
Statuses = map.FinMap symbol_cmp (ℕ × ℕ)

abbrev StatusesFit : Statuses → Type 0
StatusesFit statuses = (symbol : List ℕ) (status : ℕ × ℕ) → map.get statuses symbol ≡ Some status → FitsStatus symbol status

none_fits : StatusesFit map.empty
none_fits symbol status g = absurd (none-some status (sym (map.get-empty symbol_cmp symbol) ∙ g))

with_status_fits : (book : Book) (symbol : List ℕ) (status : ℕ × ℕ) → FitsStatus symbol status → StatusesFit book.statuses → StatusesFit (with_status book symbol status).statuses
with_status_fits book symbol status here all q other g = by (eq_by_cmp symbol_cmp q symbol) refl (sym (map.get-insert nat_list_cmp_total book.statuses symbol status q) ∙ g)
  where
    by : (b : Bool) → eq_by_cmp symbol_cmp q symbol ≡ b → cond b (Some status) (map.get book.statuses q) ≡ Some other → FitsStatus q other
    by true t e =
        let same : symbol ≡ q = sym (map.slice_cmp-IsAntisymmetric map.nat_cmp-IsAntisymmetric q symbol (is_equal (symbol_cmp q symbol) t)) in
        subst (λ (k : List ℕ). FitsStatus k other) same (subst (FitsStatus symbol) (same_Some status other e) here)
    by false t e = all q other e

-- ---- Each effect leaves such a book
other_orders : (book book' : Book) → SameElse book book' → IsWireBook book → AllOrders Fits book' → IsWireBook book'
other_orders book book' same B orders = record {
  clock = λ second e. B.clock second (sym same.second ∙ e);
  orders = orders;
  statuses = λ symbol status g. B.statuses symbol status (ap (λ (m : Statuses). map.get m symbol) (sym same.statuses) ∙ g);
}

effect_fits : (book : Book) (effect : Effect) → FitsEffect effect → IsWireBook book → IsWireBook (after_effect book effect)
effect_fits book (ShowsSecond second) fits B = record { clock = λ n e. subst (λ (k : ℕ). k < 256 ^ 4) (same_Some second n e) fits; orders = B.orders; statuses = B.statuses }
effect_fits book ClearsOrders fits B = record { clock = B.clock; orders = none_all Fits book; statuses = B.statuses }
effect_fits book (AddsOrder order) fits B = other_orders book _ (added_else book order) B (added_all Fits book order B.orders (λ some. fits))
effect_fits book (ChangesOrder id change) fits B =
    other_orders book _ (changed_else book id (changed_by change)) B (changed_all Fits book id (changed_by change) B.orders (λ order here some. change_fits change order fits here))
effect_fits book (RemovesOrder id) fits B = record { clock = B.clock; orders = without_order_all Fits book id B.orders; statuses = B.statuses }
effect_fits book (GivesStatus symbol status) fits B = record { clock = B.clock; orders = B.orders; statuses = with_status_fits book symbol status fits B.statuses }
effect_fits book DoesNothing fits B = B

after_fits : (book : Book) (raw : List ℕ) → AreBytes raw → IsWireBook book → IsWireBook (after book raw)
unfolding after
after_fits book raw all B = by (reads raw) refl
  where
    by : (read : Result Message ReadError) → reads raw ≡ read → IsWireBook (after_read book read)
    by (Err error) e = B
    by (Ok message) e = effect_fits book (effect_of message) (message_fits message (read_wide raw message all e)) B

folded_fits : (raws : List (List ℕ)) (book : Book) → AllByRecursion AreBytes raws → IsWireBook book → IsWireBook (fold after book raws)
folded_fits [] book all B = B
folded_fits (raw ∷ raws) book all B = folded_fits raws (after book raw) all.1 (after_fits book raw all.0 B)

pub book_after_fits : (raws : List (List ℕ)) → AllByRecursion AreBytes raws → IsWireBook (book_after raws)
book_after_fits raws all = folded_fits raws empty_book all (record { clock = λ n e. absurd (none-some n e); orders = none_all Fits empty_book; statuses = none_fits })
