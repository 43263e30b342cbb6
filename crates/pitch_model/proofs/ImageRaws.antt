-- The messages of an image: raws of bytes, one add for each open order, one status for each symbol.
use Rattle.std.proofs.Common.{◌≡◌, ℕ, suc, ◌+◌, ◌^◌, ◌≤◌, ◌<◌, Bool, true, false, ◌&&◌, ◌||◌, ◌==◌, cond, List, [], ◌∷◌, ◌++◌, length, take, map, nat_le, refl, sym, ap, ◌∙◌, subst, arith, length-take, Option, Some, None}
use Rattle.std.specs.List.{AllByRecursion}
use Rattle.std.specs.FinMap as finite
use Rattle.std.proofs.lemmas.Cmp.{nat_cmp_total, nat_list_cmp_total}
use Rattle.std.proofs.Math.Bool.{or-true}
use Rattle.std.proofs.lemmas.List.{map-append}
use Rattle.std.proofs.lemmas.List.Sums.{sum_by-cons, sum_by-append}
use Rattle.std.proofs.lemmas.Bool.Decides.{nat_tests}
use Rattle.pitch_fields.proofs.Lists.{all_append, all_follows}
use Rattle.pitch_fields.specs.Fields.{AreBytes}
use Rattle.pitch_messages.specs.declared.order.Order.{Order}
use Rattle.pitch_messages.specs.declared.trading_state.TradingState.{TradingState}
use Rattle.pitch_messages.specs.declared.message.Message.{Message}
use Rattle.pitch_messages.specs.declared.message.Message.TheVariants.{Time, AddLong, AddShort, AddExpanded, TradingStatus}
use Rattle.pitch_messages.specs.Forms.{status_message, add_message, add_in_form, plain_symbol, short_price, flags_of}
use Rattle.pitch_messages.specs.Raw.{IsRaw, kind_of}
use Rattle.pitch_messages.specs.Writing.{written}
use Rattle.pitch_model.specs.Book.{Book, book_after}
use Rattle.pitch_model.specs.History.{Raw, is_add, adds, can_promise}
use Rattle.pitch_model.specs.Image.{IsOfImage, clock_of, image_of, image}
use Rattle.pitch_model.specs.Levels.{orders_of}
use Rattle.pitch_model.specs.Statuses.{symbol_state, statuses_of}
use Rattle.pitch_model.specs.layers.Widths.{FitsWire, FitsStatus, IsWireBook}
use Rattle.pitch_model.proofs.Books.{book_after_len}
use Rattle.pitch_model.proofs.Images.{plain_is, short_is}
use Rattle.pitch_model.proofs.Putting.{all_entries}
use Rattle.pitch_messages.proofs.Widths.{message_raw}

-- ---- How many orders an image adds
abbrev adds_of : List Order → List Raw
adds_of orders = map written (map (λ (order : Order). add_message order 0) orders)

is_add_of : (order : Order) → is_add (written (add_message order 0)) ≡ true
unfolding written add_message
is_add_of order = by (plain_symbol order) (short_price order.quantity order.price)
  where
    by : (six : Option (List ℕ)) (cents : Option ℕ) → is_add (written (add_in_form six cents order 0)) ≡ true
    by None cents = refl
    by (Some six) None = refl
    by (Some six) (Some cents) = refl

adds_orders : (orders : List Order) → adds (adds_of orders) ≡ length orders
adds_orders [] = refl
adds_orders (order ∷ orders) =
    let one : ◌≡◌ {A = ℕ} (cond (is_add (written (add_message order 0))) 1 0) 1 = ap (λ (b : Bool). cond b 1 0) (is_add_of order) in
    sum_by-cons (λ raw. cond (is_add raw) 1 0) (written (add_message order 0)) (adds_of orders) ∙ omega (arith, one, adds_orders orders)

-- the statuses of some symbols, as an image has them
abbrev raws_of_states : List (List ℕ × (ℕ × ℕ)) → List Raw
raws_of_states es = map written (map (λ (state : TradingState). status_message state 0) (map symbol_state es))

adds_states : (es : List (List ℕ × (ℕ × ℕ))) → adds (raws_of_states es) ≡ 0
unfolding written
adds_states [] = refl
adds_states (e ∷ es) =
    sum_by-cons (λ raw. cond (is_add raw) 1 0) (written (status_message (symbol_state e) 0)) (raws_of_states es) ∙ omega (arith, adds_states es)

adds_clock : (second : Option ℕ) → adds (map written (clock_of second)) ≡ 0
unfolding written
adds_clock None = refl
adds_clock (Some second) = refl

map_len : (es : List (ℕ × Order)) → length (map (λ (e : ℕ × Order). e.1) es) ≡ length es
map_len [] = refl
map_len (e ∷ es) = ap suc (map_len es)

-- the image in its three parts
parts_are : (book : Book) → image_of book ≡ map written (clock_of book.second) ++ (adds_of (orders_of book) ++ raws_of_states (finite.entries book.statuses))
unfolding image_of
parts_are book =
    let orders : List Message = map (λ (order : Order). add_message order 0) (orders_of book) in
    let states : List Message = map (λ (state : TradingState). status_message state 0) (statuses_of book) in
    map-append written (clock_of book.second) (orders ++ states)
    ∙ ap (λ (raws : List Raw). map written (clock_of book.second) ++ raws) (map-append written orders states)

-- one for each open order
pub adds_image : (book : Book) → adds (image_of book) ≡ finite.len book.orders
adds_image book =
    let clock : List Raw = map written (clock_of book.second) in
    let orders : List Raw = adds_of (orders_of book) in
    let states : List Raw = raws_of_states (finite.entries book.statuses) in
    ap adds (parts_are book)
    ∙ sum_by-append (λ raw. cond (is_add raw) 1 0) clock (orders ++ states)
    ∙ ap (λ (n : ℕ). adds clock + n) (sum_by-append (λ raw. cond (is_add raw) 1 0) orders states)
    ∙ omega (arith, adds_clock book.second, adds_orders (orders_of book), adds_states (finite.entries book.statuses))
    ∙ map_len (finite.entries book.orders) ∙ sym (finite.len-entries book.orders)

-- a message of an image: the time, a trading status, or an add

-- there are no others
pub image_kinds : (book : Book) → AllByRecursion IsOfImage (image_of book)
unfolding written
image_kinds book =
    subst (AllByRecursion IsOfImage) (sym (parts_are book))
    (all_append IsOfImage (map written (clock_of book.second)) _ (clock book.second)
    (all_append IsOfImage (adds_of (orders_of book)) _ (adds_only (orders_of book)) (states_only (finite.entries book.statuses))))
  where
    add : (order : Order) → IsOfImage (written (add_message order 0))
    add order =
        ap (λ (b : Bool). kind_of (written (add_message order 0)) == 0x20 || (kind_of (written (add_message order 0)) == 0x31 || b)) (is_add_of order)
        ∙ ap (λ (b : Bool). kind_of (written (add_message order 0)) == 0x20 || b) (or-true (kind_of (written (add_message order 0)) == 0x31))
        ∙ or-true (kind_of (written (add_message order 0)) == 0x20)

    adds_only : (orders : List Order) → AllByRecursion IsOfImage (adds_of orders)
    adds_only [] = tt
    adds_only (order ∷ orders) = (add order, adds_only orders)

    states_only : (es : List (List ℕ × (ℕ × ℕ))) → AllByRecursion IsOfImage (raws_of_states es)
    states_only [] = tt
    states_only (e ∷ es) = (refl, states_only es)

    clock : (second : Option ℕ) → AllByRecursion IsOfImage (map written (clock_of second))
    clock None = tt
    clock (Some second) = (refl, tt)

-- so it can be promised
pub image_promised : (V : List Raw) (s : ℕ) → s ≤ 4294967294 → can_promise s (adds (image V s)) ≡ true
unfolding image
image_promised V s low =
    let some = adds_image (book_after (take s V)) in
    let few = book_after_len (take s V) in
    let size = length-take {A = Raw} s V in
    let within : adds (image_of (book_after (take s V))) ≤ s = omega (arith, some, few, size) in
    both (adds (image_of (book_after (take s V)))) within
  where
    both : (n : ℕ) → n ≤ s → (nat_le n s && nat_le n 4294967294) ≡ true
    both n within = grind (arith, nat_tests, within, low)

-- ---- Bytes
bytes_prefix : (xs ys : List ℕ) → AreBytes (xs ++ ys) → AreBytes xs
bytes_prefix [] ys all = tt
bytes_prefix (x ∷ xs) ys all = (all.0, bytes_prefix xs ys all.1)

flags_byte : (display : Bool) → flags_of display < 256
flags_byte true = omega arith
flags_byte false = omega arith

abbrev IsByteRaw : List ℕ → Type 0
IsByteRaw raw = IsRaw raw × AreBytes raw

add_raw : (order : Order) → FitsWire order → IsByteRaw (written (add_message order 0))
unfolding add_message
add_raw order fits = by (plain_symbol order) (short_price order.quantity order.price) refl refl
  where
    flags : flags_of order.display < 256
    flags = flags_byte order.display

    by : (six : Option (List ℕ)) (cents : Option ℕ) → plain_symbol order ≡ six → short_price order.quantity order.price ≡ cents → IsByteRaw (written (add_in_form six cents order 0))
    by None cents s c =
        message_raw (AddExpanded 0 order.id order.side order.quantity order.symbol order.price (flags_of order.display) order.participant) (omega arith, omega arith)
        (omega arith, (fits.id, (tt, (fits.quantity, ((fits.symbol, fits.symbol_bytes), (fits.price, (flags, ((fits.participant, fits.participant_bytes), tt))))))))
    by (Some six) None s c =
        let plain = (plain_is order six fits s).0 in
        let bytes : AreBytes six = bytes_prefix six (32 ∷ 32 ∷ []) (subst AreBytes (sym plain.padded) fits.symbol_bytes) in
        message_raw (AddLong 0 order.id order.side order.quantity six order.price (flags_of order.display)) (omega arith, omega arith)
        (omega arith, (fits.id, (tt, (fits.quantity, ((plain.size, bytes), (fits.price, (flags, tt)))))))
    by (Some six) (Some cents) s c =
        let plain = (plain_is order six fits s).0 in
        let bytes : AreBytes six = bytes_prefix six (32 ∷ 32 ∷ []) (subst AreBytes (sym plain.padded) fits.symbol_bytes) in
        let short = short_is order.quantity order.price cents c in
        message_raw (AddShort 0 order.id order.side order.quantity six cents (flags_of order.display)) (omega arith, omega arith)
        (omega arith, (fits.id, (tt, (short.few, ((plain.size, bytes), (short.low, (flags, tt)))))))

time_raw : (second : ℕ) → second < 256 ^ 4 → IsByteRaw (written (Time second))
time_raw second fits = message_raw (Time second) (omega arith, omega arith) (fits, tt)

adds_raw : (es : List (ℕ × Order)) → AllByRecursion (λ e. FitsWire e.1) es → AllByRecursion IsByteRaw (adds_of (map (λ (e : ℕ × Order). e.1) es))
adds_raw [] all = tt
adds_raw (e ∷ es) all = (add_raw e.1 all.0, adds_raw es all.1)

status_raw : (symbol : List ℕ) (status : ℕ × ℕ) → FitsStatus symbol status → IsByteRaw (written (status_message (symbol_state (symbol, status)) 0))
status_raw symbol status fits =
    message_raw (TradingStatus 0 symbol status.0 status.1) (omega arith, omega arith) (omega arith, ((fits.symbol, fits.symbol_bytes), (fits.halt, (fits.sho, (tt, tt)))))

states_raw : (es : List (List ℕ × (ℕ × ℕ))) → AllByRecursion (λ e. FitsStatus e.0 e.1) es → AllByRecursion IsByteRaw (raws_of_states es)
states_raw [] all = tt
states_raw (e ∷ es) all = (status_raw e.0 e.1 all.0, states_raw es all.1)

image_byte_raws : (book : Book) → IsWireBook book → AllByRecursion IsByteRaw (image_of book)
image_byte_raws book wire =
    subst (AllByRecursion IsByteRaw) (sym (parts_are book))
    (all_append IsByteRaw (map written (clock_of book.second)) _ (clock book.second wire.clock)
    (all_append IsByteRaw (adds_of (orders_of book)) _
    (adds_raw (finite.entries book.orders) (all_entries nat_cmp_total finite.nat_cmp-IsAntisymmetric (λ id order. FitsWire order) book.orders wire.orders))
    (states_raw (finite.entries book.statuses) (all_entries nat_list_cmp_total (finite.slice_cmp-IsAntisymmetric finite.nat_cmp-IsAntisymmetric) FitsStatus book.statuses wire.statuses))))
  where
    clock : (second : Option ℕ) → ((n : ℕ) → second ≡ Some n → n < 256 ^ 4) → AllByRecursion IsByteRaw (map written (clock_of second))
    clock None fits = tt
    clock (Some second) fits = (time_raw second (fits second refl), tt)

pub image_raws : (book : Book) → IsWireBook book → AllByRecursion IsRaw (image_of book)
image_raws book wire = all_follows IsByteRaw IsRaw (λ raw is. is.0) (image_of book) (image_byte_raws book wire)

pub image_bytes : (book : Book) → IsWireBook book → AllByRecursion AreBytes (image_of book)
image_bytes book wire = all_follows IsByteRaw AreBytes (λ raw is. is.1) (image_of book) (image_byte_raws book wire)
