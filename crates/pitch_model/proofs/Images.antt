-- The messages of an image make its book anew.
use Rattle.std.proofs.Common.{Bool, List, None, Ok, Option, Result, Some, [], ap, arith, cond, drop, false, fold, length, length-drop, length-take, map, nat_le, refl, suc, sym, take, true, zero, ℕ, ◌%◌, ◌&&◌, ◌++◌, ◌/◌, ◌<◌, ◌==◌, ◌^◌, ◌∙◌, ◌∷◌, ◌≡◌, ◌≤◌}
use Rattle.std.proofs.lemmas.Option.{none-some, same_Some}
use Rattle.std.proofs.lemmas.List.{take-append-drop}
use Rattle.std.specs.List.{AllByRecursion}
use Rattle.std.specs.Ordering.{nat_cmp}
use Rattle.std.specs.FinMap as finite
use Rattle.std.proofs.lemmas.Cmp.{nat_cmp_total, nat_list_cmp_total}
use Rattle.std.proofs.lemmas.Bool.{and_parts, eqb-true, cond-false}
use Rattle.std.proofs.lemmas.Bool.Decides.{nat_tests}
use Rattle.std.proofs.lemmas.List.Sums.{fold-append}
use Rattle.pitch_fields.proofs.Lists.{all_append, all_take}
use Rattle.pitch_messages.specs.declared.order.Order.{Order}
use Rattle.pitch_messages.specs.declared.message.Message.{Message}
use Rattle.pitch_messages.specs.declared.message.Message.TheVariants.{Time, AddLong, AddShort, AddExpanded, TradingStatus}
use Rattle.pitch_messages.specs.declared.message.ReadError.{ReadError}
use Rattle.pitch_messages.specs.Reading.{reads}
use Rattle.pitch_fields.specs.Name.{is_blank, six_of}
use Rattle.pitch_fields.specs.Price.{short_of}
use Rattle.pitch_messages.specs.Forms.{status_message, add_message, add_in_form, plain_symbol, short_price, flags_of}
use Rattle.pitch_messages.proofs.RoundTrip.{message_back}
use Rattle.pitch_messages.specs.Writing.{written}
use Rattle.pitch_model.specs.Book.{Book, symbol_cmp, IsBook, empty_book, with_order, with_status, AddsOrder, after_effect, long_symbol, long_price, is_displayed, order_of_long, order_of_expanded, effect_of, after_message, after_read, after, book_after}
use Rattle.pitch_fields.specs.Fields.{AreBytes}
use Rattle.pitch_fields.specs.Name.{no_participant}
use Rattle.pitch_model.specs.Levels.{orders_of}
use Rattle.pitch_model.specs.Statuses.{symbol_state, statuses_of}
use Rattle.pitch_model.specs.Image.{clock_of, image_messages, image_of, image}
use Rattle.pitch_model.specs.layers.Widths.{FitsWire, FitsStatus, IsWireBook}
use Rattle.pitch_model.proofs.Books.{book_after_book}
use Rattle.pitch_model.proofs.Widths.{book_after_fits}
use Rattle.pitch_model.proofs.Putting.{put_all, put_entries, all_entries}

-- ---- The messages of an image
-- the message adds the order
abbrev pub Adds : Order → Type 0
Adds order = effect_of (add_message order 0) ≡ AddsOrder order

fold_adds : (book : Book) (es : List (ℕ × Order)) → AllByRecursion (λ e. (e.1.id ≡ e.0) × (0 < e.1.quantity) × Adds e.1) es
    → fold after_message book (map (λ order. add_message order 0) (map (λ e. e.1) es)) ≡ record book { orders = put_all book.orders es }
fold_adds book [] all = refl
fold_adds book (e ∷ es) all =
    let filled : (e.1.quantity == 0) ≡ false = (let some = all.0.1 in grind (arith, nat_tests, some)) in
    let step : after_message book (add_message e.1 0) ≡ with_order book e.0 e.1 =
    ap (after_effect book) all.0.2 ∙ cond-false (e.1.quantity == 0) book (with_order book e.1.id e.1) filled ∙ ap (λ (id : ℕ). with_order book id e.1) all.0.0 in
    ap (λ (b : Book). fold after_message b (map (λ order. add_message order 0) (map (λ e. e.1) es))) step ∙ fold_adds (with_order book e.0 e.1) es all.1

-- the statuses of a map, one after another
fold_statuses : (book : Book) (es : List (List ℕ × (ℕ × ℕ)))
    → fold after_message book (map (λ state. status_message state 0) (map symbol_state es)) ≡ record book { statuses = put_all book.statuses es }
fold_statuses book [] = refl
fold_statuses book (e ∷ es) = fold_statuses (with_status book e.0 e.1) es

-- the book that has only a clock
after_clock : (second : Option ℕ) → fold after_message empty_book (clock_of second) ≡ record empty_book { second = second }
after_clock None = refl
after_clock (Some second) = refl

-- the adds and the statuses of an image
abbrev added_of : Book → List Message
added_of book = map (λ order. add_message order 0) (orders_of book)

abbrev shown_of : Book → List Message
shown_of book = map (λ state. status_message state 0) (statuses_of book)

-- the messages of a book's image make the book anew
pub made_anew : (book : Book) → IsBook book → ((id : ℕ) (order : Order) → finite.get book.orders id ≡ Some order → Adds order) → fold after_message empty_book (image_messages book) ≡ book
made_anew book is adds =
    fold-append after_message empty_book (clock_of book.second) (added_of book ++ shown_of book)
    ∙ ap (λ (b : Book). fold after_message b (added_of book ++ shown_of book)) (after_clock book.second)
    ∙ fold-append after_message (record empty_book { second = book.second }) (added_of book) (shown_of book)
    ∙ ap (λ (b : Book). fold after_message b (shown_of book))
    (fold_adds (record empty_book { second = book.second }) (finite.entries book.orders)
    (all_entries nat_cmp_total finite.nat_cmp-IsAntisymmetric (λ id order. (order.id ≡ id) × (0 < order.quantity) × Adds order) book.orders
    (λ id order g. (is.ids id order g, is.filled id order g, adds id order g))))
    ∙ ap (λ (m : finite.FinMap nat_cmp Order). fold after_message (record { second = book.second; orders = m; statuses = finite.empty }) (shown_of book))
    (put_entries nat_cmp_total finite.nat_cmp-IsAntisymmetric book.orders)
    ∙ fold_statuses (record { second = book.second; orders = book.orders; statuses = finite.empty }) (finite.entries book.statuses)
    ∙ ap (λ (m : finite.FinMap symbol_cmp (ℕ × ℕ)). record { second = book.second; orders = book.orders; statuses = m })
    (put_entries nat_list_cmp_total (finite.slice_cmp-IsAntisymmetric finite.nat_cmp-IsAntisymmetric) book.statuses)

-- raws that are read as these messages do what the messages do
fold_written : (book : Book) (messages : List Message) → AllByRecursion (λ m. reads (written m) ≡ Ok m) messages → fold after book (map written messages) ≡ fold after_message book messages
unfolding after
fold_written book [] all = refl
fold_written book (m ∷ messages) all =
    ap (λ (r : Result Message ReadError). fold after (after_read book r) (map written messages)) all.0 ∙ fold_written (after_message book m) messages all.1

-- the raws of a book's image leave the book, where they are read as its messages, which add its
-- orders
image_leaves : (book : Book) → IsBook book → ((id : ℕ) (order : Order) → finite.get book.orders id ≡ Some order → Adds order)
    → AllByRecursion (λ m. reads (written m) ≡ Ok m) (image_messages book) → book_after (image_of book) ≡ book
unfolding image_of
image_leaves book is adds read = fold_written empty_book (image_messages book) read ∙ made_anew book is adds

-- ---- The form of an add
spaces : ℕ → List ℕ
spaces zero = []
spaces (suc n) = 32 ∷ spaces n

blank_spaces : (n : ℕ) (xs : List ℕ) → length xs ≡ n → is_blank xs ≡ true → xs ≡ spaces n
unfolding spaces
blank_spaces zero [] size blank = refl
blank_spaces zero (x ∷ xs) size blank = absurd (omega (arith, size))
blank_spaces (suc n) [] size blank = absurd (omega (arith, size))
blank_spaces (suc n) (x ∷ xs) size blank =
    let parts = and_parts (x == 32) (is_blank xs) blank in
    ap (λ (y : ℕ). y ∷ xs) (eqb-true x 32 parts.0) ∙ ap (λ (ys : List ℕ). 32 ∷ ys) (blank_spaces n xs (omega (arith, size)) parts.1)

-- the six bytes of a symbol, with two spaces
pub record SixOf (symbol six : List ℕ) : Type 0 where
  pub size : length six ≡ 6
  pub padded : long_symbol six ≡ symbol

six_is : (symbol six : List ℕ) → length symbol ≡ 8 → six_of symbol ≡ Some six → SixOf symbol six
unfolding spaces
six_is symbol six size e = by (is_blank (drop 6 symbol)) refl e
  where
    by : (b : Bool) → is_blank (drop 6 symbol) ≡ b → cond b (Some (take 6 symbol)) None ≡ Some six → SixOf symbol six
    by true blank f =
        let same = same_Some (take 6 symbol) six f in
        let rest : drop 6 symbol ≡ 32 ∷ 32 ∷ [] = blank_spaces 2 (drop 6 symbol) (omega (arith, length-drop {A = ℕ}, size)) blank in
        record {
          size = ap (λ (xs : List ℕ). length xs) (sym same) ∙ omega (arith, length-take {A = ℕ}, size);
          padded = ap (λ (xs : List ℕ). xs ++ 32 ∷ 32 ∷ []) (sym same) ∙ ap (λ (ys : List ℕ). take 6 symbol ++ ys) (sym rest) ∙ take-append-drop 6 symbol;
        }
    by false blank f = absurd (none-some six f)

-- what the plain symbol says of the order
pub plain_is : (order : Order) (six : List ℕ) → FitsWire order → plain_symbol order ≡ Some six → SixOf order.symbol six × (no_participant ≡ order.participant)
unfolding spaces
plain_is order six fits e = by (is_blank order.participant) refl e
  where
    by : (b : Bool) → is_blank order.participant ≡ b → cond b (six_of order.symbol) None ≡ Some six → SixOf order.symbol six × (no_participant ≡ order.participant)
    by true blank f = (six_is order.symbol six fits.symbol f, sym (blank_spaces 4 order.participant fits.participant blank))
    by false blank f = absurd (none-some six f)

-- what the short price says of quantity and price
pub record ShortOf (quantity price cents : ℕ) : Type 0 where
  pub few : quantity < 256 ^ 2
  pub low : cents < 256 ^ 2
  pub whole : long_price cents ≡ price

pub short_is : (quantity price cents : ℕ) → short_price quantity price ≡ Some cents → ShortOf quantity price cents
short_is quantity price cents e = by (nat_le quantity 65535) refl e
  where
    inner : quantity ≤ 65535 → (b : Bool) → (price % 100 == 0 && nat_le price 6553500) ≡ b → cond b (Some (price / 100)) None ≡ Some cents → ShortOf quantity price cents
    inner few true t f =
        let parts = and_parts (price % 100 == 0) (nat_le price 6553500) t in
        let even = eqb-true (price % 100) 0 parts.0 in
        let low : price ≤ 6553500 = grind (arith, nat_tests, parts.1) in
        let same = same_Some (price / 100) cents f in
        record { few = omega arith; low = omega arith; whole = omega arith }
    inner few false t f = absurd (none-some cents f)

    by : (b : Bool) → nat_le quantity 65535 ≡ b → cond b (short_of price) None ≡ Some cents → ShortOf quantity price cents
    by true t f = inner (grind (arith, nat_tests, t)) (price % 100 == 0 && nat_le price 6553500) refl f
    by false t f = absurd (none-some cents f)

shown_again : (display : Bool) → is_displayed (flags_of display) ≡ display
shown_again true = refl
shown_again false = refl

-- the order of each form is the order
expanded_order : (order : Order) → order_of_expanded order.id order.side order.quantity order.symbol order.price (flags_of order.display) order.participant ≡ order
expanded_order order = ap (λ (d : Bool). record order { display = d }) (shown_again order.display)

long_order : (order : Order) (six : List ℕ) (price : ℕ) → long_symbol six ≡ order.symbol → no_participant ≡ order.participant → price ≡ order.price → order_of_long order.id order.side order.quantity six price (flags_of order.display) ≡ order
long_order order six price s p q = λ i. record {
  id = order.id;
  side = order.side;
  quantity = order.quantity;
  symbol = s i;
  price = q i;
  display = shown_again order.display i;
  participant = p i;
}

-- the add of an order adds it, and is read back
pub add_message_adds : (order : Order) → FitsWire order → Adds order
unfolding add_message
add_message_adds order fits = by (plain_symbol order) (short_price order.quantity order.price) refl refl
  where
    by : (six : Option (List ℕ)) (cents : Option ℕ) → plain_symbol order ≡ six → short_price order.quantity order.price ≡ cents → effect_of (add_in_form six cents order 0) ≡ AddsOrder order
    by None cents s c = ap AddsOrder (expanded_order order)
    by (Some six) None s c = let plain = plain_is order six fits s in ap AddsOrder (long_order order six order.price plain.0.padded plain.1 refl)
    by (Some six) (Some cents) s c =
        let plain = plain_is order six fits s in
        let short = short_is order.quantity order.price cents c in
        ap AddsOrder (long_order order six (long_price cents) plain.0.padded plain.1 short.whole)

pub add_message_reads : (order : Order) → FitsWire order → reads (written (add_message order 0)) ≡ Ok (add_message order 0)
unfolding add_message
add_message_reads order fits = by (plain_symbol order) (short_price order.quantity order.price) refl refl
  where
    by : (six : Option (List ℕ)) (cents : Option ℕ) → plain_symbol order ≡ six → short_price order.quantity order.price ≡ cents → reads (written (add_in_form six cents order 0)) ≡ Ok (add_in_form six cents order 0)
    by None cents s c = message_back (AddExpanded 0 order.id order.side order.quantity order.symbol order.price (flags_of order.display) order.participant) (omega arith, (fits.id, (tt, (fits.quantity, (fits.symbol, (fits.price, (tt, (fits.participant, tt))))))))
    by (Some six) None s c = let plain = plain_is order six fits s in message_back (AddLong 0 order.id order.side order.quantity six order.price (flags_of order.display)) (omega arith, (fits.id, (tt, (fits.quantity, (plain.0.size, (fits.price, (tt, tt)))))))
    by (Some six) (Some cents) s c =
        let plain = plain_is order six fits s in
        let short = short_is order.quantity order.price cents c in
        message_back (AddShort 0 order.id order.side order.quantity six cents (flags_of order.display)) (omega arith, (fits.id, (tt, (short.few, (plain.0.size, (short.low, (tt, tt)))))))

-- ---- The image
adds_read : (es : List (ℕ × Order)) → AllByRecursion (λ e. FitsWire e.1) es → AllByRecursion (λ m. reads (written m) ≡ Ok m) (map (λ order. add_message order 0) (map (λ e. e.1) es))
adds_read [] all = tt
adds_read (e ∷ es) all = (add_message_reads e.1 all.0, adds_read es all.1)

image_reads : (second : Option ℕ) (messages : List Message) → ((n : ℕ) → second ≡ Some n → n < 256 ^ 4) → AllByRecursion (λ m. reads (written m) ≡ Ok m) messages → AllByRecursion (λ m. reads (written m) ≡ Ok m) (clock_of second ++ messages)
image_reads None messages fits all = all
image_reads (Some second) messages fits all = (message_back (Time second) (fits second refl, tt), all)

statuses_read : (es : List (List ℕ × (ℕ × ℕ))) → AllByRecursion (λ e. FitsStatus e.0 e.1) es → AllByRecursion (λ m. reads (written m) ≡ Ok m) (map (λ state. status_message state 0) (map symbol_state es))
statuses_read [] all = tt
statuses_read (e ∷ es) all = (message_back (TradingStatus 0 e.0 e.1.0 e.1.1) (omega arith, (all.0.symbol, (tt, (tt, (tt, tt))))), statuses_read es all.1)

-- the image of a book leaves that book
pub image_of_leaves : (book : Book) → IsBook book → IsWireBook book → book_after (image_of book) ≡ book
image_of_leaves book is wire =
    image_leaves book is (λ id order g. add_message_adds order (wire.orders id order g))
    (image_reads book.second (added_of book ++ shown_of book) wire.clock
    (all_append (λ m. reads (written m) ≡ Ok m) (added_of book) (shown_of book)
    (adds_read (finite.entries book.orders) (all_entries nat_cmp_total finite.nat_cmp-IsAntisymmetric (λ id order. FitsWire order) book.orders wire.orders))
    (statuses_read (finite.entries book.statuses) (all_entries nat_list_cmp_total (finite.slice_cmp-IsAntisymmetric finite.nat_cmp-IsAntisymmetric) FitsStatus book.statuses wire.statuses))))

-- the image through a sequence leaves the book that the messages up to it leave
pub image_book : (V : List (List ℕ)) (s : ℕ) → AllByRecursion AreBytes V → book_after (image V s) ≡ book_after (take s V)
unfolding image
image_book V s all = image_of_leaves (book_after (take s V)) (book_after_book (take s V)) (book_after_fits (take s V) (all_take AreBytes s V all))

pub image_is : (V : List (List ℕ)) (s : ℕ) → image V s ≡ image_of (book_after (take s V))
unfolding image
image_is V s = refl
