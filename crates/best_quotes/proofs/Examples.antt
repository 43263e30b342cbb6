-- Worked examples, computed by the definitions.
use Rattle.std.proofs.Common.{◌≡◌, ℕ, ◌==◌, Bool, true, false, cond, ◌&&◌, ◌||◌, List, [], ◌∷◌, ◌++◌, map, filter, Option, None, Some, refl, sym, ap, ◌∙◌, codes, bytes_eq}
use Rattle.std.specs.Prelude.{sum_by, option_map}
use Rattle.std.specs.List.{list_any, flat_map}
use Rattle.std.specs.List.Sorted.{IsStrictlySortedBy}
use Rattle.std.specs.Ordering.{nat_cmp, eq_by_cmp}
use Rattle.std.specs.Cmp.Lexicographic.{slice_cmp}
use Rattle.std.specs.FinMap as finite
use Rattle.std.specs.Fmt.{digits}
use Rattle.std.proofs.lemmas.Cmp.{nat_cmp_total}
use Rattle.std.proofs.lemmas.List.{nil_from_length}
use Rattle.pitch_fields.proofs.Keys.{tied}
use Rattle.pitch_fields.specs.declared.side.Side.{Side}
use Rattle.pitch_fields.specs.declared.side.Side.TheVariants.{Buy, Sell}
use Rattle.pitch_fields.specs.Name.{name_shown}
use Rattle.pitch_messages.specs.Reading.{reads}
use Rattle.pitch_messages.specs.declared.order.Order.{Order}
use Rattle.pitch_model.specs.Book.{Book, empty_book, with_order, without_order, after, book_after}
use Rattle.pitch_model.specs.History.{Raw}
use Rattle.pitch_model.specs.Levels.{orders_of, same_side, best_of, best, level}
use Rattle.best_quotes.specs.Changes.{same_best, change_between, change_on, changes}
use Rattle.best_quotes.specs.Quoting.{numbered, quotes_after}
use Rattle.best_quotes.specs.QuotesText.{quote_line}
use Rattle.best_quotes.specs.declared.quote.Quote.{Quote}
use Rattle.best_quotes.specs.declared.quote.QuoteLine.{QuoteLine}
use Rattle.best_quotes.proofs.Telling.{none_on}
use Rattle.best_quotes.proofs.Listing.{both_stay, changes_of}

abbrev ibm : List ℕ
ibm = codes "IBM     "

abbrev order : ℕ → Side → ℕ → ℕ → Order
order id side quantity price = record { id = id; side = side; quantity = quantity; symbol = ibm; price = price; display = true; participant = codes "    " }

abbrev quote : Side → Option (ℕ × ℕ) → Quote
quote side best = record { symbol = ibm; side = side; best = best }

-- ---- Books whose orders are all of one symbol, by the list of their orders
abbrev listed : List Order → Side → List Order
listed os side = filter (λ order. bytes_eq ibm order.symbol && same_side side order.side) os

abbrev best_in : List Order → Side → Option (ℕ × ℕ)
best_in os side = option_map (λ price. (price, sum_by (λ order. order.quantity) (filter (λ order. price == order.price) (listed os side)))) (best_of side (map (λ order. order.price) (listed os side)))

abbrev changes_in : List Order → List Order → List Quote
changes_in os ns = change_between ibm Buy (best_in os Buy) (best_in ns Buy) ++ change_between ibm Sell (best_in os Sell) (best_in ns Sell)

best_is : (book : Book) (os : List Order) (side : Side) → orders_of book ≡ os → best book ibm side ≡ best_in os side
unfolding best level
best_is book os side e = ap (λ (l : List Order). best_in l side) e

abbrev is_named : List ℕ → List Order → Bool
is_named q os = list_any (λ order. eq_by_cmp (slice_cmp nat_cmp) q order.symbol) os

-- no order is of another symbol
abbrev IsAlone : List Order → Type 0
IsAlone os = (q : List ℕ) → list_any (eq_by_cmp (slice_cmp nat_cmp) q) (ibm ∷ []) ≡ false → is_named q os ≡ false

rises : IsStrictlySortedBy (slice_cmp nat_cmp) (ibm ∷ [])
unfolding IsStrictlySortedBy
rises = (tt, tt)

changes_are : (old new : Book) (os ns : List Order) → orders_of old ≡ os → orders_of new ≡ ns → IsAlone os → IsAlone ns → changes old new ≡ changes_in os ns ++ []
changes_are old new os ns was is alone alone' =
    changes_of old new (ibm ∷ []) rises (λ q none. both_stay old new q (λ side. ap (λ (p : Option (ℕ × ℕ)). same_best p (best new q side)) (apart old os q side was (alone q none)) ∙ ap (same_best None) (apart new ns q side is (alone' q none))))
    ∙ ap (λ (p : Option (ℕ × ℕ)). (change_between ibm Buy p (best new ibm Buy) ++ change_on old new ibm Sell) ++ []) (best_is old os Buy was)
    ∙ ap (λ (p : Option (ℕ × ℕ)). (change_between ibm Buy (best_in os Buy) p ++ change_on old new ibm Sell) ++ []) (best_is new ns Buy is)
    ∙ ap (λ (p : Option (ℕ × ℕ)). (change_between ibm Buy (best_in os Buy) (best_in ns Buy) ++ change_between ibm Sell p (best new ibm Sell)) ++ []) (best_is old os Sell was)
    ∙ ap (λ (p : Option (ℕ × ℕ)). (change_between ibm Buy (best_in os Buy) (best_in ns Buy) ++ change_between ibm Sell (best_in os Sell) p) ++ []) (best_is new ns Sell is)
  where
    apart : (book : Book) (xs : List Order) (q : List ℕ) (side : Side) → orders_of book ≡ xs → is_named q xs ≡ false → best book q side ≡ None
    apart book xs q side e none = none_on book q side (ap (is_named q) e ∙ none)

no_entries : finite.entries empty_book.orders ≡ []
no_entries = nil_from_length (finite.entries empty_book.orders) (sym (finite.len-entries empty_book.orders) ∙ finite.len-empty nat_cmp Order)

one_entry : (a : Order) → finite.entries (with_order empty_book 1 a).orders ≡ (1, a) ∷ []
one_entry a = finite.entries-insert nat_cmp_total empty_book.orders 1 a ∙ ap (finite.put nat_cmp 1 a) no_entries

two_entries : (a b : Order) → finite.entries (with_order (with_order empty_book 1 a) 2 b).orders ≡ (1, a) ∷ (2, b) ∷ []
two_entries a b = finite.entries-insert nat_cmp_total (with_order empty_book 1 a).orders 2 b ∙ ap (finite.put nat_cmp 2 b) (one_entry a)

three_entries : (a b d : Order) → finite.entries (with_order (with_order (with_order empty_book 1 a) 2 b) 3 d).orders ≡ (1, a) ∷ (2, b) ∷ (3, d) ∷ []
three_entries a b d = finite.entries-insert nat_cmp_total (with_order (with_order empty_book 1 a) 2 b).orders 3 d ∙ ap (finite.put nat_cmp 3 d) (two_entries a b)

abbrev values : List (ℕ × Order) → List Order
values es = map (λ (e : ℕ × Order). e.1) es

none_alone : IsAlone []
none_alone q none = refl

one_alone : (a : Order) → a.symbol ≡ ibm → IsAlone (a ∷ [])
one_alone a is q none = ap (λ (s : List ℕ). eq_by_cmp (slice_cmp nat_cmp) q s || false) is ∙ none

more_alone : (a : Order) (os : List Order) → a.symbol ≡ ibm → IsAlone os → IsAlone (a ∷ os)
more_alone a os is alone q none =
    ap (λ (b : Bool). eq_by_cmp (slice_cmp nat_cmp) q a.symbol || b) (alone q none) ∙ one_alone a is q none

-- ---- Orders of 100 and of 50 at 10.00, and one of 10 at 9.99 behind them
abbrev first : Order
first = order 1 Buy 100 100000

abbrev book_of_one : Book
book_of_one = with_order empty_book 1 first

first_is_told : changes empty_book book_of_one ≡ quote Buy (Some (100000, 100)) ∷ []
first_is_told = changes_are empty_book book_of_one [] (first ∷ []) (ap values no_entries) (ap values (one_entry first)) none_alone (one_alone first refl)

abbrev second : Order
second = order 2 Buy 50 100000

abbrev book_of_two : Book
book_of_two = with_order book_of_one 2 second

more_at_the_best_is_told : changes book_of_one book_of_two ≡ quote Buy (Some (100000, 150)) ∷ []
more_at_the_best_is_told =
    changes_are book_of_one book_of_two (first ∷ []) (first ∷ second ∷ []) (ap values (one_entry first)) (ap values (two_entries first second)) (one_alone first refl) (more_alone first (second ∷ []) refl (one_alone second refl))

abbrev behind : Order
behind = order 3 Buy 10 99900

abbrev book_of_three : Book
book_of_three = with_order book_of_two 3 behind

behind_the_best_nothing_is_told : changes book_of_two book_of_three ≡ []
behind_the_best_nothing_is_told =
    changes_are book_of_two book_of_three (first ∷ second ∷ []) (first ∷ second ∷ behind ∷ []) (ap values (two_entries first second)) (ap values (three_entries first second behind)) (more_alone first (second ∷ []) refl (one_alone second refl))
    (more_alone first (second ∷ behind ∷ []) refl (more_alone second (behind ∷ []) refl (one_alone behind refl)))

-- the order behind the best is deleted
taken_again : (m : finite.FinMap nat_cmp Order) (k : ℕ) (v : Order) → finite.get m k ≡ None → finite.remove (finite.insert m k v) k ≡ m
taken_again m k v absent = finite.same_map nat_cmp_total finite.nat_cmp-IsAntisymmetric (finite.remove (finite.insert m k v) k) m
    (λ q. finite.get-remove nat_cmp_total (finite.insert m k v) k q ∙ ap (cond (eq_by_cmp nat_cmp q k) None) (finite.get-insert nat_cmp_total m k v q) ∙ by q (eq_by_cmp nat_cmp q k) refl)
  where
    by : (q : ℕ) (b : Bool) → eq_by_cmp nat_cmp q k ≡ b → cond b None (cond b (Some v) (finite.get m q)) ≡ finite.get m q
    by q true same = sym (ap (finite.get m) (tied q k same) ∙ absent)
    by q false other = refl

third_is_absent : finite.get book_of_two.orders 3 ≡ None
third_is_absent = finite.get-insert nat_cmp_total book_of_one.orders 2 second 3 ∙ finite.get-insert nat_cmp_total empty_book.orders 1 first 3 ∙ finite.get-empty nat_cmp 3

deleted_is_before : without_order book_of_three 3 ≡ book_of_two
deleted_is_before = ap (λ (orders : finite.FinMap nat_cmp Order). record book_of_two { orders = orders }) (taken_again book_of_two.orders 3 behind third_is_absent)

a_deletion_behind_the_best_tells_nothing : changes book_of_three (without_order book_of_three 3) ≡ []
a_deletion_behind_the_best_tells_nothing =
    ap (changes book_of_three) deleted_is_before
    ∙ changes_are book_of_three book_of_two (first ∷ second ∷ behind ∷ []) (first ∷ second ∷ []) (ap values (three_entries first second behind)) (ap values (two_entries first second))
    (more_alone first (second ∷ behind ∷ []) refl (more_alone second (behind ∷ []) refl (one_alone behind refl))) (more_alone first (second ∷ []) refl (one_alone second refl))

-- ---- Both sides become empty, to buy before to sell
abbrev sold : Order
sold = order 2 Sell 5 100500

abbrev book_of_both : Book
book_of_both = with_order book_of_one 2 sold

other_side_is_told : changes book_of_one book_of_both ≡ quote Sell (Some (100500, 5)) ∷ []
other_side_is_told =
    changes_are book_of_one book_of_both (first ∷ []) (first ∷ sold ∷ []) (ap values (one_entry first)) (ap values (two_entries first sold)) (one_alone first refl) (more_alone first (sold ∷ []) refl (one_alone sold refl))

emptied_sides_are_told : changes book_of_both empty_book ≡ quote Buy None ∷ quote Sell None ∷ []
emptied_sides_are_told =
    changes_are book_of_both empty_book (first ∷ sold ∷ []) [] (ap values (two_entries first sold)) (ap values no_entries) (more_alone first (sold ∷ []) refl (one_alone sold refl)) none_alone

-- ---- One side becomes empty
emptied_is_told : changes book_of_one empty_book ≡ quote Buy None ∷ []
emptied_is_told = changes_are book_of_one empty_book (first ∷ []) [] (ap values (one_entry first)) (ap values no_entries) (one_alone first refl) none_alone

-- ---- Lines
abbrev line : ℕ → Quote → QuoteLine
line k q = record { sequence = k; quote = q }

a_line_has_price_and_shares : quote_line 1 (line 2 (quote Buy (Some (100000, 150)))) ≡ codes "quote unit 1 at 2 IBM B 10.0000 150\n"
unfolding quote_line name_shown digits
a_line_has_price_and_shares = refl

an_empty_side_has_dashes : quote_line 1 (line 3 (quote Sell None)) ≡ codes "quote unit 1 at 3 IBM S - -\n"
unfolding quote_line name_shown digits
an_empty_side_has_dashes = refl

-- ---- The messages of a venue: adds of the three orders above, and a deletion of the third
abbrev add_of_first : Raw
add_of_first = 0x1A ∷ 0x22 ∷ 0 ∷ 0 ∷ 0 ∷ 0 ∷ 1 ∷ 0 ∷ 0 ∷ 0 ∷ 0 ∷ 0 ∷ 0 ∷ 0 ∷ 0x42 ∷ 100 ∷ 0 ∷ 0x49 ∷ 0x42 ∷ 0x4D ∷ 0x20 ∷ 0x20 ∷ 0x20 ∷ 0xE8 ∷ 3 ∷ 1 ∷ []

abbrev add_of_second : Raw
add_of_second = 0x1A ∷ 0x22 ∷ 0 ∷ 0 ∷ 0 ∷ 0 ∷ 2 ∷ 0 ∷ 0 ∷ 0 ∷ 0 ∷ 0 ∷ 0 ∷ 0 ∷ 0x42 ∷ 50 ∷ 0 ∷ 0x49 ∷ 0x42 ∷ 0x4D ∷ 0x20 ∷ 0x20 ∷ 0x20 ∷ 0xE8 ∷ 3 ∷ 1 ∷ []

abbrev add_behind : Raw
add_behind = 0x1A ∷ 0x22 ∷ 0 ∷ 0 ∷ 0 ∷ 0 ∷ 3 ∷ 0 ∷ 0 ∷ 0 ∷ 0 ∷ 0 ∷ 0 ∷ 0 ∷ 0x42 ∷ 10 ∷ 0 ∷ 0x49 ∷ 0x42 ∷ 0x4D ∷ 0x20 ∷ 0x20 ∷ 0x20 ∷ 0xE7 ∷ 3 ∷ 1 ∷ []

abbrev deletion : Raw
deletion = 0x0E ∷ 0x29 ∷ 0 ∷ 0 ∷ 0 ∷ 0 ∷ 3 ∷ 0 ∷ 0 ∷ 0 ∷ 0 ∷ 0 ∷ 0 ∷ 0 ∷ []

abbrev venue : List Raw
venue = add_of_first ∷ add_of_second ∷ add_behind ∷ deletion ∷ []

first_is_after : book_after (add_of_first ∷ []) ≡ book_of_one
unfolding after reads
first_is_after = refl

second_is_after : book_after (add_of_first ∷ add_of_second ∷ []) ≡ book_of_two
unfolding after reads
second_is_after = refl

behind_is_after : book_after (add_of_first ∷ add_of_second ∷ add_behind ∷ []) ≡ book_of_three
unfolding after reads
behind_is_after = refl

deletion_is_after : book_after venue ≡ without_order book_of_three 3
unfolding after reads
deletion_is_after = refl

-- the changes of a message, by the books before and after it
steps_from : (k : ℕ) (old new old' new' : Book) (told : List Quote) → old ≡ old' → new ≡ new' → changes old' new' ≡ told → numbered k (changes old new) ≡ numbered k told
steps_from k old new old' new' told was is tells = ap (λ (book : Book). numbered k (changes book new)) was ∙ ap (λ (book : Book). numbered k (changes old' book)) is ∙ ap (numbered k) tells

-- of four messages two change the best
abbrev told_of_four : List QuoteLine
told_of_four = line 1 (quote Buy (Some (100000, 100))) ∷ line 2 (quote Buy (Some (100000, 150))) ∷ []

two_of_four_are_told : quotes_after venue 0 4 ≡ told_of_four
two_of_four_are_told =
    ap (λ (ls : List QuoteLine). ls ++ quotes_after venue 1 3) (steps_from 1 (book_after []) (book_after (add_of_first ∷ [])) empty_book book_of_one (quote Buy (Some (100000, 100)) ∷ []) refl first_is_after first_is_told)
    ∙ ap (λ (ls : List QuoteLine). line 1 (quote Buy (Some (100000, 100))) ∷ (ls ++ quotes_after venue 2 2))
    (steps_from 2 (book_after (add_of_first ∷ [])) (book_after (add_of_first ∷ add_of_second ∷ [])) book_of_one book_of_two (quote Buy (Some (100000, 150)) ∷ []) first_is_after second_is_after more_at_the_best_is_told)
    ∙ ap (λ (ls : List QuoteLine). told_of_four ++ (ls ++ quotes_after venue 3 1))
    (steps_from 3 (book_after (add_of_first ∷ add_of_second ∷ [])) (book_after (add_of_first ∷ add_of_second ∷ add_behind ∷ [])) book_of_two book_of_three [] second_is_after behind_is_after behind_the_best_nothing_is_told)
    ∙ ap (λ (ls : List QuoteLine). told_of_four ++ (ls ++ []))
    (steps_from 4 (book_after (add_of_first ∷ add_of_second ∷ add_behind ∷ [])) (book_after venue) book_of_three (without_order book_of_three 3) [] behind_is_after deletion_is_after a_deletion_behind_the_best_tells_nothing)

text_of_four : flat_map (quote_line 1) told_of_four ≡ codes "quote unit 1 at 1 IBM B 10.0000 100\nquote unit 1 at 2 IBM B 10.0000 150\n"
unfolding quote_line name_shown digits
text_of_four = refl
