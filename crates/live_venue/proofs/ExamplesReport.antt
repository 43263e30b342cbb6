-- Worked examples of what is reported, computed by the definitions. What came stands newest first.
use Rattle.std.proofs.Common.{◌≡◌, ℕ, List, [], ◌∷◌, ◌++◌, map as mapped, codes, Option, Some, None, refl, ap, ◌∙◌}
use Rattle.std.specs.Fmt.{digits}
use Rattle.std.specs.FinMap as map
use Rattle.std.specs.List.{flat_map}
use Rattle.std.specs.Ordering.{nat_cmp}
use Rattle.std.proofs.lemmas.Cmp.{nat_cmp_total}
use Rattle.pitch_fields.specs.Name.{name_shown}
use Rattle.pitch_messages.specs.Reading.{reads}
use Rattle.pitch_messages.specs.Writing.{written}
use Rattle.pitch_messages.specs.declared.order.Order.{Order}
use Rattle.pitch_model.specs.Book.{Book, after, book_after}
use Rattle.pitch_model.specs.Statuses.{statuses_of, symbol_state}
use Rattle.pitch_model.proofs.Examples.{book_of_a_grown_add, clock, grown, no_entries, no_orders, no_statuses, one_order, sold, unknown}
use Rattle.pitch_text.specs.declared.command.Command.TheVariants.{Time}
use Rattle.feed_lines.specs.BookText.{book_head, book_orders, book_text, order_line, status_line}
use Rattle.stream_print.specs.Rising.{named_below}
use Rattle.venue_end.specs.Came.{Commanded}
use Rattle.venue_units.specs.Coming.{UnitCame, to_unit}
use Rattle.live_venue.specs.Report.{report_text, whole_book}
use Rattle.live_venue.proofs.Examples.{made_for}

-- ---- A book's text, by its parts
shown : (unit n : ℕ) (second : Option ℕ) (count : ℕ) (es : List (ℕ × Order)) (book : Book) → book.second ≡ second → map.len book.orders ≡ count → map.entries book.orders ≡ es → map.entries book.statuses ≡ []
    → book_text unit n book ≡ (book_head unit n second count ++ flat_map (λ e. order_line e.0 e.1) es) ++ []
unfolding book_text book_orders
shown unit n second count es book s l e t =
    ap (λ (o : Option ℕ). (book_head unit n o (map.len book.orders) ++ flat_map (λ e. order_line e.0 e.1) (map.entries book.orders)) ++ flat_map status_line (statuses_of book)) s
    ∙ ap (λ (k : ℕ). (book_head unit n second k ++ flat_map (λ e. order_line e.0 e.1) (map.entries book.orders)) ++ flat_map status_line (statuses_of book)) l
    ∙ ap (λ (xs : List (ℕ × Order)). (book_head unit n second count ++ flat_map (λ e. order_line e.0 e.1) xs) ++ flat_map status_line (statuses_of book)) e
    ∙ ap (λ (xs : List (List ℕ × (ℕ × ℕ))). (book_head unit n second count ++ flat_map (λ e. order_line e.0 e.1) es) ++ flat_map status_line (mapped symbol_state xs)) t

entries_of_none : map.entries no_orders ≡ []
entries_of_none = no_entries no_orders (map.len-empty nat_cmp Order)

-- ---- Two units
-- with the indices 0 and 1; to the second two messages came, and to the first none
abbrev two_seconds : List UnitCame
two_seconds = to_unit 1 (Commanded (Time 34)) ∷ to_unit 1 (Commanded (Time 33)) ∷ []

abbrev second_of : ℕ → List ℕ
second_of n = 6 ∷ 0x20 ∷ n ∷ 0 ∷ 0 ∷ 0 ∷ []

-- the unit with the lower number stands first, and one without messages too
by_number : report_text (made_for 9 ∷ made_for 7 ∷ []) two_seconds ≡ whole_book 7 (second_of 33 ∷ second_of 34 ∷ []) ++ (whole_book 9 [] ++ [])
unfolding named_below reads written
by_number = refl

-- a number that stands twice has the book of the first unit alone
of_the_first : report_text (made_for 7 ∷ made_for 7 ∷ []) two_seconds ≡ whole_book 7 [] ++ []
unfolding named_below reads written
of_the_first = refl

of_two_messages : whole_book 7 (second_of 33 ∷ second_of 34 ∷ []) ≡ codes "book unit 7 at 2 second 34 orders 0\n"
unfolding after reads digits
of_two_messages = shown 7 2 (Some 34) 0 [] (book_after (second_of 33 ∷ second_of 34 ∷ [])) refl (map.len-empty nat_cmp Order) entries_of_none no_statuses

of_no_message : whole_book 9 [] ≡ codes "book unit 9 at 0 second - orders 0\n"
unfolding digits
of_no_message = shown 9 0 None 0 [] (book_after []) refl (map.len-empty nat_cmp Order) entries_of_none no_statuses

two_units : report_text (made_for 9 ∷ made_for 7 ∷ []) two_seconds ≡ codes "book unit 7 at 2 second 34 orders 0\nbook unit 9 at 0 second - orders 0\n"
two_units =
    by_number
    ∙ ap (λ (t : List ℕ). t ++ (whole_book 9 [] ++ [])) of_two_messages
    ∙ ap (λ (t : List ℕ). codes "book unit 7 at 2 second 34 orders 0\n" ++ (t ++ [])) of_no_message

-- ---- A unit with an open order
of_an_order : whole_book 1 (clock ∷ unknown ∷ grown ∷ []) ≡ codes "book unit 1 at 3 second 34200 orders 1\norder 5 B 100 IBM 10.0000\n"
unfolding order_line name_shown digits
of_an_order =
    ap (book_text 1 3) book_of_a_grown_add
    ∙ shown 1 3 (Some 34200) 1 ((5, sold) ∷ []) _ refl one_order (map.entries-insert nat_cmp_total no_orders 5 sold ∙ ap (map.put nat_cmp 5 sold) entries_of_none) no_statuses
