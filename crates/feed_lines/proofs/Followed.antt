-- Worked examples of `follow`, computed by the definitions.
use Rattle.std.proofs.Common.{◌≡◌, ℕ, ◌++◌, true, false, List, [], ◌∷◌, reverse, map as mapped, refl, ap, ◌∙◌, ◌-◌, cond, codes, Option, Some, None}
use Rattle.std.specs.Option.{is_some}
use Rattle.std.specs.List.{flat_map}
use Rattle.std.specs.Ordering.{nat_cmp}
use Rattle.std.specs.FinMap as map
use Rattle.std.proofs.lemmas.Cmp.{nat_cmp_total, nat_list_cmp_total}
use Rattle.std.specs.Fmt.{digits}
use Rattle.pitch_fields.specs.Name.{name_shown}
use Rattle.pitch_fields.specs.declared.side.Side.TheVariants.{Buy, Sell}
use Rattle.pitch_messages.specs.declared.order.Order.{Order}
use Rattle.pitch_messages.specs.Reading.{reads}
use Rattle.pitch_model.specs.Book.{Book, symbol_cmp, after, book_after}
use Rattle.pitch_model.specs.Reach.{reach_of, held_count}
use Rattle.pitch_model.specs.Statuses.{symbol_state, statuses_of}
use Rattle.pitch_model.proofs.Examples.{clock, order, deletion, unknown, grown, sold, no_orders, one_sold, one_order, no_entries, no_statuses, book_of_a_grown_add}
use Rattle.heard_items.proofs.Examples.{block, stream, venue}
use Rattle.feed_lines.specs.BookText.{book_head, book_orders, book_text, order_line, status_line}
use Rattle.feed_lines.specs.Follow.{block_line, lines_after, books_of, follow_text}
use Rattle.feed_lines.specs.Texts.{texts_after}

-- ---- The lines of a stream
abbrev text_of_lines : List ℕ
text_of_lines =
    codes "block 1 unit 1 first 1 count 1; current 1\n"
    ++ codes "block 2 unit 1 first 2 count 1; current 2\n"
    ++ codes "block 3 unit 1 first 4 count 0; behind 2 of 3\n"
    ++ codes "block 4 unit 1 first 3 count 1; current 3\n"

lines_of_a_stream : lines_after 4096 [] stream ≡ text_of_lines
unfolding reach_of held_count texts_after block_line digits
lines_of_a_stream = refl

mark_of_an_overflow : lines_after 2 [] (block 3 (clock ∷ clock ∷ clock ∷ []) ∷ []) ≡ codes "block 1 unit 1 first 3 count 3 overflow; behind 0 of 5\n"
unfolding reach_of held_count texts_after block_line digits
mark_of_an_overflow = refl

-- a heartbeat alone, and an unsequenced block
line_of_a_heartbeat : lines_after 4096 [] (block 1 [] ∷ []) ≡ codes "block 1 unit 1 first 1 count 0; current 0\n"
unfolding reach_of held_count texts_after block_line digits
line_of_a_heartbeat = refl

line_of_an_unsequenced_block : lines_after 4096 [] (block 0 [] ∷ []) ≡ codes "block 1 unit 1 first 0 count 0; silent\n"
unfolding reach_of held_count texts_after block_line digits
line_of_an_unsequenced_block = refl

text_of_nothing : follow_text 4096 (λ unit. []) [] ≡ []
unfolding texts_after
text_of_nothing = refl

-- ---- The text of a book
line_of_an_order : order_line 5 (record { id = 5; side = Buy; quantity = 100; symbol = codes "IBM     "; price = 100000; display = true; participant = codes "    " })
    ≡ codes "order 5 B 100 IBM 10.0000\n"
unfolding order_line name_shown digits
line_of_an_order = refl

line_of_a_hidden_order : order_line 7 (record { id = 7; side = Sell; quantity = 1; symbol = codes "A.B     "; price = 5; display = false; participant = codes "MM  " })
    ≡ codes "order 7 S 1 A.B 0.0005 hidden mpid=MM\n"
unfolding order_line name_shown digits
line_of_a_hidden_order = refl

head_without_a_clock : book_head 2 0 None 0 ≡ codes "book unit 2 at 0 second - orders 0\n"
unfolding digits
head_without_a_clock = refl

line_of_a_status : status_line (record { symbol = codes "IBM     "; halt = 72; sho = 48 }) ≡ codes "status IBM H 0\n"
unfolding status_line name_shown digits
line_of_a_status = refl

-- each byte is shown as a symbol of one byte is, a space too
line_of_a_status_of_odd_bytes : status_line (record { symbol = codes "IBM     "; halt = 32; sho = 255 }) ≡ codes "status IBM \\x20 \\xff\n"
unfolding status_line name_shown digits
line_of_a_status_of_odd_bytes = refl

-- a book with so many orders, and with these entries of orders and of statuses
shown : (unit n second count : ℕ) (es : List (ℕ × Order)) (ss : List (List ℕ × (ℕ × ℕ))) (book : Book) → book.second ≡ Some second → map.len book.orders ≡ count → map.entries book.orders ≡ es → map.entries book.statuses ≡ ss
    → book_text unit n book ≡ (book_head unit n (Some second) count ++ flat_map (λ e. order_line e.0 e.1) es) ++ flat_map status_line (mapped symbol_state ss)
unfolding book_text book_orders
shown unit n second count es ss book s l e t =
    ap (λ (o : Option ℕ). (book_head unit n o (map.len book.orders) ++ flat_map (λ e. order_line e.0 e.1) (map.entries book.orders)) ++ flat_map status_line (statuses_of book)) s
    ∙ ap (λ (k : ℕ). (book_head unit n (Some second) k ++ flat_map (λ e. order_line e.0 e.1) (map.entries book.orders)) ++ flat_map status_line (statuses_of book)) l
    ∙ ap (λ (xs : List (ℕ × Order)). (book_head unit n (Some second) count ++ flat_map (λ e. order_line e.0 e.1) xs) ++ flat_map status_line (statuses_of book)) e
    ∙ ap (λ (xs : List (List ℕ × (ℕ × ℕ))). (book_head unit n (Some second) count ++ flat_map (λ e. order_line e.0 e.1) es) ++ flat_map status_line (mapped symbol_state xs)) t

entries_of_one : map.entries one_sold ≡ (5, sold) ∷ []
entries_of_one = map.entries-insert nat_cmp_total no_orders 5 sold ∙ ap (map.put nat_cmp 5 sold) (no_entries no_orders (map.len-empty nat_cmp Order))

text_of_an_open_order : book_text 1 3 (book_after (clock ∷ unknown ∷ grown ∷ [])) ≡ codes "book unit 1 at 3 second 34200 orders 1\norder 5 B 100 IBM 10.0000\n"
unfolding order_line name_shown digits
text_of_an_open_order =
    ap (book_text 1 3) book_of_a_grown_add
    ∙ shown 1 3 34200 1 ((5, sold) ∷ []) [] _ refl one_order entries_of_one no_statuses

-- an order that is deleted is gone
text_of_an_empty_book : book_text 1 3 (book_after (clock ∷ order ∷ deletion ∷ [])) ≡ codes "book unit 1 at 3 second 34200 orders 0\n"
unfolding after reads digits
text_of_an_empty_book = shown 1 3 34200 0 [] [] (book_after (clock ∷ order ∷ deletion ∷ [])) refl none (no_entries (map.remove one_sold 5) none) no_statuses
  where
    none : map.len (map.remove one_sold 5) ≡ 0
    none = map.len-remove nat_cmp_total one_sold 5
        ∙ ap (λ (o : Option Order). cond (is_some o) (map.len one_sold - 1) (map.len one_sold)) (map.get-insert nat_cmp_total no_orders 5 sold 5)
        ∙ ap (λ (k : ℕ). k - 1) one_order

-- statuses stand behind the orders, by their symbols and not as they came
abbrev trading_status : List ℕ → ℕ → ℕ → List ℕ
trading_status symbol halt sho = 0x12 ∷ 0x31 ∷ 0 ∷ 0 ∷ 0 ∷ 0 ∷ (symbol ++ halt ∷ sho ∷ 32 ∷ 32 ∷ [])

abbrev halted : map.FinMap symbol_cmp (ℕ × ℕ)
halted = map.insert map.empty (codes "IBM     ") (72, 48)

abbrev both_halted : map.FinMap symbol_cmp (ℕ × ℕ)
both_halted = map.insert halted (codes "AAPL    ") (72, 49)

book_of_two_statuses : book_after (clock ∷ grown ∷ trading_status (codes "IBM     ") 72 48 ∷ trading_status (codes "AAPL    ") 72 49 ∷ []) ≡ record { second = Some 34200; orders = one_sold; statuses = both_halted }
unfolding after reads
book_of_two_statuses = refl

text_of_two_statuses : book_text 1 4 (book_after (clock ∷ grown ∷ trading_status (codes "IBM     ") 72 48 ∷ trading_status (codes "AAPL    ") 72 49 ∷ []))
    ≡ codes "book unit 1 at 4 second 34200 orders 1\norder 5 B 100 IBM 10.0000\n" ++ codes "status AAPL H 1\nstatus IBM H 0\n"
unfolding order_line status_line name_shown digits
text_of_two_statuses =
    ap (book_text 1 4) book_of_two_statuses
    ∙ shown 1 4 34200 1 ((5, sold) ∷ []) ((codes "AAPL    ", (72, 49)) ∷ (codes "IBM     ", (72, 48)) ∷ []) _ refl one_order entries_of_one
    (map.entries-insert nat_list_cmp_total halted (codes "AAPL    ") (72, 49)
    ∙ ap (map.put symbol_cmp (codes "AAPL    ") (72, 49)) (map.entries-insert nat_list_cmp_total map.empty (codes "IBM     ") (72, 48) ∙ ap (map.put symbol_cmp (codes "IBM     ") (72, 48)) no_statuses))

-- ---- The whole text of a stream, which is honest (`stream_is_honest`)
text_of_a_stream : follow_text 4096 venue stream
    ≡ text_of_lines ++ codes "book unit 1 at 3 second 34200 orders 0\n"
unfolding reach_of held_count
text_of_a_stream =
    ap (λ (t : List ℕ). t ++ books_of 4096 venue (reverse stream)) lines_of_a_stream
    ∙ ap (λ (t : List ℕ). text_of_lines ++ (t ++ [])) text_of_an_empty_book
