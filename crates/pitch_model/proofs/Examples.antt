-- Worked examples, computed by the definitions.
use Rattle.std.proofs.Common.{◌≡◌, ℕ, true, false, List, [], ◌∷◌, ◌++◌, map as mapped, refl, sym, ap, ◌∙◌, arith, ◌+◌, cond, codes, Option, Some, None}
use Rattle.std.specs.List.{sum_by}
use Rattle.std.specs.Prelude.{filter, bytes_eq, ◌==◌, ◌&&◌}
use Rattle.std.specs.Option.{is_some, option_map}
use Rattle.std.specs.Ordering.{nat_cmp}
use Rattle.std.specs.FinMap as map
use Rattle.std.proofs.lemmas.Cmp.{nat_cmp_total, nat_list_cmp_total}
use Rattle.std.proofs.lemmas.List.{nil_from_length}
use Rattle.pitch_messages.specs.declared.order.Order.{Order}
use Rattle.pitch_messages.specs.declared.message.Message.TheVariants.{Time}
use Rattle.pitch_messages.specs.declared.trading_state.TradingState.{TradingState}
use Rattle.pitch_messages.specs.Forms.{add_message, status_message}
use Rattle.pitch_messages.specs.Reading.{reads}
use Rattle.pitch_messages.specs.Writing.{written}
use Rattle.pitch_model.specs.Book.{Book, symbol_cmp, empty_book, with_status, with_order, without_order, reformed, reduced_by, left_with, modified, is_displayed, after, book_after}
use Rattle.pitch_model.specs.History.{image_finished, can_promise, Entry, Message, Next, GrpUp, GrpDown, GapReply, SpinUp, SpinDown, Advertised, SpinReply, ImageMessages, SpinFinished, Ticked, NoSpin, Asked, Running, spin_of}
use Rattle.pitch_model.specs.Advertising.{Accept, Advertise, advertised_by, last_ten}
use Rattle.pitch_model.specs.Asking.{ask_of, wants, gap_ask, owes, is_grp_up, is_spin_up, advertised_of}
use Rattle.pitch_model.specs.Levels.{best, best_of, same_side, level, shares, with_level}
use Rattle.pitch_model.specs.Honest.{Honest}
use Rattle.pitch_model.specs.Image.{image_of, image}
use Rattle.pitch_model.specs.Statuses.{symbol_state}
use Rattle.pitch_model.specs.declared.ask.Ask.TheVariants.{Gap, Spin}
use Rattle.pitch_model.specs.Reach.{is_overflow, is_held, reach_of, held_count}
use Rattle.pitch_model.specs.Status.{status_of}
use Rattle.pitch_fields.specs.declared.side.Side.{Side}
use Rattle.pitch_fields.specs.declared.side.Side.TheVariants.{Buy, Sell}
use Rattle.pitch_model.specs.declared.status.Status.TheVariants.{Silent, Current, Behind}

-- a message, whose bytes do not matter
abbrev message : ℕ → Entry
message k = Message k []

-- ---- Messages out of order
-- 3 comes before 2
behind_while_a_message_is_missing : status_of 4096 (message 3 ∷ message 1 ∷ []) ≡ Behind 1 3
unfolding reach_of held_count
behind_while_a_message_is_missing = refl

current_once_the_gap_is_filled : status_of 4096 (message 2 ∷ message 3 ∷ message 1 ∷ []) ≡ Current 3
unfolding reach_of held_count
current_once_the_gap_is_filled = refl

-- ---- A hold of two places
-- 1, 3 and 5 came
abbrev three : List Entry
three = message 5 ∷ message 3 ∷ message 1 ∷ []

overflow_at_the_third_held : is_overflow 2 three (message 7) ≡ true
unfolding reach_of held_count
overflow_at_the_third_held = refl

behind_after_the_overflow : status_of 2 (message 7 ∷ three) ≡ Behind 1 7
unfolding reach_of held_count
behind_after_the_overflow = refl

three_is_dropped : is_held 2 (message 7 ∷ three) 3 ≡ false
unfolding reach_of held_count
three_is_dropped = refl

seven_is_held : is_held 2 (message 7 ∷ three) 7 ≡ true
unfolding reach_of held_count
seven_is_held = refl

current_once_all_came_again : status_of 2 (message 5 ∷ message 4 ∷ message 3 ∷ message 2 ∷ message 6 ∷ message 7 ∷ three) ≡ Current 7
unfolding reach_of held_count
current_once_all_came_again = refl

-- ---- A heartbeat alone
silent_at_first : status_of 4096 [] ≡ Silent
silent_at_first = refl

current_at_nothing : status_of 4096 (Next 1 ∷ []) ≡ Current 0
unfolding reach_of held_count
current_at_nothing = refl

behind_what_a_heartbeat_tells : status_of 4096 (Next 4 ∷ message 2 ∷ message 1 ∷ []) ≡ Behind 2 3
unfolding reach_of held_count
behind_what_a_heartbeat_tells = refl

-- ---- Messages
-- a clock, an order, and its deletion
abbrev pub clock : List ℕ
clock = 0x06 ∷ 0x20 ∷ 0x98 ∷ 0x85 ∷ 0 ∷ 0 ∷ []

abbrev pub order : List ℕ
order =
    0x22 ∷ 0x21 ∷ 0 ∷ 0 ∷ 0 ∷ 0 ∷ 5 ∷ 0 ∷ 0 ∷ 0 ∷ 0 ∷ 0 ∷ 0 ∷ 0 ∷ 0x42 ∷ 0x64 ∷ 0 ∷ 0 ∷ 0
    ∷ 0x49 ∷ 0x42 ∷ 0x4d ∷ 0x20 ∷ 0x20 ∷ 0x20 ∷ 0xa0 ∷ 0x86 ∷ 1 ∷ 0 ∷ 0 ∷ 0 ∷ 0 ∷ 0 ∷ 1 ∷ []

abbrev pub deletion : List ℕ
deletion = 0x0e ∷ 0x29 ∷ 0 ∷ 0 ∷ 0 ∷ 0 ∷ 5 ∷ 0 ∷ 0 ∷ 0 ∷ 0 ∷ 0 ∷ 0 ∷ 0 ∷ []

-- ---- Books
pub no_entries : (m : map.FinMap nat_cmp Order) → map.len m ≡ 0 → map.entries m ≡ []
no_entries m e = nil_from_length (map.entries m) (sym (map.len-entries m) ∙ e)

-- the order of the long add above
abbrev pub sold : Order
sold = record { id = 5; side = Buy; quantity = 100; symbol = codes "IBM     "; price = 100000; display = true; participant = codes "    " }

abbrev pub no_orders : map.FinMap nat_cmp Order
no_orders = map.empty

abbrev pub one_sold : map.FinMap nat_cmp Order
one_sold = map.insert no_orders 5 sold

-- a message of an unknown type does nothing, and what an add has past its length is ignored
abbrev pub unknown : List ℕ
unknown = 0x03 ∷ 0x99 ∷ 0x07 ∷ []

abbrev pub grown : List ℕ
grown =
    0x24 ∷ 0x21 ∷ 0 ∷ 0 ∷ 0 ∷ 0 ∷ 5 ∷ 0 ∷ 0 ∷ 0 ∷ 0 ∷ 0 ∷ 0 ∷ 0 ∷ 0x42 ∷ 0x64 ∷ 0 ∷ 0 ∷ 0
    ∷ 0x49 ∷ 0x42 ∷ 0x4d ∷ 0x20 ∷ 0x20 ∷ 0x20 ∷ 0xa0 ∷ 0x86 ∷ 1 ∷ 0 ∷ 0 ∷ 0 ∷ 0 ∷ 0 ∷ 1 ∷ 0xaa ∷ 0xbb ∷ []

pub book_of_a_grown_add : book_after (clock ∷ unknown ∷ grown ∷ []) ≡ record { second = Some 34200; orders = one_sold; statuses = map.empty }
unfolding after reads
book_of_a_grown_add = refl

pub one_order : map.len one_sold ≡ 1
one_order = map.len-insert nat_cmp_total no_orders 5 sold ∙ ap (λ (o : Option Order). cond (is_some o) (map.len no_orders) (map.len no_orders + 1)) (map.get-empty nat_cmp 5) ∙ ap (λ (k : ℕ). k + 1) (map.len-empty nat_cmp Order)

-- ---- An image
-- the add of that order in a short form, and then the image through it
abbrev short_add : List ℕ
short_add =
    0x1a ∷ 0x22 ∷ 0 ∷ 0 ∷ 0 ∷ 0 ∷ 5 ∷ 0 ∷ 0 ∷ 0 ∷ 0 ∷ 0 ∷ 0 ∷ 0 ∷ 0x42 ∷ 0x64 ∷ 0 ∷ 0x49 ∷ 0x42 ∷ 0x4d ∷ 0x20 ∷ 0x20 ∷ 0x20 ∷ 0xe8 ∷ 3 ∷ 1 ∷ []

pub no_statuses : map.entries (map.empty {X = ℕ × ℕ} {R = symbol_cmp}) ≡ []
no_statuses =
    let none : map.FinMap symbol_cmp (ℕ × ℕ) = map.empty in
    nil_from_length (map.entries none) (sym (map.len-entries none) ∙ map.len-empty symbol_cmp (ℕ × ℕ))

entries_of_one : map.entries one_sold ≡ (5, sold) ∷ []
entries_of_one = map.entries-insert nat_cmp_total no_orders 5 sold ∙ ap (map.put nat_cmp 5 sold) (no_entries no_orders (map.len-empty nat_cmp Order))

image_of_one_order : clock ∷ short_add ∷ [] ≡ image (clock ∷ order ∷ []) 2
unfolding after reads image image_of written add_message
image_of_one_order =
    sym (λ i. mapped written (Time 34200 ∷ (mapped (λ (o : Order). add_message o 0) (mapped (λ (e : ℕ × Order). e.1) (entries_of_one i)) ++ mapped (λ (state : TradingState). status_message state 0) (mapped symbol_state (no_statuses i)))))

-- an image is advertised, asked for, promised, sent and finished
abbrev spun : List Entry
spun = SpinFinished 2 ∷ ImageMessages (clock ∷ short_add ∷ []) ∷ SpinReply 2 1 true ∷ Ticked (Some (Spin 2)) ∷ Advertised 2 ∷ SpinUp ∷ []

spun_is_honest : Honest image (clock ∷ order ∷ []) spun
spun_is_honest = ((omega arith, image_of_one_order), (tt, (tt, (tt, (omega arith, (tt, tt))))))

spun_is_current : status_of 4096 spun ≡ Current 2
unfolding reach_of held_count
spun_is_current = refl

-- ---- Advertised sequences
-- nothing, and then the first message, twice
sequences_are_advertised_once : advertised_by (Advertise ∷ Accept clock ∷ Advertise ∷ Advertise ∷ []) ≡ 0 ∷ 1 ∷ []
sequences_are_advertised_once = refl

-- ---- Changes of an open order
-- to 7 shares at 11.0000, hidden; and then 3 shares fewer, and 4 more
abbrev modification : List ℕ
modification = 0x1b ∷ 0x27 ∷ 0 ∷ 0 ∷ 0 ∷ 0 ∷ 5 ∷ 0 ∷ 0 ∷ 0 ∷ 0 ∷ 0 ∷ 0 ∷ 0 ∷ 7 ∷ 0 ∷ 0 ∷ 0 ∷ 0xb0 ∷ 0xad ∷ 1 ∷ 0 ∷ 0 ∷ 0 ∷ 0 ∷ 0 ∷ 0 ∷ []

abbrev reduction : ℕ → List ℕ
reduction shares = 0x10 ∷ 0x26 ∷ 0 ∷ 0 ∷ 0 ∷ 0 ∷ 5 ∷ 0 ∷ 0 ∷ 0 ∷ 0 ∷ 0 ∷ 0 ∷ 0 ∷ shares ∷ 0 ∷ []

abbrev book_of_one : Order → Book
book_of_one order = record { second = None; orders = map.insert no_orders 5 order; statuses = map.empty }

abbrev hidden : ℕ → Order
hidden shares = record { id = 5; side = Buy; quantity = shares; symbol = codes "IBM     "; price = 110000; display = false; participant = codes "    " }

stands : (order : Order) → map.get (map.insert no_orders 5 order) 5 ≡ Some order
stands order = map.get-insert nat_cmp_total no_orders 5 order 5

quantity_price_and_display_are_modified : after (book_of_one sold) modification ≡ with_order (book_of_one sold) 5 (hidden 7)
unfolding after reads
quantity_price_and_display_are_modified = ap (λ (o : Option Order). reformed (book_of_one sold) 5 (option_map (modified 7 110000 false) o)) (stands sold)

shares_are_reduced : after (book_of_one (hidden 7)) (reduction 3) ≡ with_order (book_of_one (hidden 7)) 5 (hidden 4)
unfolding after reads
shares_are_reduced = ap (λ (o : Option Order). reformed (book_of_one (hidden 7)) 5 (option_map (reduced_by 3) o)) (stands (hidden 7))

no_shares_are_no_order : after (book_of_one (hidden 4)) (reduction 4) ≡ without_order (book_of_one (hidden 4)) 5
unfolding after reads
no_shares_are_no_order = ap (λ (o : Option Order). reformed (book_of_one (hidden 4)) 5 (option_map (reduced_by 4) o)) (stands (hidden 4))

nothing_is_reduced_where_none_is_open : after (record { second = None; orders = no_orders; statuses = map.empty }) (reduction 3) ≡ record { second = None; orders = no_orders; statuses = map.empty }
unfolding after reads
nothing_is_reduced_where_none_is_open = ap (λ (o : Option Order). reformed (record { second = None; orders = no_orders; statuses = map.empty }) 5 (option_map (reduced_by 3) o)) (map.get-empty nat_cmp 5)

-- ---- Trading statuses
-- IBM is halted, and shown again by its image; a Unit Clear leaves the status
abbrev halted : List ℕ
halted = 0x12 ∷ 0x31 ∷ 0 ∷ 0 ∷ 0 ∷ 0 ∷ 0x49 ∷ 0x42 ∷ 0x4d ∷ 0x20 ∷ 0x20 ∷ 0x20 ∷ 0x20 ∷ 0x20 ∷ 0x48 ∷ 0x30 ∷ 0x20 ∷ 0x20 ∷ []

abbrev clear : List ℕ
clear = 0x06 ∷ 0x97 ∷ 0 ∷ 0 ∷ 0 ∷ 0 ∷ []

one_is_halted : book_after (halted ∷ clear ∷ []) ≡ with_status empty_book (codes "IBM     ") (72, 48)
unfolding after reads
one_is_halted = refl

entries_of_halted : map.entries (with_status empty_book (codes "IBM     ") (72, 48)).statuses ≡ (codes "IBM     ", (72, 48)) ∷ []
entries_of_halted =
    map.entries-insert nat_list_cmp_total map.empty (codes "IBM     ") (72, 48) ∙ ap (map.put symbol_cmp (codes "IBM     ") (72, 48)) no_statuses

image_of_a_status : image (halted ∷ []) 1 ≡ halted ∷ []
unfolding after reads image image_of written
image_of_a_status =
    λ i. mapped written (mapped (λ (o : Order). add_message o 0) (mapped (λ (e : ℕ × Order). e.1) (no_entries no_orders (map.len-empty nat_cmp Order) i)) ++ mapped (λ (state : TradingState). status_message state 0) (mapped symbol_state (entries_of_halted i)))

-- the order stands before the status, though the status came first
image_of_both : image (halted ∷ order ∷ []) 2 ≡ short_add ∷ halted ∷ []
unfolding after reads image image_of written add_message
image_of_both =
    λ i. mapped written (mapped (λ (o : Order). add_message o 0) (mapped (λ (e : ℕ × Order). e.1) (entries_of_one i)) ++ mapped (λ (state : TradingState). status_message state 0) (mapped symbol_state (entries_of_halted i)))

-- ---- What is asked for
-- 2 is missing, and the Gap Request Proxy is up
gap_before_the_first_held : ask_of 4096 (message 3 ∷ message 1 ∷ GrpUp ∷ []) ≡ Some (Gap 2 1)
unfolding reach_of held_count
gap_before_the_first_held = refl

nothing_while_a_reply_is_owed : ask_of 4096 (Ticked (Some (Gap 2 1)) ∷ message 3 ∷ message 1 ∷ GrpUp ∷ []) ≡ None
unfolding reach_of held_count
nothing_while_a_reply_is_owed = refl

gap_again_after_a_refusal : ask_of 4096 (GapReply false ∷ Ticked (Some (Gap 2 1)) ∷ message 3 ∷ message 1 ∷ GrpUp ∷ []) ≡ Some (Gap 2 1)
unfolding reach_of held_count
gap_again_after_a_refusal = refl

-- the Gap Request Proxy is down, and an image through 4 is advertised
image_where_no_gap_can_be_asked : ask_of 4096 (message 5 ∷ Advertised 4 ∷ SpinUp ∷ []) ≡ Some (Spin 4)
unfolding reach_of held_count
image_where_no_gap_can_be_asked = refl

-- an image through 4 of no orders is finished, behind which 5 was held
current_after_an_image : status_of 4096 (SpinFinished 4 ∷ SpinReply 4 0 true ∷ Ticked (Some (Spin 4)) ∷ message 5 ∷ Advertised 4 ∷ SpinUp ∷ []) ≡ Current 5
unfolding reach_of held_count
current_after_an_image = refl

-- ---- What else messages do to a book
-- 3 shares are executed; or at another price, and 2 are left
abbrev execution : ℕ → List ℕ
execution shares = 0x1a ∷ 0x23 ∷ 0 ∷ 0 ∷ 0 ∷ 0 ∷ 5 ∷ 0 ∷ 0 ∷ 0 ∷ 0 ∷ 0 ∷ 0 ∷ 0 ∷ shares ∷ 0 ∷ 0 ∷ 0 ∷ 9 ∷ 0 ∷ 0 ∷ 0 ∷ 0 ∷ 0 ∷ 0 ∷ 0 ∷ []

abbrev execution_at : ℕ → ℕ → List ℕ
execution_at shares left =
    0x26 ∷ 0x24 ∷ 0 ∷ 0 ∷ 0 ∷ 0 ∷ 5 ∷ 0 ∷ 0 ∷ 0 ∷ 0 ∷ 0 ∷ 0 ∷ 0 ∷ shares ∷ 0 ∷ 0 ∷ 0 ∷ left ∷ 0 ∷ 0 ∷ 0
    ∷ 9 ∷ 0 ∷ 0 ∷ 0 ∷ 0 ∷ 0 ∷ 0 ∷ 0 ∷ 0xa0 ∷ 0x86 ∷ 1 ∷ 0 ∷ 0 ∷ 0 ∷ 0 ∷ 0 ∷ []

shares_are_executed : after (book_of_one (hidden 7)) (execution 3) ≡ with_order (book_of_one (hidden 7)) 5 (hidden 4)
unfolding after reads
shares_are_executed = ap (λ (o : Option Order). reformed (book_of_one (hidden 7)) 5 (option_map (reduced_by 3) o)) (stands (hidden 7))

those_that_remain_are_told : after (book_of_one (hidden 7)) (execution_at 3 2) ≡ with_order (book_of_one (hidden 7)) 5 (hidden 2)
unfolding after reads
those_that_remain_are_told = ap (λ (o : Option Order). reformed (book_of_one (hidden 7)) 5 (option_map (left_with 2) o)) (stands (hidden 7))

a_deletion_takes_the_order_out : after (book_of_one sold) deletion ≡ without_order (book_of_one sold) 5
unfolding after reads
a_deletion_takes_the_order_out = refl

a_clear_keeps_the_second : after (record { second = Some 34200; orders = one_sold; statuses = map.empty }) clear ≡ record { second = Some 34200; orders = no_orders; statuses = map.empty }
unfolding after reads
a_clear_keeps_the_second = refl

-- a trade under the order's id, and an add of it without a side
abbrev traded : List ℕ
traded =
    0x21 ∷ 0x2b ∷ 0 ∷ 0 ∷ 0 ∷ 0 ∷ 5 ∷ 0 ∷ 0 ∷ 0 ∷ 0 ∷ 0 ∷ 0 ∷ 0 ∷ 0x42 ∷ 0x64 ∷ 0 ∷ 0x49 ∷ 0x42 ∷ 0x4d ∷ 0x20 ∷ 0x20 ∷ 0x20 ∷ 0xe8 ∷ 3
    ∷ 9 ∷ 0 ∷ 0 ∷ 0 ∷ 0 ∷ 0 ∷ 0 ∷ 0 ∷ []

abbrev sideless : List ℕ
sideless =
    0x1a ∷ 0x22 ∷ 0 ∷ 0 ∷ 0 ∷ 0 ∷ 5 ∷ 0 ∷ 0 ∷ 0 ∷ 0 ∷ 0 ∷ 0 ∷ 0 ∷ 0x58 ∷ 0x64 ∷ 0 ∷ 0x49 ∷ 0x42 ∷ 0x4d ∷ 0x20 ∷ 0x20 ∷ 0x20 ∷ 0xe8 ∷ 3 ∷ 1 ∷ []

a_trade_leaves_the_book : after (book_of_one sold) traded ≡ book_of_one sold
unfolding after reads
a_trade_leaves_the_book = refl

an_add_without_a_side_leaves_the_book : after (book_of_one sold) sideless ≡ book_of_one sold
unfolding after reads
an_add_without_a_side_leaves_the_book = refl

bit_0_displays : is_displayed 3 ≡ true
bit_0_displays = refl

no_other_bit_displays : is_displayed 2 ≡ false
no_other_bit_displays = refl

the_lowest_price_to_sell_is_the_best : best_of Sell (3 ∷ 1 ∷ 2 ∷ []) ≡ Some 1
the_lowest_price_to_sell_is_the_best = refl

the_highest_price_to_buy_is_the_best : best_of Buy (1 ∷ 3 ∷ 2 ∷ []) ≡ Some 3
the_highest_price_to_buy_is_the_best = refl

the_sides_differ : same_side Buy Sell ≡ false
the_sides_differ = refl

-- ---- The limits of what is asked for
at_most_100_messages_are_asked_for : gap_ask 5 None 500 ≡ Gap 6 100
at_most_100_messages_are_asked_for = refl

those_before_the_first_held_are_asked_for : gap_ask 5 (Some 8) 500 ≡ Gap 6 2
those_before_the_first_held_are_asked_for = refl

no_image_is_wanted_for_1000_messages : wants 4096 (message 1 ∷ []) 1001 ≡ false
unfolding reach_of held_count
no_image_is_wanted_for_1000_messages = refl

one_is_for_1001 : wants 4096 (message 1 ∷ []) 1002 ≡ true
unfolding reach_of held_count
one_is_for_1001 = refl

no_reply_is_owed_after_a_fall : owes (GrpDown ∷ Ticked (Some (Gap 2 1)) ∷ []) ≡ false
no_reply_is_owed_after_a_fall = refl

the_proxy_falls : is_grp_up (GrpDown ∷ GrpUp ∷ []) ≡ false
the_proxy_falls = refl

the_spin_server_falls : is_spin_up (SpinDown ∷ SpinUp ∷ []) ≡ false
the_spin_server_falls = refl

nothing_is_advertised_after_a_fall : advertised_of (SpinDown ∷ Advertised 4 ∷ []) ≡ None
nothing_is_advertised_after_a_fall = refl

the_greatest_advertised_counts : advertised_of (Advertised 3 ∷ Advertised 4 ∷ []) ≡ Some 4
the_greatest_advertised_counts = refl

behind_what_is_advertised : status_of 4096 (Advertised 4 ∷ []) ≡ Behind 0 4
unfolding reach_of held_count
behind_what_is_advertised = refl

no_image_of_the_reach_is_asked_for : ask_of 4096 (Advertised 1 ∷ SpinUp ∷ message 3 ∷ message 1 ∷ []) ≡ None
unfolding reach_of held_count
no_image_of_the_reach_is_asked_for = refl

an_image_is_asked_for_after_a_refusal : ask_of 4096 (GapReply false ∷ Ticked (Some (Gap 2 1)) ∷ Advertised 3 ∷ SpinUp ∷ message 3 ∷ message 1 ∷ GrpUp ∷ []) ≡ Some (Spin 3)
unfolding reach_of held_count
an_image_is_asked_for_after_a_refusal = refl

a_gap_is_asked_for_after_an_acceptance : ask_of 4096 (GapReply true ∷ Ticked (Some (Gap 2 1)) ∷ Advertised 3 ∷ SpinUp ∷ message 3 ∷ message 1 ∷ GrpUp ∷ []) ≡ Some (Gap 2 1)
unfolding reach_of held_count
a_gap_is_asked_for_after_an_acceptance = refl

-- ---- The spin
a_fall_ends_a_spin : spin_of (SpinDown ∷ Ticked (Some (Spin 2)) ∷ []) ≡ NoSpin
a_fall_ends_a_spin = refl

more_orders_than_messages_are_no_promise : spin_of (SpinReply 2 3 true ∷ Ticked (Some (Spin 2)) ∷ []) ≡ NoSpin
more_orders_than_messages_are_no_promise = refl

a_reply_to_another_is_passed_over : spin_of (SpinReply 3 1 true ∷ Ticked (Some (Spin 2)) ∷ []) ≡ Asked 2
a_reply_to_another_is_passed_over = refl

messages_of_an_image_add_up : spin_of (ImageMessages (order ∷ []) ∷ ImageMessages (clock ∷ []) ∷ SpinReply 2 1 true ∷ Ticked (Some (Spin 2)) ∷ []) ≡ Running 2 1 (clock ∷ order ∷ [])
messages_of_an_image_add_up = refl

ten_are_served : last_ten (0 ∷ 1 ∷ 2 ∷ 3 ∷ 4 ∷ 5 ∷ 6 ∷ 7 ∷ 8 ∷ 9 ∷ 10 ∷ []) ≡ 1 ∷ 2 ∷ 3 ∷ 4 ∷ 5 ∷ 6 ∷ 7 ∷ 8 ∷ 9 ∷ 10 ∷ []
ten_are_served = refl

-- ---- Levels
-- the book of the one order
abbrev of_one : Book
of_one = record { second = None; orders = one_sold; statuses = map.empty }

-- so many shares of it stand at a price, for a symbol on a side
level_of_one : (symbol : List ℕ) (side : Side) (price : ℕ) → level of_one symbol side price ≡ sum_by (λ (o : Order). o.quantity) (filter (λ (o : Order). price == o.price) (filter (λ (o : Order). bytes_eq symbol o.symbol && same_side side o.side) (sold ∷ [])))
unfolding level
level_of_one symbol side price = ap (λ (es : List (ℕ × Order)). sum_by (λ (o : Order). o.quantity) (filter (λ (o : Order). price == o.price) (filter (λ (o : Order). bytes_eq symbol o.symbol && same_side side o.side) (mapped (λ (e : ℕ × Order). e.1) es)))) entries_of_one

all_shares_at_its_price : level of_one (codes "IBM     ") Buy 100000 ≡ 100
all_shares_at_its_price = level_of_one (codes "IBM     ") Buy 100000

none_at_another_price : level of_one (codes "IBM     ") Buy 110000 ≡ 0
none_at_another_price = level_of_one (codes "IBM     ") Buy 110000

none_on_the_other_side : level of_one (codes "IBM     ") Sell 100000 ≡ 0
none_on_the_other_side = level_of_one (codes "IBM     ") Sell 100000

none_of_another_symbol : level of_one (codes "IBM.A   ") Buy 100000 ≡ 0
none_of_another_symbol = level_of_one (codes "IBM.A   ") Buy 100000

all_shares_of_the_book : shares of_one ≡ 100
unfolding shares
all_shares_of_the_book = ap (λ (es : List (ℕ × Order)). sum_by (λ (o : Order). o.quantity) (mapped (λ (e : ℕ × Order). e.1) es)) entries_of_one

-- the best price is its price, with its shares
best_of_one : (side : Side) → best of_one (codes "IBM     ") side ≡ option_map (with_level of_one (codes "IBM     ") side) (best_of side (mapped (λ (o : Order). o.price) (filter (λ (o : Order). bytes_eq (codes "IBM     ") o.symbol && same_side side o.side) (sold ∷ []))))
unfolding best
best_of_one side = ap (λ (es : List (ℕ × Order)). option_map (with_level of_one (codes "IBM     ") side) (best_of side (mapped (λ (o : Order). o.price) (filter (λ (o : Order). bytes_eq (codes "IBM     ") o.symbol && same_side side o.side) (mapped (λ (e : ℕ × Order). e.1) es))))) entries_of_one

the_best_bid : best of_one (codes "IBM     ") Buy ≡ Some (100000, 100)
the_best_bid = best_of_one Buy ∙ ap (λ (n : ℕ). Some (100000, n)) all_shares_at_its_price

no_best_offer : best of_one (codes "IBM     ") Sell ≡ None
no_best_offer = best_of_one Sell

-- ---- One image at a time
nothing_while_an_image_is_asked_for : ask_of 4096 (Ticked (Some (Spin 3)) ∷ Advertised 3 ∷ SpinUp ∷ message 3 ∷ message 1 ∷ []) ≡ None
unfolding reach_of held_count
nothing_while_an_image_is_asked_for = refl

nothing_while_one_runs : ask_of 4096 (SpinReply 3 0 true ∷ Ticked (Some (Spin 3)) ∷ Advertised 3 ∷ SpinUp ∷ message 3 ∷ message 1 ∷ []) ≡ None
unfolding reach_of held_count
nothing_while_one_runs = refl

nothing_of_a_server_that_fell : ask_of 4096 (Advertised 3 ∷ SpinDown ∷ SpinUp ∷ message 3 ∷ message 1 ∷ []) ≡ None
unfolding reach_of held_count
nothing_of_a_server_that_fell = refl

a_refused_image_does_not_run : spin_of (SpinReply 2 0 false ∷ Ticked (Some (Spin 2)) ∷ []) ≡ NoSpin
a_refused_image_does_not_run = refl

another_sequence_finishes_nothing : image_finished (Running 2 0 []) 3 ≡ []
another_sequence_finishes_nothing = refl

an_image_is_asked_for_after_an_overflow : ask_of 2 (Advertised 3 ∷ SpinUp ∷ message 7 ∷ three ++ GrpUp ∷ []) ≡ Some (Spin 3)
unfolding reach_of held_count
an_image_is_asked_for_after_an_overflow = refl

-- ---- Trouble is over once the reach rises
-- a gap was refused, and what was missing came; behind it another message is missing
a_gap_is_asked_for_again_once_the_reach_rose : ask_of 4096 (message 2 ∷ GapReply false ∷ Ticked (Some (Gap 2 1)) ∷ Advertised 5 ∷ SpinUp ∷ message 5 ∷ message 3 ∷ message 1 ∷ GrpUp ∷ []) ≡ Some (Gap 4 1)
unfolding reach_of held_count
a_gap_is_asked_for_again_once_the_reach_rose = refl

-- an image that was asked for or runs keeps no gap from being asked for
a_gap_is_asked_for_while_an_image_runs : ask_of 4096 (SpinReply 3 0 true ∷ Ticked (Some (Spin 3)) ∷ Advertised 3 ∷ SpinUp ∷ message 3 ∷ message 1 ∷ GrpUp ∷ []) ≡ Some (Gap 2 1)
unfolding reach_of held_count
a_gap_is_asked_for_while_an_image_runs = refl

-- ---- A spin that runs goes on
the_end_of_another_is_passed_over : spin_of (SpinFinished 3 ∷ SpinReply 2 1 true ∷ Ticked (Some (Spin 2)) ∷ []) ≡ Running 2 1 []
the_end_of_another_is_passed_over = refl

a_further_reply_is_passed_over : spin_of (SpinReply 2 0 false ∷ ImageMessages (clock ∷ []) ∷ SpinReply 2 1 true ∷ Ticked (Some (Spin 2)) ∷ []) ≡ Running 2 1 (clock ∷ [])
a_further_reply_is_passed_over = refl

no_more_orders_than_sequences_are_promised : can_promise 4294967295 4294967295 ≡ false
no_more_orders_than_sequences_are_promised = refl
