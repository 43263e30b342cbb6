-- Worked examples of the definitions, computed.
use Rattle.std.proofs.Common.{◌≡◌, ℕ, Bool, true, false, not, nat_le, [], ◌∷◌, codes, Option, None, Some, refl, ap, ◌∙◌}
use Rattle.std.specs.Fmt.{digits}
use Rattle.std.specs.FinMap as map
use Rattle.pitch_fields.specs.declared.side.Side.TheVariants.{Buy, Sell}
use Rattle.pitch_messages.specs.declared.order.Order.{Order}
use Rattle.pitch_messages.specs.Reading.{reads}
use Rattle.pitch_messages.specs.Writing.{written}
use Rattle.pitch_model.specs.Book.{Book}
use Rattle.pitch_text.specs.declared.command.Command.{Command}
use Rattle.pitch_text.specs.declared.command.Command.TheVariants.{Time, Add, Exec, Reduce, Modify, Delete, Trade, Status}
use Rattle.venue_core.specs.declared.error.VenueError.TheVariants.{Ended, ZeroQuantity, BadSymbol, KnownId, UnknownId, TooMuch, BookFull, SequencesSpent}
use Rattle.venue_core.specs.Causes.{refusal_text}
use Rattle.venue_core.specs.Commands.{raw_of}
use Rattle.venue_core.specs.Losses.{mix, state_after, is_lost}
use Rattle.venue_core.specs.Plan.{plan_quantity, plan_price, plan_command}
use Rattle.venue_core.specs.Refusals.{is_ended, are_spent, has_order, refused_if, first_refusal, excess, shares_of, refusal_at}

-- ---- Losses
-- the first numbers that SplitMix64 gives of the seed 1234567, and the first of 0, as published
first_drawn : mix (state_after 1234567 1) ≡ 6457827717110365317
unfolding mix
first_drawn = refl

second_drawn : mix (state_after 1234567 2) ≡ 3203168211198807973
unfolding mix
second_drawn = refl

drawn_of_zero : mix (state_after 0 1) ≡ 0xe220a8397b1dcdaf
unfolding mix
drawn_of_zero = refl

-- of number 0 and unit 1, datagram 2 is lost on line B, and not on line A
lost_on_b : is_lost 0 1 2 2 ≡ true
unfolding mix
lost_on_b = refl

not_lost_on_a : is_lost 0 1 2 1 ≡ false
unfolding mix
not_lost_on_a = refl

-- ---- The plan
-- the first round of number 7 and unit 1, and the trade that ends the second
clock : plan_command 7 1 1 ≡ Time 34200
unfolding plan_command
clock = refl

buy : plan_command 7 1 2 ≡ Add (record { id = 2; side = Buy; quantity = 182; symbol = codes "GAMMADLT"; price = 100900; display = true; participant = codes "    " }) 0
unfolding plan_command plan_quantity plan_price
buy = refl

sell : plan_command 7 1 3 ≡ Add (record { id = 3; side = Sell; quantity = 219; symbol = codes "ALPHA   "; price = 111000; display = true; participant = codes "    " }) 0
unfolding plan_command plan_quantity plan_price
sell = refl

execution : plan_command 7 1 4 ≡ Exec 2 50 4 0
unfolding plan_command
execution = refl

reduction : plan_command 7 1 5 ≡ Reduce 3 20 0
unfolding plan_command
reduction = refl

modification : plan_command 7 1 6 ≡ Modify 2 330 101300 true 0
unfolding plan_command plan_quantity plan_price
modification = refl

second_buy : plan_command 7 1 7 ≡ Add (record { id = 7; side = Buy; quantity = 367; symbol = codes "BETA    "; price = 101401; display = true; participant = codes "    " }) 0
unfolding plan_command plan_quantity plan_price
second_buy = refl

deletion : plan_command 7 1 8 ≡ Delete 7 0
unfolding plan_command
deletion = refl

trade : plan_command 7 1 16 ≡ Trade (record { id = 16; side = Buy; quantity = 300; symbol = codes "BETA    "; price = 102300; display = true; participant = codes "    " }) 16 0
unfolding plan_command plan_quantity plan_price
trade = refl

-- quantities go round after 400, and prices after 200
quantity_goes_round : plan_quantity 7 1 400 ≡ 108
unfolding plan_quantity
quantity_goes_round = refl

price_goes_round : plan_price 7 193 ≡ 100000
unfolding plan_price
price_goes_round = refl

-- ---- Refusals
-- an order of seven shares, and one whose symbol is blank
abbrev of_seven : Order
of_seven = record { id = 5; side = Buy; quantity = 7; symbol = codes "IBM     "; price = 100000; display = true; participant = codes "    " }

abbrev nameless : Order
nameless = record { id = 5; side = Buy; quantity = 7; symbol = codes "        "; price = 100000; display = true; participant = codes "    " }

an_end_ends : is_ended ((6 ∷ 0x2d ∷ 0 ∷ 0 ∷ 0 ∷ 0 ∷ []) ∷ []) ≡ true
unfolding reads
an_end_ends = refl

-- whatever the book is, and however many messages were accepted
module _ (book : Book) (count : ℕ) where
  the_end_comes_first : refusal_at true book count (Exec 5 0 1 0) ≡ Some Ended
  the_end_comes_first = refl

  no_shares_come_before_the_id : refusal_at false book count (Exec 5 0 1 0) ≡ Some ZeroQuantity
  no_shares_come_before_the_id = refl

  a_bad_symbol_comes_before_the_id : refusal_at false book count (Add nameless 0) ≡ Some BadSymbol
  a_bad_symbol_comes_before_the_id = refl

  an_open_order_is_not_added_again : has_order book 5 ≡ true → refusal_at false book count (Add of_seven 0) ≡ Some KnownId
  an_open_order_is_not_added_again there =
      ap (λ (b : Bool). first_refusal (refused_if b KnownId ∷ None ∷ None ∷ refused_if (nat_le 1000000 (map.len book.orders)) BookFull ∷ refused_if (are_spent count) SequencesSpent ∷ [])) there

  none_is_executed_that_is_not_open : has_order book 5 ≡ false → refusal_at false book count (Exec 5 7 1 0) ≡ Some UnknownId
  none_is_executed_that_is_not_open none =
      ap (λ (b : Bool). first_refusal (refused_if (not b) UnknownId ∷ excess 7 (shares_of (map.get book.orders 5)) ∷ None ∷ refused_if (are_spent count) SequencesSpent ∷ [])) none

  -- a share more than the order has
  one_too_many : has_order book 5 ≡ true → map.get book.orders 5 ≡ Some of_seven → refusal_at false book count (Exec 5 8 1 0) ≡ Some (TooMuch 8 7)
  one_too_many there is =
      ap (λ (b : Bool). first_refusal (refused_if (not b) UnknownId ∷ excess 8 (shares_of (map.get book.orders 5)) ∷ None ∷ refused_if (are_spent count) SequencesSpent ∷ [])) there
      ∙ ap (λ (o : Option Order). first_refusal (excess 8 (shares_of o) ∷ None ∷ refused_if (are_spent count) SequencesSpent ∷ [])) is

  -- a million orders are open
  no_more_than_a_million : has_order book 5 ≡ false → map.len book.orders ≡ 1000000 → refusal_at false book count (Add of_seven 0) ≡ Some BookFull
  no_more_than_a_million none full =
      ap (λ (b : Bool). first_refusal (refused_if b KnownId ∷ None ∷ None ∷ refused_if (nat_le 1000000 (map.len book.orders)) BookFull ∷ refused_if (are_spent count) SequencesSpent ∷ [])) none
      ∙ ap (λ (n : ℕ). first_refusal (refused_if (nat_le 1000000 n) BookFull ∷ refused_if (are_spent count) SequencesSpent ∷ [])) full

-- all shares may be executed
all_may_be_executed : (book : Book) → has_order book 5 ≡ true → map.get book.orders 5 ≡ Some of_seven → refusal_at false book 3 (Exec 5 7 1 0) ≡ None
all_may_be_executed book there is =
    ap (λ (b : Bool). first_refusal (refused_if (not b) UnknownId ∷ excess 7 (shares_of (map.get book.orders 5)) ∷ None ∷ None ∷ [])) there
    ∙ ap (λ (o : Option Order). first_refusal (excess 7 (shares_of o) ∷ None ∷ None ∷ [])) is

-- one order fewer is open
a_million_may_be_open : (book : Book) → has_order book 5 ≡ false → map.len book.orders ≡ 999999 → refusal_at false book 3 (Add of_seven 0) ≡ None
a_million_may_be_open book none full =
    ap (λ (b : Bool). first_refusal (refused_if b KnownId ∷ None ∷ None ∷ refused_if (nat_le 1000000 (map.len book.orders)) BookFull ∷ None ∷ [])) none
    ∙ ap (λ (n : ℕ). first_refusal (refused_if (nat_le 1000000 n) BookFull ∷ None ∷ [])) full

-- 4,294,967,294 messages were accepted, or one fewer
none_after_the_last : (book : Book) → refusal_at false book 4294967294 (Time 34200) ≡ Some SequencesSpent
none_after_the_last book = refl

the_last_is_accepted : (book : Book) → refusal_at false book 4294967293 (Time 34200) ≡ None
the_last_is_accepted book = refl

-- ---- The words of refusals
too_much_text : refusal_text (TooMuch 101 100) ≡ codes "too-much 101 100"
unfolding digits
too_much_text = refl

full_text : refusal_text BookFull ≡ codes "book-full"
full_text = refl

spent_text : refusal_text SequencesSpent ≡ codes "sequences-spent"
spent_text = refl

-- ---- Trading statuses
-- IBM is halted, and so is a symbol that begins with a space
abbrev halt : Command
halt = Status (codes "IBM     ") 0x48 0x30 0

abbrev nameless_halt : Command
nameless_halt = Status (codes " IBM    ") 0x48 0x30 0

raw_of_a_status : raw_of halt
    ≡ 0x12 ∷ 0x31 ∷ 0x00 ∷ 0x00 ∷ 0x00 ∷ 0x00 ∷ 0x49 ∷ 0x42 ∷ 0x4d ∷ 0x20 ∷ 0x20 ∷ 0x20 ∷ 0x20 ∷ 0x20 ∷ 0x48 ∷ 0x30 ∷ 0x20 ∷ 0x20 ∷ []
unfolding written
raw_of_a_status = refl

a_symbol_gets_a_status : (book : Book) → refusal_at false book 3 halt ≡ None
a_symbol_gets_a_status book = refl

a_bad_symbol_gets_none : (book : Book) (count : ℕ) → refusal_at false book count nameless_halt ≡ Some BadSymbol
a_bad_symbol_gets_none book count = refl

the_end_comes_before_a_bad_symbol : (book : Book) (count : ℕ) → refusal_at true book count nameless_halt ≡ Some Ended
the_end_comes_before_a_bad_symbol book count = refl
