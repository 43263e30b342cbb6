-- Worked examples of the commands and of their text, computed.
use Rattle.std.proofs.Common.{◌≡◌, ℕ, true, false, List, [], ◌∷◌, ◌++◌, codes, refl}
use Rattle.std.specs.Fmt.{digits}
use Rattle.pitch_fields.specs.declared.side.Side.TheVariants.{Buy, Sell}
use Rattle.pitch_fields.specs.Name.{no_participant}
use Rattle.pitch_text.specs.Printing.{entry_text}
use Rattle.pitch_text.specs.declared.command.Command.TheVariants.{Time, Add, Exec, ExecAt, Reduce, Modify, Delete, Trade, Break, Clear, EndSession, Status}
use Rattle.venue_core.specs.Plan.{plan_quantity, plan_price}
use Rattle.venue_plan.specs.Made.{made_command}
use Rattle.venue_plan.specs.Text.{PlanState, due_of, left_of, made_line, plan_begun, plan_text, second_passed}

-- ---- The first round of number 7 and unit 1, of 2,000 commands
clock : made_command 7 1 2000 1 ≡ Time 34200
unfolding made_command
clock = refl

status : made_command 7 1 2000 2 ≡ Status (codes "SIGMAS  ") 84 48 40000007
unfolding made_command
status = refl

buy : made_command 7 1 2000 3 ≡ Add (record { id = 3; side = Buy; quantity = 219; symbol = codes "OMICRON "; price = 101000; display = true; participant = no_participant }) 80000007
unfolding made_command plan_quantity plan_price
buy = refl

hidden_sell : made_command 7 1 2000 4 ≡ Add (record { id = 4; side = Sell; quantity = 256; symbol = codes "GAMMADLT"; price = 111100; display = false; participant = codes "DESK" }) 120000007
unfolding made_command plan_quantity plan_price
hidden_sell = refl

large_buy : made_command 7 1 2000 5 ≡ Add (record { id = 5; side = Buy; quantity = 100293; symbol = codes "Q       "; price = 101200; display = true; participant = no_participant }) 160000007
unfolding made_command plan_quantity plan_price
large_buy = refl

fine_sell : made_command 7 1 2000 6 ≡ Add (record { id = 6; side = Sell; quantity = 330; symbol = codes "BETA    "; price = 101301; display = false; participant = no_participant }) 200000007
unfolding made_command plan_quantity plan_price
fine_sell = refl

second_buy : made_command 7 1 2000 7 ≡ Add (record { id = 7; side = Buy; quantity = 367; symbol = codes "SIGMAS  "; price = 101400; display = true; participant = no_participant }) 240000007
unfolding made_command plan_quantity plan_price
second_buy = refl

last_sell : made_command 7 1 2000 8 ≡ Add (record { id = 8; side = Sell; quantity = 404; symbol = codes "OMICRON "; price = 111500; display = true; participant = no_participant }) 280000007
unfolding made_command plan_quantity plan_price
last_sell = refl

execution : made_command 7 1 2000 9 ≡ Exec 3 50 9 320000007
unfolding made_command
execution = refl

execution_at : made_command 7 1 2000 10 ≡ ExecAt 4 30 40 10 101700 360000007
unfolding made_command plan_price
execution_at = refl

large_reduction : made_command 7 1 2000 11 ≡ Reduce 5 70000 400000007
unfolding made_command
large_reduction = refl

reduction : made_command 7 1 2000 12 ≡ Reduce 6 20 440000007
unfolding made_command
reduction = refl

modification : made_command 7 1 2000 13 ≡ Modify 3 189 102000 true 480000007
unfolding made_command plan_quantity plan_price
modification = refl

large_modification : made_command 7 1 2000 14 ≡ Modify 5 100226 102101 false 520000007
unfolding made_command plan_quantity plan_price
large_modification = refl

trade : made_command 7 1 2000 15 ≡ Trade (record { id = 15; side = Buy; quantity = 263; symbol = codes "Q       "; price = 102200; display = true; participant = no_participant }) 15 560000007
unfolding made_command plan_quantity plan_price
trade = refl

large_trade : made_command 7 1 2000 16 ≡ Trade (record { id = 16; side = Sell; quantity = 100300; symbol = codes "BETA    "; price = 102301; display = true; participant = no_participant }) 16 600000007
unfolding made_command plan_quantity plan_price
large_trade = refl

break_of_a_trade : made_command 7 1 2000 17 ≡ Break 15 640000007
unfolding made_command
break_of_a_trade = refl

whole_execution : made_command 7 1 2000 18 ≡ Exec 7 367 18 680000007
unfolding made_command plan_quantity
whole_execution = refl

whole_execution_at : made_command 7 1 2000 19 ≡ ExecAt 8 404 0 19 102600 720000007
unfolding made_command plan_quantity plan_price
whole_execution_at = refl

whole_reduction : made_command 7 1 2000 20 ≡ Reduce 6 310 760000007
unfolding made_command plan_quantity
whole_reduction = refl

hidden_buy : made_command 7 1 2000 21 ≡ Add (record { id = 21; side = Buy; quantity = 485; symbol = codes "BETA    "; price = 102800; display = false; participant = no_participant }) 800000007
unfolding made_command plan_quantity plan_price
hidden_buy = refl

it_is_displayed : made_command 7 1 2000 22 ≡ Modify 21 122 102900 true 840000007
unfolding made_command plan_quantity plan_price
it_is_displayed = refl

deletion : made_command 7 1 2000 23 ≡ Delete 4 880000007
unfolding made_command
deletion = refl

second_deletion : made_command 7 1 2000 24 ≡ Delete 21 920000007
unfolding made_command
second_deletion = refl

-- ---- Later rounds: the next second and the other status, a clear, and the end of the session
next_clock : made_command 7 1 2000 25 ≡ Time 34201
unfolding made_command
next_clock = refl

other_status : made_command 7 1 2000 26 ≡ Status (codes "BETA    ") 72 48 40000007
unfolding made_command
other_status = refl

all_are_cleared : made_command 7 1 2000 1536 ≡ Clear 920000007
unfolding made_command
all_are_cleared = refl

the_last_ends : made_command 7 1 2000 2000 ≡ EndSession 960000007
unfolding made_command
the_last_ends = refl

-- ---- The text
-- two commands for each of the units 1 and 200
abbrev units : List ℕ
units = 1 ∷ 200 ∷ []

abbrev of_times : List ℕ
of_times = (codes "1 time 34200" ++ 10 ∷ []) ++ (codes "200 time 34200" ++ 10 ∷ [])

abbrev of_ends : List ℕ
of_ends = (codes "1 end at=960000007" ++ 10 ∷ []) ++ (codes "200 end at=960000007" ++ 10 ∷ [])

lines_in_turn : plan_text 7 units 2 ≡ of_times ++ of_ends
unfolding made_command made_line entry_text digits
lines_in_turn = refl

-- of one command a second the first is due at once, and the second one after a second; then no more
abbrev begun : PlanState
begun = plan_begun 7 units 2 1

all_is_left : left_of begun ≡ of_times ++ of_ends
unfolding made_command made_line entry_text digits
all_is_left = refl

one_is_due : due_of begun ≡ of_times
unfolding made_command made_line entry_text digits
one_is_due = refl

both_are_due : due_of (second_passed begun) ≡ of_times ++ of_ends
unfolding made_command made_line entry_text digits
both_are_due = refl

no_more_than_all : (second_passed (second_passed begun)).due ≡ 2
no_more_than_all = refl

-- two lines were made, of which a byte is left
abbrev half : PlanState
half = record begun { made = 2; left = 10 ∷ [] }

a_byte_is_due : due_of half ≡ 10 ∷ []
a_byte_is_due = refl

that_and_the_ends_are_left : left_of half ≡ 10 ∷ of_ends
unfolding made_command made_line entry_text digits
that_and_the_ends_are_left = refl
