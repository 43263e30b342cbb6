-- Worked examples of what is due, and of connections that stand and have no room. Runs stand newest
-- first.
use Rattle.std.proofs.Common.{◌≡◌, ℕ, ◌==◌, nat_lt, zero, suc, true, false, cond, ◌||◌, List, [], ◌∷◌, length, refl, ap, None, Some}
use Rattle.live_net.specs.declared.live.WaitEnd.TheVariants as wait_end
use Rattle.live_net.specs.declared.live.PeerTaken.TheVariants as taken
use Rattle.live_net.specs.declared.live.PeerPut.TheVariants as put
use Rattle.venue_net.specs.VenueCalls.{VenueCall, Wait, Read, Accept, Take, Put, Close}
use Rattle.venue_net.specs.declared.net.InputRead.TheVariants as input
use Rattle.venue_turns.specs.Due.{Ways, Ends, IsDue, due, is_read}
use Rattle.venue_turns.specs.Standing.{stands, seconds_full, is_stuck}
use Rattle.venue_turns.specs.declared.due.Due.TheVariants as to

-- ---- Two places
abbrev two : Ways
two = record { places = 2 }

-- no end is shut, and nothing waits; or so many bytes wait for the client at place 0; or the end
-- there is shut too
abbrev quiet : Ends
quiet = record { shut = λ place. false; waits = λ place. [] }

abbrev first_waits : List ℕ → Ends
first_waits bytes = record { shut = λ place. false; waits = λ place. cond (place == 0) bytes [] }

abbrev first_is_shut : List ℕ → Ends
first_is_shut bytes = record { shut = λ place. place == 0; waits = λ place. cond (place == 0) bytes [] }

begins_with_a_wait : due two quiet [] ≡ Some (to.Wait false)
begins_with_a_wait = refl

-- the input is read until it has no more, with room for one piece
abbrev woken : List VenueCall
woken = Wait false wait_end.Ready ∷ []

input_first : IsDue two quiet woken (Read 65536 (7 ∷ []) (input.Got 1))
input_first = record { what = to.Read; due_is = refl; made = refl }

abbrev one_came : List VenueCall
one_came = Read 65536 (7 ∷ []) (input.Got 1) ∷ woken

input_again : due two quiet one_came ≡ Some to.Read
input_again = refl

-- then each free place is offered: nobody comes to place 0, and a client to place 1
abbrev input_is_quiet : List VenueCall → List VenueCall
input_is_quiet run = Read 65536 [] input.Quiet ∷ run

place_0_is_offered : due two quiet (input_is_quiet one_came) ≡ Some (to.Accept 0)
place_0_is_offered = refl

then_place_1 : due two quiet (Accept 0 false ∷ input_is_quiet one_came) ≡ Some (to.Accept 1)
then_place_1 = refl

then_the_wait : due two quiet (Accept 1 false ∷ Accept 0 false ∷ input_is_quiet one_came) ≡ Some (to.Wait false)
then_the_wait = refl

abbrev one_is_in : List VenueCall
one_is_in = Accept 1 true ∷ Accept 0 false ∷ input_is_quiet one_came

its_bytes_are_taken : IsDue two quiet one_is_in (Take 1 65536 (9 ∷ []) (taken.Got 1))
its_bytes_are_taken = record { what = to.Take 1; due_is = refl; made = (refl, refl) }

not_again_offered : due two quiet (Accept 0 false ∷ input_is_quiet (Wait false wait_end.Ready ∷ one_is_in)) ≡ Some (to.Take 1)
not_again_offered = refl

-- ---- A client at place 0
-- it is let in; each turn begins with a wait, and the input has nothing
abbrev first_is_in : List VenueCall
first_is_in = Accept 0 true ∷ input_is_quiet woken

abbrev turn : List VenueCall → List VenueCall
turn run = input_is_quiet (Wait false wait_end.Ready ∷ run)

-- its bytes are taken until it has none, then what waits is put, which goes one by one
abbrev piece_came : List VenueCall
piece_came = Take 0 65536 (9 ∷ []) (taken.Got 1) ∷ first_is_in

more_is_taken : due two (first_waits (4 ∷ 5 ∷ [])) piece_came ≡ Some (to.Take 0)
more_is_taken = refl

abbrev all_taken : List VenueCall
all_taken = Take 0 65536 [] taken.Quiet ∷ piece_came

then_what_waits_is_put : IsDue two (first_waits (4 ∷ 5 ∷ [])) all_taken (Put 0 (4 ∷ 5 ∷ []) (put.Wrote 1))
then_what_waits_is_put = record { what = to.Put 0; due_is = refl; made = (refl, refl) }

abbrev one_put : List VenueCall
one_put = Put 0 (4 ∷ 5 ∷ []) (put.Wrote 1) ∷ all_taken

what_is_left_too : due two (first_waits (5 ∷ [])) one_put ≡ Some (to.Put 0)
what_is_left_too = refl

-- nothing is left, or there is no room: place 1 is offered
nothing_is_left : due two quiet one_put ≡ Some (to.Accept 1)
nothing_is_left = refl

abbrev no_room : List VenueCall
no_room = Put 0 (5 ∷ []) put.Full ∷ one_put

no_more_is_put : due two (first_waits (5 ∷ [])) no_room ≡ Some (to.Accept 1)
no_more_is_put = refl

-- it is gone: place 1 is offered, and in the next turn place 0 is
gone_as_taken : due two quiet (Take 0 65536 [] taken.Ended ∷ first_is_in) ≡ Some (to.Accept 1)
gone_as_taken = refl

gone_as_put : due two (first_waits (5 ∷ [])) (Put 0 (5 ∷ []) put.Ended ∷ one_put) ≡ Some (to.Accept 1)
gone_as_put = refl

offered_again : due two quiet (turn (Take 0 65536 [] taken.Ended ∷ first_is_in)) ≡ Some (to.Accept 0)
offered_again = refl

-- ---- An end that is shut
-- its client's bytes are taken no more, what waits is put, and then the connection is closed
taken_no_more : due two (first_is_shut (4 ∷ [])) piece_came ≡ Some (to.Put 0)
taken_no_more = refl

closed_once_all_is_put : due two (first_is_shut []) one_put ≡ Some (to.Close 0)
closed_once_all_is_put = refl

closed_at_once : due two (first_is_shut []) piece_came ≡ Some (to.Close 0)
closed_at_once = refl

closed_where_quiet : due two (first_is_shut []) all_taken ≡ Some (to.Close 0)
closed_where_quiet = refl

abbrev closed : List VenueCall
closed = Close 0 ∷ piece_came

then_place_1_is_offered : due two (first_is_shut []) closed ≡ Some (to.Accept 1)
then_place_1_is_offered = refl

then_place_0_is : due two (first_is_shut []) (turn closed) ≡ Some (to.Accept 0)
then_place_0_is = refl

-- ---- The input's end
-- it is not read again
abbrev ended : List VenueCall
ended = Read 65536 [] input.Ended ∷ woken

places_at_its_end : due two quiet ended ≡ Some (to.Accept 0)
places_at_its_end = refl

not_read_again : due two quiet (Wait false wait_end.Second ∷ Accept 1 false ∷ Accept 0 false ∷ ended) ≡ Some (to.Accept 0)
not_read_again = refl

is_at_its_end : is_read (Accept 1 false ∷ Accept 0 false ∷ ended) ≡ true
is_at_its_end = refl

is_not : is_read (input_is_quiet one_came) ≡ false
is_not = refl

-- ---- Nothing after the end
nothing_once_over : due two quiet (Wait false wait_end.Over ∷ []) ≡ None
nothing_once_over = refl

nothing_once_read_failed : due two quiet (Read 65536 [] input.Failed ∷ woken) ≡ None
nothing_once_read_failed = refl

-- ---- Much that comes and goes
abbrev times : ℕ → VenueCall → List VenueCall → List VenueCall
times zero call run = run
times (suc n) call run = call ∷ times n call run

-- after 15 pieces of the input it is read again; after 16 the places have their turns, and the wait
-- is told
abbrev reads : ℕ → List VenueCall
reads n = times n (Read 65536 (7 ∷ []) (input.Got 1)) woken

abbrev none : Ways
none = record { places = 0 }

read_once_more : due two quiet (reads 15) ≡ Some to.Read
read_once_more = refl

input_is_over : due two quiet (reads 16) ≡ Some (to.Accept 0)
input_is_over = refl

wait_is_told_of_input : due none quiet (reads 16) ≡ Some (to.Wait true)
wait_is_told_of_input = refl

wait_is_not_told : due none quiet (input_is_quiet (reads 15)) ≡ Some (to.Wait false)
wait_is_not_told = refl

-- and so with 16 pieces that a client gave: what waits is put, and then place 1 has its turn
abbrev pieces : ℕ → List VenueCall
pieces n = times n (Take 0 65536 (9 ∷ []) (taken.Got 1)) first_is_in

taken_once_more : due two (first_waits (5 ∷ [])) (pieces 15) ≡ Some (to.Take 0)
taken_once_more = refl

then_it_is_put : due two (first_waits (5 ∷ [])) (pieces 16) ≡ Some (to.Put 0)
then_it_is_put = refl

then_the_next_place : due two quiet (pieces 16) ≡ Some (to.Accept 1)
then_the_next_place = refl

wait_is_told_of_pieces : due two quiet (Accept 1 false ∷ pieces 16) ≡ Some (to.Wait true)
wait_is_told_of_pieces = refl

-- and so with 16 pieces that it took
abbrev puts : ℕ → List VenueCall
puts n = times n (Put 0 (5 ∷ []) (put.Wrote 1)) all_taken

put_once_more : due two (first_waits (5 ∷ [])) (puts 15) ≡ Some (to.Put 0)
put_once_more = refl

then_the_next_place_too : due two (first_waits (5 ∷ [])) (puts 16) ≡ Some (to.Accept 1)
then_the_next_place_too = refl

wait_is_told_of_puts : due two (first_waits (5 ∷ [])) (Accept 1 false ∷ puts 16) ≡ Some (to.Wait true)
wait_is_told_of_puts = refl

-- a wait forgets it
wait_is_told_once : due none quiet (input_is_quiet (Wait true wait_end.Ready ∷ reads 16)) ≡ Some (to.Wait false)
wait_is_told_once = refl

-- ---- A connection that has no room
-- after five seconds it is closed as its turn begins, unless a byte was taken since
abbrev seconds : ℕ → List VenueCall → List VenueCall
seconds n run = times n (Wait false wait_end.Second) run

none_yet : seconds_full 0 no_room ≡ 0
none_yet = refl

three : seconds_full 0 (seconds 2 (Put 0 (5 ∷ []) put.Full ∷ seconds 1 no_room)) ≡ 3
three = refl

not_those_before : seconds_full 0 (Put 0 (5 ∷ []) put.Full ∷ seconds 7 one_put) ≡ 0
not_those_before = refl

none_once_some_was_taken : seconds_full 0 (seconds 2 (Put 0 (5 ∷ []) (put.Wrote 1) ∷ seconds 3 no_room)) ≡ 0
none_once_some_was_taken = refl

none_of_anothers : seconds_full 1 (seconds 3 no_room) ≡ 0
none_of_anothers = refl

kept_after_four : due two (first_waits (5 ∷ [])) (input_is_quiet (seconds 4 no_room)) ≡ Some (to.Take 0)
kept_after_four = refl

closed_after_five : due two (first_waits (5 ∷ [])) (input_is_quiet (seconds 5 no_room)) ≡ Some (to.Close 0)
closed_after_five = refl

-- the next client at that place has room
next_has_room : is_stuck 0 (seconds 9 (Accept 0 true ∷ Close 0 ∷ seconds 5 no_room)) ≡ false
next_has_room = refl

-- ---- Connections that stand
none_at_first : stands 0 [] ≡ false
none_at_first = refl

where_it_was_let_in : stands 0 no_room ≡ true
where_it_was_let_in = refl

nowhere_else : stands 1 no_room ≡ false
nowhere_else = refl

not_once_closed : stands 0 closed ≡ false
not_once_closed = refl

not_where_nobody_came : stands 0 one_is_in ≡ false
not_where_nobody_came = refl

-- ---- Too much that waits
-- 1,048,576 bytes may wait for a client, and at one more it is closed as its turn begins
too_much_by : (bytes : List ℕ) (n : ℕ) → length bytes ≡ n → due two (first_waits bytes) (turn first_is_in) ≡ Some (cond (nat_lt 1048576 n || false) (to.Close 0) (to.Take 0))
too_much_by bytes n is = ap (λ (k : ℕ). Some (cond (nat_lt 1048576 k || false) (to.Close 0) (to.Take 0))) is

so_much_may_wait : (bytes : List ℕ) → length bytes ≡ 1048576 → due two (first_waits bytes) (turn first_is_in) ≡ Some (to.Take 0)
so_much_may_wait bytes is = too_much_by bytes 1048576 is

one_more_is_too_much : (bytes : List ℕ) → length bytes ≡ 1048577 → due two (first_waits bytes) (turn first_is_in) ≡ Some (to.Close 0)
one_more_is_too_much bytes is = too_much_by bytes 1048577 is
