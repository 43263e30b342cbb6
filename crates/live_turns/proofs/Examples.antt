-- Worked examples of what is due, and of when a connection is begun again. Runs stand newest first.
use Rattle.std.proofs.Common.{◌≡◌, ℕ, ◌==◌, zero, suc, true, false, cond, List, [], ◌∷◌, refl, None, Some}
use Rattle.live_net.specs.LiveCalls.{LiveCall, Wait, Receive, Open, Take, Put, Close}
use Rattle.live_net.specs.declared.net.Received.TheVariants as received
use Rattle.live_net.specs.declared.live.WaitEnd.TheVariants as wait_end
use Rattle.live_net.specs.declared.live.PeerOpened.TheVariants as opened
use Rattle.live_net.specs.declared.live.PeerTaken.TheVariants as taken
use Rattle.live_net.specs.declared.live.PeerPut.TheVariants as put
use Rattle.live_turns.specs.Due.{Ways, Ends, IsDue, due}
use Rattle.live_turns.specs.Retry.{may_begin}
use Rattle.live_turns.specs.declared.due.Due.TheVariants as to

-- ---- A turn of two lines and two peers
abbrev two : Ways
two = record { lines = 2; peers = 2 }

-- no link is open; that with peer 0 is, and so many bytes wait for it
abbrev shut : Ends
shut = record { has = λ peer. false; waits = λ peer. [] }

abbrev first_has : List ℕ → Ends
first_has bytes = record { has = λ peer. peer == 0; waits = λ peer. cond (peer == 0) bytes [] }

begins_with_a_wait : due two shut [] ≡ Some (to.Wait false)
begins_with_a_wait = refl

-- line 0 had a datagram, and line 1 none
abbrev woken : List LiveCall
woken = Wait false wait_end.Ready ∷ []

abbrev lines_asked : List LiveCall → List LiveCall
lines_asked run = Receive 1 65536 [] received.Quiet ∷ Receive 0 65536 [] received.Quiet ∷ run

abbrev one_came : List LiveCall
one_came = Receive 0 65536 (7 ∷ []) (received.Got 1) ∷ woken

line_0_first : due two shut woken ≡ Some (to.Receive 0)
line_0_first = refl

-- a datagram is asked for with room for any of UDP
with_room : IsDue two shut woken (Receive 0 65536 [] received.Quiet)
with_room = record { what = to.Receive 0; due_is = refl; made = (refl, refl) }

line_0_again : due two shut one_came ≡ Some (to.Receive 0)
line_0_again = refl

then_line_1 : due two shut (Receive 0 65536 [] received.Quiet ∷ one_came) ≡ Some (to.Receive 1)
then_line_1 = refl

-- then peer 0's connection is begun, and the two bytes of a login are put, which go one by one
peer_0_begins : due two shut (lines_asked one_came) ≡ Some (to.Open 0)
peer_0_begins = refl

abbrev begun : List LiveCall
begun = Open 0 opened.Begun ∷ lines_asked one_came

its_login_is_put : IsDue two (first_has (4 ∷ 5 ∷ [])) begun (Put 0 (4 ∷ 5 ∷ []) (put.Wrote 1))
its_login_is_put = record { what = to.Put 0; due_is = refl; made = (refl, refl) }

abbrev one_put : List LiveCall
one_put = Put 0 (4 ∷ 5 ∷ []) (put.Wrote 1) ∷ begun

what_is_left_too : due two (first_has (5 ∷ [])) one_put ≡ Some (to.Put 0)
what_is_left_too = refl

-- there is no more room: then peer 1's is begun and refused, and the wait is due
abbrev no_room : List LiveCall
no_room = Put 0 (5 ∷ []) put.Full ∷ one_put

then_peer_1 : due two (first_has (5 ∷ [])) no_room ≡ Some (to.Open 1)
then_peer_1 = refl

abbrev one_turn : List LiveCall
one_turn = Open 1 opened.Refused ∷ no_room

then_the_wait : due two (first_has (5 ∷ [])) one_turn ≡ Some (to.Wait false)
then_the_wait = refl

-- in the next turn bytes of peer 0 are taken until it has none, and then what is left is put; peer 1
-- has to wait for a second, and then it is begun
abbrev next_turn : LiveCall → List LiveCall → List LiveCall
next_turn wait run = Take 0 65536 (9 ∷ []) (taken.Got 1) ∷ lines_asked (wait ∷ run)

bytes_are_taken : due two (first_has []) (lines_asked (Wait false wait_end.Ready ∷ one_turn)) ≡ Some (to.Take 0)
bytes_are_taken = refl

and_more_are : due two (first_has []) (next_turn (Wait false wait_end.Ready) one_turn) ≡ Some (to.Take 0)
and_more_are = refl

abbrev all_taken : LiveCall → List LiveCall
all_taken wait = Take 0 65536 [] taken.Quiet ∷ next_turn wait one_turn

then_what_waits_is_put : due two (first_has (5 ∷ [])) (all_taken (Wait false wait_end.Ready)) ≡ Some (to.Put 0)
then_what_waits_is_put = refl

not_yet_peer_1 : due two (first_has []) (all_taken (Wait false wait_end.Ready)) ≡ Some (to.Wait false)
not_yet_peer_1 = refl

peer_1_after_a_second : due two (first_has []) (all_taken (Wait false wait_end.Second)) ≡ Some (to.Open 1)
peer_1_after_a_second = refl

-- a connection whose link is shut is closed, also after bytes that shut it
shut_is_closed : due two shut (lines_asked (Wait false wait_end.Ready ∷ one_turn)) ≡ Some (to.Close 0)
shut_is_closed = refl

shut_by_bytes_too : due two shut (next_turn (Wait false wait_end.Ready) one_turn) ≡ Some (to.Close 0)
shut_by_bytes_too = refl

nothing_after_the_end : due two shut (Wait false wait_end.Over ∷ []) ≡ None
nothing_after_the_end = refl

-- ---- Much that comes
abbrev times : ℕ → LiveCall → List LiveCall → List LiveCall
times zero call run = run
times (suc n) call run = call ∷ times n call run

-- after 63 datagrams the line is asked again; after 64 the other one is, and the wait is told
abbrev datagram : LiveCall
datagram = Receive 0 65536 [] (received.Got 0)

one_more : due two shut (times 63 datagram woken) ≡ Some (to.Receive 0)
one_more = refl

line_is_over : due two shut (times 64 datagram woken) ≡ Some (to.Receive 1)
line_is_over = refl

abbrev one_of_each : Ways
one_of_each = record { lines = 1; peers = 1 }

wait_is_told : due (record { lines = 1; peers = 0 }) shut (times 64 datagram woken) ≡ Some (to.Wait true)
wait_is_told = refl

-- and so with 16 pieces of a peer
abbrev pieces : ℕ → List LiveCall
pieces n = times n (Take 0 65536 (9 ∷ []) (taken.Got 1)) (Receive 0 65536 [] received.Quiet ∷ Wait false wait_end.Ready ∷ Open 0 opened.Begun ∷ [])

a_piece_more : due one_of_each (first_has (5 ∷ [])) (pieces 15) ≡ Some (to.Take 0)
a_piece_more = refl

turn_is_over : due one_of_each (first_has (5 ∷ [])) (pieces 16) ≡ Some (to.Put 0)
turn_is_over = refl

wait_is_told_too : due one_of_each (first_has []) (pieces 16) ≡ Some (to.Wait true)
wait_is_told_too = refl

-- ---- A peer that refuses
abbrev seconds : ℕ → List LiveCall → List LiveCall
seconds n run = times n (Wait false wait_end.Second) run

abbrev refuses : List LiveCall → List LiveCall
refuses run = Open 0 opened.Refused ∷ run

-- it is tried at once, and again after 1, 2 and 4 seconds
abbrev refused_once : List LiveCall
refused_once = refuses []

abbrev refused_twice : List LiveCall
refused_twice = refuses (seconds 1 refused_once)

abbrev refused_thrice : List LiveCall
refused_thrice = refuses (seconds 2 refused_twice)

at_once : may_begin 0 [] ≡ true
at_once = refl

not_at_once_again : may_begin 0 refused_once ≡ false
not_at_once_again = refl

after_1_second : may_begin 0 (seconds 1 refused_once) ≡ true
after_1_second = refl

not_after_1 : may_begin 0 (seconds 1 refused_twice) ≡ false
not_after_1 = refl

after_2_seconds : may_begin 0 (seconds 2 refused_twice) ≡ true
after_2_seconds = refl

not_after_3 : may_begin 0 (seconds 3 refused_thrice) ≡ false
not_after_3 = refl

after_4_seconds : may_begin 0 (seconds 4 refused_thrice) ≡ true
after_4_seconds = refl

-- a connection that stood for 3 seconds, after a pause of 4, has not lasted, so 8 are let pass; one
-- that stood for 4 has, so 1 is, however often that happens
abbrev stood : ℕ → List LiveCall → List LiveCall
stood n run = Take 0 65536 [] taken.Ended ∷ seconds n (Open 0 opened.Begun ∷ run)

abbrev after_a_pause_of_4 : List LiveCall
after_a_pause_of_4 = seconds 4 refused_thrice

not_after_7 : may_begin 0 (seconds 7 (stood 3 after_a_pause_of_4)) ≡ false
not_after_7 = refl

after_8_seconds : may_begin 0 (seconds 8 (stood 3 after_a_pause_of_4)) ≡ true
after_8_seconds = refl

not_at_once_again_either : may_begin 0 (stood 4 after_a_pause_of_4) ≡ false
not_at_once_again_either = refl

after_1_second_again : may_begin 0 (seconds 1 (stood 4 after_a_pause_of_4)) ≡ true
after_1_second_again = refl

and_each_time : may_begin 0 (seconds 1 (stood 3 (seconds 1 (stood 4 after_a_pause_of_4)))) ≡ true
and_each_time = refl

-- one that stands is not begun
not_while_it_stands : may_begin 0 (seconds 99 (Open 0 opened.Begun ∷ [])) ≡ false
not_while_it_stands = refl

-- the tenth pause is no longer than 64 seconds
abbrev ended_ten_times : List LiveCall
ended_ten_times = times 10 (Close 0) []

not_after_63 : may_begin 0 (seconds 63 ended_ten_times) ≡ false
not_after_63 = refl

after_64_seconds : may_begin 0 (seconds 64 ended_ten_times) ≡ true
after_64_seconds = refl
