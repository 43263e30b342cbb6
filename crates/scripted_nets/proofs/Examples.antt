-- Worked examples of what a script answers, and of how calls are listed.
use Rattle.std.proofs.Common.{◌≡◌, true, false, [], ◌∷◌, Some, None, refl}
use Rattle.live_net.specs.LineCalls as line
use Rattle.live_net.specs.LiveCalls.{Wait, Receive, Open, AddsLiveCall, taken_in}
use Rattle.live_net.specs.declared.live.WaitEnd.TheVariants as wait_end
use Rattle.live_net.specs.declared.live.PeerOpened.TheVariants as opened
use Rattle.live_net.specs.declared.live.PeerTaken.TheVariants as taken
use Rattle.live_net.specs.declared.live.PeerPut.TheVariants as put
use Rattle.live_net.specs.declared.net.Received.TheVariants as received
use Rattle.live_net.specs.declared.net.Woken.TheVariants as woken
use Rattle.venue_net.specs.VenueCalls as venue
use Rattle.venue_net.specs.VenueCalls.{AddsVenueCall, read_in}
use Rattle.venue_net.specs.declared.net.InputRead.TheVariants as input
use Rattle.scripted_nets.specs.layers.Lines.{line_calls}
use Rattle.scripted_nets.specs.layers.Logs.{LeavesCalls}
use Rattle.scripted_nets.specs.layers.Scripts.{Turn, Second, Comes, Refuses, Types, EndsInput, Knocks}
use Rattle.scripted_nets.specs.layers.Scripts.{Brings, Ends, HasRoom, wait_end_at, after_wait}
use Rattle.scripted_nets.specs.layers.Scripts.{next_datagram, after_datagram, opened_at, brought}
use Rattle.scripted_nets.specs.layers.Scripts.{taken_at, after_take, put_at, after_put, typed}
use Rattle.scripted_nets.specs.layers.Scripts.{read_at, after_read, lets_in, after_accept}

-- a call is added before those that were listed
a_call_is_added : AddsLiveCall (Some (Open 0 opened.Begun ∷ [])) (Some (Wait false wait_end.Second ∷ Open 0 opened.Begun ∷ [])) (Wait false wait_end.Second)
a_call_is_added = refl

-- a call is added before those that were listed
a_venues_call_is_added : AddsVenueCall (Some (venue.Accept 0 true ∷ [])) (Some (venue.Wait false wait_end.Second ∷ venue.Accept 0 true ∷ [])) (venue.Wait false wait_end.Second)
a_venues_call_is_added = refl

-- to whoever has lines alone, a second is a turn, and a connection was none of the calls
a_second_is_a_turn : line_calls (Some (Wait false wait_end.Second ∷ Open 0 opened.Begun ∷ Receive 1 4 [] received.Quiet ∷ [])) ≡ Some (line.Wait false woken.Ready ∷ line.Receive 1 4 [] received.Quiet ∷ [])
a_second_is_a_turn = refl

-- a call that found no memory leaves no list
no_list_is_left : LeavesCalls (Some (Open 0 opened.Begun ∷ [])) None (Open 1 opened.Begun) false
no_list_is_left = refl

-- of a slice of four, two bytes were taken
two_were_taken : taken_in (taken.Got 2) (7 ∷ 8 ∷ 0 ∷ 0 ∷ []) ≡ 7 ∷ 8 ∷ []
two_were_taken = refl

-- of a slice of four, two bytes were read
two_were_read : read_in (input.Got 2) (7 ∷ 8 ∷ 0 ∷ 0 ∷ []) ≡ 7 ∷ 8 ∷ []
two_were_read = refl

-- a wait: a second is told once, a datagram ends it and stays, and the end of the script is told
a_second_is_told : wait_end_at (Second ∷ Turn ∷ []) ≡ wait_end.Second
a_second_is_told = refl

a_second_is_told_once : after_wait (Second ∷ Turn ∷ []) ≡ Turn ∷ []
a_second_is_told_once = refl

a_datagram_ends_a_wait : wait_end_at (Comes 1 (9 ∷ []) ∷ []) ≡ wait_end.Ready
a_datagram_ends_a_wait = refl

a_wait_leaves_a_datagram : after_wait (Comes 1 (9 ∷ []) ∷ []) ≡ Comes 1 (9 ∷ []) ∷ []
a_wait_leaves_a_datagram = refl

the_end_is_told : wait_end_at [] ≡ wait_end.Over
the_end_is_told = refl

-- a datagram of line 1
it_is_of_its_line : next_datagram 1 (Comes 1 (9 ∷ []) ∷ []) ≡ Some (9 ∷ [])
it_is_of_its_line = refl

it_is_of_no_other : next_datagram 0 (Comes 1 (9 ∷ []) ∷ []) ≡ None
it_is_of_no_other = refl

it_is_taken_out : after_datagram 1 (Comes 1 (9 ∷ []) ∷ Turn ∷ []) ≡ Turn ∷ []
it_is_taken_out = refl

-- peer 2 refuses, and no other
it_refuses : opened_at 2 (Refuses 2 ∷ []) ≡ opened.Refused
it_refuses = refl

no_other_refuses : opened_at 3 (Refuses 2 ∷ []) ≡ opened.Begun
no_other_refuses = refl

-- of three bytes a slice of two takes two, and the third stays
two_are_taken : taken_at 2 2 (Brings 2 (4 ∷ 5 ∷ 6 ∷ []) ∷ Ends 2 ∷ []) ≡ taken.Got 2
two_are_taken = refl

they_are_the_first : brought 2 (Brings 2 (4 ∷ 5 ∷ 6 ∷ []) ∷ Ends 2 ∷ []) ≡ 4 ∷ 5 ∷ 6 ∷ []
they_are_the_first = refl

the_third_stays : after_take 2 2 (Brings 2 (4 ∷ 5 ∷ 6 ∷ []) ∷ Ends 2 ∷ []) ≡ Brings 2 (6 ∷ []) ∷ Ends 2 ∷ []
the_third_stays = refl

the_end_comes_after_it : after_take 2 2 (Brings 2 (6 ∷ []) ∷ Ends 2 ∷ []) ≡ Ends 2 ∷ []
the_end_comes_after_it = refl

an_end_is_told : taken_at 2 2 (Ends 2 ∷ []) ≡ taken.Ended
an_end_is_told = refl

another_is_quiet : taken_at 1 2 (Ends 2 ∷ []) ≡ taken.Quiet
another_is_quiet = refl

no_bytes_are_quiet : taken_at 2 2 (Brings 2 [] ∷ []) ≡ taken.Quiet
no_bytes_are_quiet = refl

-- of five bytes an end with room for three takes three, one without room none, and one of which
-- nothing is said all
three_are_written : put_at 0 5 (HasRoom 0 3 ∷ []) ≡ put.Wrote 3
three_are_written = refl

no_more_than_were_put : put_at 0 5 (HasRoom 0 8 ∷ []) ≡ put.Wrote 5
no_more_than_were_put = refl

there_is_no_room : put_at 0 5 (HasRoom 0 0 ∷ []) ≡ put.Full
there_is_no_room = refl

all_are_written : put_at 0 5 (HasRoom 1 3 ∷ []) ≡ put.Wrote 5
all_are_written = refl

a_put_is_told_the_end : put_at 0 5 (Ends 0 ∷ []) ≡ put.Ended
a_put_is_told_the_end = refl

the_room_is_taken_out : after_put 0 (HasRoom 0 3 ∷ Turn ∷ []) ≡ Turn ∷ []
the_room_is_taken_out = refl

-- of three bytes of the input a slice of two takes two, and the third stays
two_are_read : read_at 2 (Types (4 ∷ 5 ∷ 6 ∷ []) ∷ EndsInput ∷ []) ≡ input.Got 2
two_are_read = refl

they_are_typed : typed (Types (4 ∷ 5 ∷ 6 ∷ []) ∷ EndsInput ∷ []) ≡ 4 ∷ 5 ∷ 6 ∷ []
they_are_typed = refl

the_third_is_next : after_read 2 (Types (4 ∷ 5 ∷ 6 ∷ []) ∷ EndsInput ∷ []) ≡ Types (6 ∷ []) ∷ EndsInput ∷ []
the_third_is_next = refl

then_it_ends : after_read 2 (Types (6 ∷ []) ∷ EndsInput ∷ []) ≡ EndsInput ∷ []
then_it_ends = refl

the_input_ends : read_at 2 (EndsInput ∷ []) ≡ input.Ended
the_input_ends = refl

no_bytes_of_it : read_at 2 (Types [] ∷ []) ≡ input.Quiet
no_bytes_of_it = refl

it_waits_for_a_client : read_at 2 (Knocks 0 ∷ Types (4 ∷ []) ∷ []) ≡ input.Quiet
it_waits_for_a_client = refl

-- a client waits at the door of place 2, and at no other
it_is_let_in : lets_in 2 (Knocks 2 ∷ []) ≡ true
it_is_let_in = refl

nobody_waits_at_another : lets_in 3 (Knocks 2 ∷ []) ≡ false
nobody_waits_at_another = refl

it_stays_at_its_door : after_accept 3 (Knocks 2 ∷ []) ≡ Knocks 2 ∷ []
it_stays_at_its_door = refl

it_waits_no_more : after_accept 2 (Knocks 2 ∷ Turn ∷ []) ≡ Turn ∷ []
it_waits_no_more = refl
