-- A small run, call by call: one line, unit 7, and its proxy. The calls, and what came, stand newest
-- first.
use Rattle.std.proofs.Common.{◌≡◌, ◌≢◌, ◌≤◌, ℕ, zero, suc, ◌+◌, Bool, true, false, true≢false, ◌||◌, eqb, List, [], ◌∷◌, inl, refl, sym, ap, subst, arith, Some, None, codes}
use Rattle.std.proofs.lemmas.Bool.{cond-false, ne_eqb}
use Rattle.std.specs.Fmt.{digits}
use Rattle.unit_packets.specs.BlockBytes.{block_bytes}
use Rattle.unit_packets.specs.Cutting.{blocks_of, blocks_by, rest_of, rest_by}
use Rattle.unit_packets.specs.Judging.{judge, messages_end}
use Rattle.pitch_messages.specs.Raw.{raws_of}
use Rattle.pitch_messages.specs.Session.{session_reads, session_written}
use Rattle.pitch_model.specs.Reach.{reach_of, held_count}
use Rattle.session_ends.specs.Items.{stream_items}
use Rattle.feed_lines.specs.Follow.{block_line}
use Rattle.client_end.specs.Came.{Came, GrpMade, GrpTook, Heard, Second}
use Rattle.sending_end.specs.declared.session.Session.TheVariants.{Proxy}
use Rattle.live_net.specs.LiveCalls.{LiveCall, Wait, Receive, Open, Take, Put}
use Rattle.live_net.specs.declared.net.Received.TheVariants as received
use Rattle.live_net.specs.declared.live.WaitEnd.TheVariants as wait_end
use Rattle.live_net.specs.declared.live.PeerOpened.TheVariants as opened
use Rattle.live_net.specs.declared.live.PeerTaken.TheVariants as taken
use Rattle.live_net.specs.declared.live.PeerPut.TheVariants as put
use Rattle.live_turns.specs.Due.{IsDue, IsMade, due}
use Rattle.live_turns.specs.declared.due.Due.{Due}
use Rattle.live_turns.specs.declared.due.Due.TheVariants as to
use Rattle.sending_end.specs.Waiting.{waits_after}
use Rattle.live_units.specs.Coming.{end_setup, live_lines, state_at, to_unit, with_datagram}
use Rattle.line_copies.specs.Sums.{mixed, sum_of}
use Rattle.live_recovery.specs.Counting.{counts_of}
use Rattle.live_recovery.specs.Disagreeing.{first_disagreement}
use Rattle.live_recovery.specs.Recovering.{HaveEnded}
use Rattle.live_recovery.specs.Running.{Brings, MayCall, Now, PassSeconds, PassesSecond, Runs, Setup, are_ended, at_first, ends_now, had_come, ways}
use Rattle.live_recovery.specs.declared.peer.Peer.{Peer}
use Rattle.live_recovery.proofs.Bringing.{comes_now, comes_so, same_still}

-- ---- What there is
abbrev proxy : Peer
proxy = record { unit = 7; session = Proxy }

abbrev seven : Setup
seven = record {
  lines = 1;
  peers = proxy ∷ [];
  listens = record {
    units = 7 ∷ [];
    account = record { sub = codes "0001"; user = codes "FEED"; password = codes "PITCH     " };
    hold = 10;
  };
}

-- a packet of unit 7 with one message, and the line's answer
abbrev delete : List ℕ
delete = 14 ∷ 0x29 ∷ 0 ∷ 0 ∷ 0 ∷ 0 ∷ 5 ∷ 0 ∷ 0 ∷ 0 ∷ 0 ∷ 0 ∷ 0 ∷ 0 ∷ []

abbrev packet : ℕ → List ℕ
packet sequence = 22 ∷ 0 ∷ 1 ∷ 7 ∷ sequence ∷ 0 ∷ 0 ∷ 0 ∷ delete

abbrev came_1 : ℕ → Came
came_1 sequence = Heard (record { unit = 7; sequence = sequence; raws = delete ∷ [] })

abbrev gives : ℕ → LiveCall
gives sequence = Receive 0 65536 (packet sequence) (received.Got 22)

abbrev quiet : LiveCall
quiet = Receive 0 65536 [] received.Quiet

abbrev hears : ℕ → Now → Now
hears sequence now = record { came = with_datagram seven.listens (packet sequence) now.came; waits = now.waits }

-- ---- The packet with message 2 is lost
abbrev a_gap : Now
a_gap = hears 3 (hears 1 at_first)

abbrev line_asked : List LiveCall
line_asked = quiet ∷ gives 3 ∷ gives 1 ∷ Wait false wait_end.Ready ∷ []

two_came : a_gap.came ≡ to_unit 7 (came_1 3) ∷ to_unit 7 (came_1 1) ∷ []
unfolding blocks_of blocks_by rest_of rest_by judge messages_end raws_of
two_came = refl

-- then the proxy's connection is begun, and its login is put
the_proxy_is_called : IsDue (ways seven) (ends_now seven a_gap) line_asked (Open 0 opened.Begun)
the_proxy_is_called = record { what = to.Open 0; due_is = refl; made = refl }

abbrev made : Now
made = comes_now seven 7 GrpMade a_gap

abbrev login : List ℕ
login = 30 ∷ 0 ∷ 1 ∷ 0 ∷ 0 ∷ 0 ∷ 0 ∷ 0 ∷ 22 ∷ 1 ∷ codes "0001FEED  PITCH     "

it_brings_a_link : Brings seven (Open 0 opened.Begun) a_gap made
it_brings_a_link = (proxy, (refl, inl (comes_so seven 7 GrpMade a_gap)))

abbrev begun : List LiveCall
begun = Open 0 opened.Begun ∷ line_asked

the_login_is_put : IsDue (ways seven) (ends_now seven made) begun (Put 0 login (put.Wrote 30))
unfolding block_bytes session_written
the_login_is_put = record { what = to.Put 0; due_is = refl; made = (refl, refl) }

-- all of it goes, nothing waits, and the wait is due
abbrev put_all : Now
put_all = record { came = made.came; waits = λ unit session. [] }

abbrev logged_in : List LiveCall
logged_in = Put 0 login (put.Wrote 30) ∷ begun

then_the_wait : due (ways seven) (ends_now seven put_all) logged_in ≡ Some (to.Wait false)
then_the_wait = refl

-- ---- The proxy accepts it, and a second passes
abbrev accepted : List ℕ
accepted = 11 ∷ 0 ∷ 1 ∷ 0 ∷ 0 ∷ 0 ∷ 0 ∷ 0 ∷ 3 ∷ 0x02 ∷ 65 ∷ []

abbrev next_turn : List LiveCall
next_turn = quiet ∷ Wait false wait_end.Ready ∷ logged_in

it_is_taken : IsDue (ways seven) (ends_now seven put_all) next_turn (Take 0 65536 accepted (taken.Got 11))
unfolding blocks_of blocks_by rest_of rest_by judge messages_end raws_of
it_is_taken = record { what = to.Take 0; due_is = refl; made = (refl, refl) }

abbrev up : Now
up = comes_now seven 7 (GrpTook accepted) put_all

it_is_heard : Brings seven (Take 0 65536 accepted (taken.Got 11)) put_all up
it_is_heard = (proxy, (refl, inl (comes_so seven 7 (GrpTook accepted) put_all)))

-- each unit has its second, and those that are not listened to are passed over
abbrev asking : Now
asking = comes_now seven 7 Second up

passed_over : (now : Now) (unit : ℕ) → unit ≢ 7 → PassesSecond seven unit now now
passed_over now unit other =
    let none : (eqb 7 unit || false) ≡ false = ap (λ (b : Bool). b || false) (ne_eqb 7 unit (λ is. other (sym is))) in
    inl (record {
      came_is = sym (cond-false (eqb 7 unit || false) (to_unit unit Second ∷ now.came) now.came none);
      here = λ session. sym (cond-false (eqb 7 unit || false) (waits_after session (end_setup seven.listens unit) Second (state_at seven.listens unit now.came) (now.waits unit session)) (now.waits unit session) none);
      others = λ unit session apart. refl;
    })

below_7 : (count : ℕ) → count ≤ 7 → PassSeconds seven count up up
below_7 zero few = same_still up
below_7 (suc unit) few = (up, (below_7 unit (omega (arith, few)), passed_over up unit (λ is. omega (arith, few, is))))

from_7 : (count : ℕ) → PassSeconds seven (count + 8) up asking
from_7 zero = (up, (below_7 7 (omega arith), inl (comes_so seven 7 Second up)))
from_7 (suc count) =
    let next : suc (count + 8) ≡ suc count + 8 = omega arith in
    subst (λ (n : ℕ). PassSeconds seven n up asking) next (asking, (from_7 count, passed_over asking (count + 8) (λ is. omega (arith, is))))

-- the message that is lost is asked for
abbrev request : List ℕ
request = 17 ∷ 0 ∷ 1 ∷ 0 ∷ 0 ∷ 0 ∷ 0 ∷ 0 ∷ 9 ∷ 0x03 ∷ 7 ∷ 2 ∷ 0 ∷ 0 ∷ 0 ∷ 1 ∷ 0 ∷ []

message_2_is_asked_for : asking.waits 7 Proxy ≡ request
unfolding stream_items blocks_of blocks_by rest_of rest_by judge messages_end raws_of session_reads block_bytes session_written reach_of held_count
message_2_is_asked_for = refl

-- ---- The first calls, one after another
module _ (what : Due) (call : LiveCall) (before : List LiveCall) (now now' : Now) where
  on : Runs seven before now → first_disagreement now.came ≡ None → MayCall seven now.came call → due (ways seven) (ends_now seven now) before ≡ Some what → IsMade (ends_now seven now) what call → Brings seven call now now' → Runs seven (call ∷ before) now'
  on run agreed may is made brings = (now, (run, record { agreed = agreed; may = may; is_due = record { what = what; due_is = is; made = made }; brings = brings }))

up_to_the_line : Runs seven line_asked a_gap
unfolding blocks_of blocks_by rest_of rest_by judge messages_end raws_of
up_to_the_line =
    on (to.Receive 0) quiet (gives 3 ∷ gives 1 ∷ Wait false wait_end.Ready ∷ []) a_gap a_gap
    (on (to.Receive 0) (gives 3) (gives 1 ∷ Wait false wait_end.Ready ∷ []) (hears 1 at_first) a_gap
    (on (to.Receive 0) (gives 1) (Wait false wait_end.Ready ∷ []) at_first (hears 1 at_first)
    (on (to.Wait false) (Wait false wait_end.Ready) [] at_first at_first (same_still at_first) refl refl refl refl (same_still at_first)) refl tt refl (refl, refl) (record { came_is = refl; waits = λ unit session. refl }))
    refl tt refl (refl, refl) (record { came_is = refl; waits = λ unit session. refl }))
    refl tt refl (refl, refl) (same_still a_gap)

-- ---- It comes on the line
the_lines : live_lines seven.listens (hears 2 asking).came
    ≡ codes "block 1 unit 7 first 1 count 1; current 1\nblock 2 unit 7 first 3 count 1; behind 1 of 3\nblock 3 unit 7 first 2 count 1; current 3\n"
unfolding stream_items blocks_of blocks_by rest_of rest_by judge messages_end raws_of session_reads reach_of held_count block_line digits
the_lines = refl

-- ---- Copies that differ
-- the same packet comes again on another line, and then another message 3: the venue began anew
abbrev other_packet : List ℕ
other_packet = 22 ∷ 0 ∷ 1 ∷ 7 ∷ 3 ∷ 0 ∷ 0 ∷ 0 ∷ 14 ∷ 0x29 ∷ 0 ∷ 0 ∷ 0 ∷ 0 ∷ 6 ∷ 0 ∷ 0 ∷ 0 ∷ 0 ∷ 0 ∷ 0 ∷ 0 ∷ []

copies_agree : first_disagreement (hears 3 a_gap).came ≡ None
unfolding blocks_of blocks_by rest_of rest_by judge messages_end raws_of sum_of mixed
copies_agree = refl

copies_differ : first_disagreement (with_datagram seven.listens other_packet a_gap.came) ≡ Some (record { unit = 7; sequence = 3 })
unfolding blocks_of blocks_by rest_of rest_by judge messages_end raws_of sum_of mixed
copies_differ = refl

-- what came at a session since then is passed over, and the first is told
the_first_is_told : first_disagreement (with_datagram seven.listens (packet 3) (to_unit 7 Second ∷ with_datagram seven.listens other_packet a_gap.came)) ≡ Some (record { unit = 7; sequence = 3 })
unfolding blocks_of blocks_by rest_of rest_by judge messages_end raws_of sum_of mixed
the_first_is_told = refl

-- ---- The units have ended
-- unit 7's fourth message is an End of Session: behind the gap it ends nothing, and with the message
-- that was lost it does
abbrev end_packet : List ℕ
end_packet = 14 ∷ 0 ∷ 1 ∷ 7 ∷ 4 ∷ 0 ∷ 0 ∷ 0 ∷ 6 ∷ 0x2d ∷ 0 ∷ 0 ∷ 0 ∷ 0 ∷ []

abbrev hears_end : Now → Now
hears_end now = record { came = with_datagram seven.listens end_packet now.came; waits = now.waits }

behind_a_gap : are_ended seven (hears_end a_gap).came ≡ false
unfolding blocks_of blocks_by rest_of rest_by judge messages_end raws_of reach_of held_count
behind_a_gap = refl

abbrev all_came : Now
all_came = hears 2 (hears_end a_gap)

they_have_ended : are_ended seven all_came.came ≡ true
unfolding blocks_of blocks_by rest_of rest_by judge messages_end raws_of reach_of held_count
they_have_ended = refl

-- where no unit is named none ends
abbrev unnamed : Setup
unnamed = record seven { listens = record { units = []; account = seven.listens.account; hold = 10 } }

none_is_named : are_ended unnamed all_came.came ≡ false
none_is_named = refl

-- and with no peer to ask
abbrev alone : Setup
alone = record seven { peers = [] }

-- the line is still asked until it is quiet, and the run ends where the wait would be due; no
-- wait may be made
abbrev with_the_end : List LiveCall
with_the_end = gives 2 ∷ Receive 0 65536 end_packet (received.Got 14) ∷ Wait false wait_end.Ready ∷ quiet ∷ []

the_line_is_asked : due (ways alone) (ends_now alone all_came) with_the_end ≡ Some (to.Receive 0)
the_line_is_asked = refl

the_run_ends : HaveEnded alone (quiet ∷ with_the_end) all_came
unfolding blocks_of blocks_by rest_of rest_by judge messages_end raws_of reach_of held_count
the_run_ends = record { are = refl; more = false; is_due = refl }

no_wait_is_made : MayCall alone all_came.came (Wait false wait_end.Ready) → ⊥
unfolding blocks_of blocks_by rest_of rest_by judge messages_end raws_of reach_of held_count
no_wait_is_made none = true≢false none

-- ---- What is written before a wait
-- in the first turn message 1 comes, and then the wait is due
module _ (what : Due) (call : LiveCall) (before : List LiveCall) (now now' : Now) where
  alone_on : Runs alone before now → first_disagreement now.came ≡ None → MayCall alone now.came call → due (ways alone) (ends_now alone now) before ≡ Some what → IsMade (ends_now alone now) what call → Brings alone call now now' → Runs alone (call ∷ before) now'
  alone_on run agreed may is made brings = (now, (run, record { agreed = agreed; may = may; is_due = record { what = what; due_is = is; made = made }; brings = brings }))

abbrev one_came : Now
one_came = hears 1 at_first

abbrev first_turn : List LiveCall
first_turn = quiet ∷ gives 1 ∷ Wait false wait_end.Ready ∷ []

up_to_the_wait : Runs alone first_turn one_came
unfolding blocks_of blocks_by rest_of rest_by judge messages_end raws_of
up_to_the_wait =
    alone_on (to.Receive 0) quiet (gives 1 ∷ Wait false wait_end.Ready ∷ []) one_came one_came
    (alone_on (to.Receive 0) (gives 1) (Wait false wait_end.Ready ∷ []) at_first one_came
    (alone_on (to.Wait false) (Wait false wait_end.Ready) [] at_first at_first (same_still at_first) refl refl refl refl (same_still at_first)) refl tt refl (refl, refl) (record { came_is = refl; waits = λ unit session. refl }))
    refl tt refl (refl, refl) (same_still one_came)

second_wait : Runs alone (Wait false wait_end.Ready ∷ first_turn) one_came
unfolding blocks_of blocks_by rest_of rest_by judge messages_end raws_of reach_of held_count
second_wait = alone_on (to.Wait false) (Wait false wait_end.Ready) first_turn one_came one_came up_to_the_wait refl refl refl refl (same_still one_came)

-- its line need not be written before that wait is made, and has to be by then
nothing_is_shown : had_come alone first_turn one_came up_to_the_wait ≡ []
unfolding up_to_the_wait alone_on
nothing_is_shown = refl

message_1_is_shown : had_come alone (Wait false wait_end.Ready ∷ first_turn) one_came second_wait ≡ one_came.came
unfolding second_wait alone_on
message_1_is_shown = refl

-- ---- What is counted
-- a datagram without bytes, and one with a block of unit 2 and a byte behind a block of unit 7
abbrev with_a_rest : List ℕ
with_a_rest = 8 ∷ 0 ∷ 0 ∷ 7 ∷ 2 ∷ 0 ∷ 0 ∷ 0 ∷ 8 ∷ 0 ∷ 0 ∷ 2 ∷ 1 ∷ 0 ∷ 0 ∷ 0 ∷ 255 ∷ []

three_datagrams : counts_of seven.listens (Receive 0 65536 [] (received.Got 0) ∷ Receive 0 65536 with_a_rest (received.Got 17) ∷ line_asked) ≡ record { datagrams = 4; faulty = 2; blocks = 3; stray = 1 }
unfolding blocks_of blocks_by rest_of rest_by judge messages_end raws_of
three_datagrams = refl
