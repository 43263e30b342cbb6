-- Worked examples of venue's ends, computed by the definitions. What came stands newest first.
use Rattle.std.proofs.Common.{◌≡◌, ℕ, List, [], ◌∷◌, ◌++◌, map, refl}
use Rattle.std.specs.Prelude.{codes}
use Rattle.pitch_text.specs.declared.command.Command.TheVariants.{Time, Reduce}
use Rattle.pitch_messages.specs.Raw.{raws_of}
use Rattle.pitch_messages.specs.Reading.{reads}
use Rattle.pitch_messages.specs.Session.{session_reads, session_written}
use Rattle.pitch_messages.specs.Writing.{written}
use Rattle.unit_packets.specs.BlockBytes.{block_bytes}
use Rattle.unit_packets.specs.Cutting.{blocks_of, blocks_by, rest_of, rest_by}
use Rattle.unit_packets.specs.Judging.{judge, messages_end}
use Rattle.unit_packets.specs.Packing.{fits_datagram, packed_on}
use Rattle.session_ends.specs.Closing.{login_status}
use Rattle.session_ends.specs.Items.{stream_items}
use Rattle.grp_session.specs.Asking.{status_here}
use Rattle.venue_end.specs.Came.{VenueCame, Commanded, Flushed, Beaten, Advertised, ProxyMade, ProxyTook, ProxyPut, ProxyCut, SpinMade, SpinTook, SpinPumped, SpinCut, Second, AllCut, venue_after, on_lines, on_gap_line}
use Rattle.venue_end.specs.Servers.{limits_of}
use Rattle.venue_end.specs.Sessions.{session_of, waiting_in}
use Rattle.venue_end.specs.declared.setup.VenueSetup.{VenueSetup}

-- an end of unit 7, whose proxy accepts one request a second
abbrev seven : VenueSetup
seven = record {
  unit = 7;
  account = record { sub = codes "0001"; user = codes "FEED"; password = codes "PITCH     " };
  kept = 3;
  second = 1;
  minute = 5;
  day = 6;
}

-- what waits for a session with the proxy, or with the Spin Server
abbrev to_proxy : ℕ → List VenueCame → List ℕ
to_proxy id came = waiting_in (session_of id (venue_after seven came).proxies)

abbrev to_spin : ℕ → List VenueCame → List ℕ
to_spin id came = waiting_in (session_of id (venue_after seven came).spins)

-- what goes on the lines, and on the gap line, when this comes after that
abbrev sent : VenueCame → List VenueCame → List (List ℕ)
sent came before = on_lines seven came (venue_after seven before)

abbrev resent : VenueCame → List VenueCame → List (List ℕ)
resent came before = on_gap_line seven came (venue_after seven before)

-- ---- What comes
-- a login, and a request for one message of unit 7, from a sequence on
abbrev login : ℕ → List ℕ
login unit = 30 ∷ 0 ∷ 1 ∷ unit ∷ 0 ∷ 0 ∷ 0 ∷ 0 ∷ 22 ∷ 1 ∷ codes "0001FEED  PITCH     "

abbrev asks_for : ℕ → List ℕ
asks_for sequence = 17 ∷ 0 ∷ 1 ∷ 0 ∷ 0 ∷ 0 ∷ 0 ∷ 0 ∷ 9 ∷ 0x03 ∷ 7 ∷ sequence ∷ 0 ∷ 0 ∷ 0 ∷ 1 ∷ 0 ∷ []

-- a request for the image through a sequence
abbrev asks_for_image : ℕ → List ℕ
asks_for_image sequence = 14 ∷ 0 ∷ 1 ∷ 7 ∷ 0 ∷ 0 ∷ 0 ∷ 0 ∷ 6 ∷ 0x81 ∷ sequence ∷ 0 ∷ 0 ∷ 0 ∷ []

-- ---- What is said
abbrev login_accepted : ℕ → List ℕ
login_accepted unit = 11 ∷ 0 ∷ 1 ∷ unit ∷ 0 ∷ 0 ∷ 0 ∷ 0 ∷ 3 ∷ 0x02 ∷ 65 ∷ []

abbrev gap_reply : ℕ → ℕ → List ℕ
gap_reply sequence status = 18 ∷ 0 ∷ 1 ∷ 0 ∷ 0 ∷ 0 ∷ 0 ∷ 0 ∷ 10 ∷ 0x04 ∷ 7 ∷ sequence ∷ 0 ∷ 0 ∷ 0 ∷ 1 ∷ 0 ∷ status ∷ []

abbrev heartbeat : ℕ → List ℕ
heartbeat unit = 8 ∷ 0 ∷ 0 ∷ unit ∷ 0 ∷ 0 ∷ 0 ∷ 0 ∷ []

abbrev available : ℕ → List ℕ
available sequence = 14 ∷ 0 ∷ 1 ∷ 7 ∷ 0 ∷ 0 ∷ 0 ∷ 0 ∷ 6 ∷ 0x80 ∷ sequence ∷ 0 ∷ 0 ∷ 0 ∷ []

-- ---- The venue
-- the message of a second, and a datagram of one message
abbrev second_is : ℕ → List ℕ
second_is n = 6 ∷ 0x20 ∷ n ∷ 0 ∷ 0 ∷ 0 ∷ []

abbrev datagram : ℕ → List ℕ → List ℕ
datagram sequence raw = 14 ∷ 0 ∷ 1 ∷ 7 ∷ sequence ∷ 0 ∷ 0 ∷ 0 ∷ raw

-- the second of three commands is refused, since it asks for no shares
abbrev two_accepted : List VenueCame
two_accepted = Commanded (Time 34) ∷ Commanded (Reduce 9 0 0) ∷ Commanded (Time 33) ∷ []

two_of_three : (venue_after seven two_accepted).messages ≡ second_is 33 ∷ second_is 34 ∷ []
unfolding reads written
two_of_three = refl

-- what was not sent yet is sent once
a_flush : sent Flushed (Commanded (Time 34) ∷ Flushed ∷ Commanded (Time 33) ∷ []) ≡ datagram 2 (second_is 34) ∷ []
unfolding reads written block_bytes fits_datagram packed_on
a_flush = refl

nothing_twice : sent Flushed (Flushed ∷ two_accepted) ≡ []
unfolding reads written block_bytes fits_datagram packed_on
nothing_twice = refl

-- a heartbeat tells the first that was not sent
a_beat : sent Beaten (Commanded (Time 34) ∷ Flushed ∷ Commanded (Time 33) ∷ []) ≡ (8 ∷ 0 ∷ 0 ∷ 7 ∷ 2 ∷ 0 ∷ 0 ∷ 0 ∷ []) ∷ []
unfolding reads written block_bytes fits_datagram packed_on
a_beat = refl

-- ---- The proxy
-- the account's limits, each at its place
its_minute : (limits_of seven).minute ≡ 5
its_minute = refl

its_day : (limits_of seven).day ≡ 6
its_day = refl

-- two sessions log in, and the first one asks
abbrev two_logged : List VenueCame
two_logged = ProxyTook 2 (login 0) ∷ ProxyTook 1 (login 0) ∷ ProxyMade 2 ∷ ProxyMade 1 ∷ two_accepted

abbrev one_asked : List VenueCame
one_asked = ProxyTook 1 (asks_for 2) ∷ two_logged

an_answer : to_proxy 1 one_asked ≡ login_accepted 0 ++ gap_reply 2 65
unfolding reads written stream_items blocks_of blocks_by rest_of rest_by judge messages_end raws_of session_reads login_status status_here block_bytes session_written
an_answer = refl

its_range_on_the_gap_line : resent (ProxyTook 1 (asks_for 2)) two_logged ≡ datagram 2 (second_is 34) ∷ []
unfolding reads written stream_items blocks_of blocks_by rest_of rest_by judge messages_end raws_of session_reads login_status status_here block_bytes session_written fits_datagram packed_on
its_range_on_the_gap_line = refl

-- the other one has no budget of its own: `S`, and a second later `A`
one_budget : to_proxy 2 (ProxyTook 2 (asks_for 1) ∷ one_asked) ≡ login_accepted 0 ++ gap_reply 1 83
unfolding reads written stream_items blocks_of blocks_by rest_of rest_by judge messages_end raws_of session_reads login_status status_here block_bytes session_written
one_budget = refl

nor_has_a_new_one : to_proxy 3 (ProxyTook 3 (login 0 ++ asks_for 1) ∷ ProxyMade 3 ∷ ProxyCut 1 ∷ one_asked) ≡ login_accepted 0 ++ gap_reply 1 83
unfolding reads written stream_items blocks_of blocks_by rest_of rest_by judge messages_end raws_of session_reads login_status status_here block_bytes session_written
nor_has_a_new_one = refl

the_next_second : to_proxy 2 (ProxyTook 2 (asks_for 1) ∷ Second ∷ one_asked) ≡ login_accepted 0 ++ gap_reply 1 65
unfolding reads written stream_items blocks_of blocks_by rest_of rest_by judge messages_end raws_of session_reads login_status status_here block_bytes session_written
the_next_second = refl

-- a heartbeat is due where nothing was said since the last second
heartbeats_to_both : map (λ session. session.waiting) (venue_after seven (Second ∷ ProxyPut 2 11 ∷ Second ∷ two_logged)).proxies ≡ (login_accepted 0 ++ heartbeat 0) ∷ heartbeat 0 ∷ []
unfolding reads written stream_items blocks_of blocks_by rest_of rest_by judge messages_end raws_of session_reads login_status block_bytes session_written
heartbeats_to_both = refl

-- a session that is not there is answered nothing, and spends nothing
not_there : venue_after seven (ProxyTook 9 (asks_for 1) ∷ two_logged) ≡ venue_after seven two_logged
unfolding reads written
not_there = refl

-- one that is made anew has nothing that waits
made_anew : to_proxy 1 (ProxyMade 1 ∷ one_asked) ≡ []
unfolding reads written
made_anew = refl

-- all sessions end at once
all_end : (venue_after seven (AllCut ∷ one_asked)).proxies ≡ []
all_end = refl

-- ---- The Spin Server
abbrev two_spins : List VenueCame
two_spins = SpinTook 5 (login 7) ∷ SpinTook 4 (login 7) ∷ SpinMade 5 ∷ SpinMade 4 ∷ two_accepted

-- both are told of the image of both messages
both_are_told : map (λ session. session.waiting) (venue_after seven (Advertised ∷ two_spins)).spins
    ≡ (login_accepted 7 ++ available 2) ∷ (login_accepted 7 ++ available 2) ∷ []
unfolding reads written stream_items blocks_of blocks_by rest_of rest_by judge messages_end raws_of session_reads login_status block_bytes session_written
both_are_told = refl

-- the image through 2 is asked for
abbrev spinning : List VenueCame
spinning = SpinTook 4 (asks_for_image 2) ∷ Advertised ∷ two_spins

-- the other session stays where one is cut
the_other_stays : map (λ session. session.id) (venue_after seven (SpinCut 5 ∷ SpinPumped 4 ∷ spinning)).spins ≡ 4 ∷ []
unfolding reads written stream_items blocks_of blocks_by rest_of rest_by judge messages_end raws_of session_reads login_status
the_other_stays = refl
