-- Worked examples of ends, computed by the definitions. What came stands newest first.
use Rattle.std.proofs.Common.{◌≡◌, ℕ, List, [], ◌∷◌, ◌++◌, refl, Some, None}
use Rattle.std.specs.Prelude.{codes}
use Rattle.unit_packets.specs.BlockBytes.{block_bytes}
use Rattle.unit_packets.specs.Cutting.{blocks_of, blocks_by, rest_of, rest_by}
use Rattle.unit_packets.specs.Judging.{judge, messages_end}
use Rattle.pitch_messages.specs.Raw.{raws_of}
use Rattle.pitch_messages.specs.Session.{session_reads, session_written}
use Rattle.pitch_model.specs.declared.ask.Ask.TheVariants.{Gap}
use Rattle.pitch_model.specs.History.{Next, Ticked, GrpUp, GrpDown, SpinUp, SpinDown, Advertised}
use Rattle.pitch_model.specs.Reach.{reach_of, held_count}
use Rattle.session_ends.specs.Items.{stream_items}
use Rattle.client_end.specs.Came.{Came, EndSetup, Heard, GrpMade, GrpTook, GrpCut, SpinMade, SpinTook, Second, end_after, end_history, second_ask, to_proxy, to_spin_server}

-- an end of unit 7, whose hold has two places
abbrev seven : EndSetup
seven = record {
  unit = 7;
  account = record { sub = codes "0001"; user = codes "FEED"; password = codes "PITCH     " };
  hold = 2;
}

-- what it says when this comes after that
abbrev grp_bytes : Came → List Came → List ℕ
grp_bytes came before = to_proxy seven came (end_after seven before)

abbrev spin_bytes : Came → List Came → List ℕ
spin_bytes came before = to_spin_server seven came (end_after seven before)

-- ---- What comes
-- a heartbeat, whose next message would be the fifth
abbrev fourth_was_sent : Came
fourth_was_sent = Heard (record { unit = 7; sequence = 5; raws = [] })

-- a login is accepted, or refused
abbrev login_reply : ℕ → List ℕ
login_reply status = 11 ∷ 0 ∷ 1 ∷ 0 ∷ 0 ∷ 0 ∷ 0 ∷ 0 ∷ 3 ∷ 0x02 ∷ status ∷ []

-- the image through the fourth message is advertised
abbrev fourth_available : List ℕ
fourth_available = 14 ∷ 0 ∷ 1 ∷ 7 ∷ 0 ∷ 0 ∷ 0 ∷ 0 ∷ 6 ∷ 0x80 ∷ 4 ∷ 0 ∷ 0 ∷ 0 ∷ []

abbrev heartbeat : ℕ → List ℕ
heartbeat unit = 8 ∷ 0 ∷ 0 ∷ unit ∷ 0 ∷ 0 ∷ 0 ∷ 0 ∷ []

-- ---- The proxy
-- the login has unit 0, which stands for all that the proxy serves
login_to_the_proxy : grp_bytes GrpMade [] ≡ 30 ∷ 0 ∷ 1 ∷ 0 ∷ 0 ∷ 0 ∷ 0 ∷ 0 ∷ 22 ∷ 1 ∷ codes "0001FEED  PITCH     "
unfolding block_bytes session_written
login_to_the_proxy = refl

-- the end lacks four messages: once it is logged in they are asked for at the next second
abbrev behind : List Came
behind = GrpTook (login_reply 65) ∷ GrpMade ∷ fourth_was_sent ∷ []

four_are_asked_for : grp_bytes Second behind ≡ 17 ∷ 0 ∷ 1 ∷ 0 ∷ 0 ∷ 0 ∷ 0 ∷ 0 ∷ 9 ∷ 0x03 ∷ 7 ∷ 1 ∷ 0 ∷ 0 ∷ 0 ∷ 4 ∷ 0 ∷ []
unfolding stream_items blocks_of blocks_by rest_of rest_by judge messages_end raws_of session_reads block_bytes session_written reach_of held_count
four_are_asked_for = refl

the_ask_of_that_second : second_ask seven (end_after seven behind) ≡ Some (Gap 1 4)
unfolding stream_items blocks_of blocks_by rest_of rest_by judge messages_end raws_of session_reads reach_of held_count
the_ask_of_that_second = refl

-- the link closes by that second, the fifth without a word after the one of the reply, and nothing is asked
abbrev nearly_silent : List Came
nearly_silent = fourth_was_sent ∷ Second ∷ Second ∷ Second ∷ Second ∷ Second ∷ GrpTook (login_reply 65) ∷ GrpMade ∷ []

nothing_by_a_link_that_closes : second_ask seven (end_after seven nearly_silent) ≡ None
unfolding stream_items blocks_of blocks_by rest_of rest_by judge messages_end raws_of session_reads reach_of held_count
nothing_by_a_link_that_closes = refl

-- and no answer came a second later: the proxy owes one, so the link says a heartbeat alone
a_heartbeat_meanwhile : grp_bytes Second (Second ∷ Second ∷ behind) ≡ heartbeat 0
unfolding stream_items blocks_of blocks_by rest_of rest_by judge messages_end raws_of session_reads block_bytes session_written reach_of held_count
a_heartbeat_meanwhile = refl

-- a cut is heard, and nothing is owed any more; without a login nothing is asked
a_cut_is_heard : end_history seven (GrpCut ∷ Second ∷ behind) ≡ GrpDown ∷ Ticked (Some (Gap 1 4)) ∷ GrpUp ∷ Next 5 ∷ []
unfolding stream_items blocks_of blocks_by rest_of rest_by judge messages_end raws_of session_reads reach_of held_count
a_cut_is_heard = refl

nothing_is_asked_after_a_cut : grp_bytes Second (GrpMade ∷ GrpCut ∷ behind) ≡ []
unfolding stream_items blocks_of blocks_by rest_of rest_by judge messages_end raws_of session_reads block_bytes session_written reach_of held_count
nothing_is_asked_after_a_cut = refl

-- a refused login closes the link, and the connection is cut
a_refused_login_is_a_cut : end_after seven (GrpTook (login_reply 78) ∷ GrpMade ∷ []) ≡ record { heard = GrpDown ∷ []; grp = None; spin = None }
unfolding stream_items blocks_of blocks_by rest_of rest_by judge messages_end raws_of session_reads
a_refused_login_is_a_cut = refl

-- ---- The Spin Server
-- both links are silent five times, and both connections are cut
five_silent_seconds : end_after seven (Second ∷ Second ∷ Second ∷ Second ∷ Second ∷ SpinMade ∷ GrpMade ∷ [])
    ≡ record { heard = Ticked None ∷ SpinDown ∷ GrpDown ∷ Ticked None ∷ Ticked None ∷ Ticked None ∷ Ticked None ∷ []; grp = None; spin = None }
unfolding stream_items blocks_of blocks_by rest_of rest_by judge messages_end raws_of session_reads reach_of held_count
five_silent_seconds = refl

-- an image is asked for where the proxy is not up
an_image_is_asked_for : spin_bytes Second (SpinTook (login_reply 65 ++ fourth_available) ∷ SpinMade ∷ fourth_was_sent ∷ []) ≡ 14 ∷ 0 ∷ 1 ∷ 7 ∷ 0 ∷ 0 ∷ 0 ∷ 0 ∷ 6 ∷ 0x81 ∷ 4 ∷ 0 ∷ 0 ∷ 0 ∷ []
unfolding stream_items blocks_of blocks_by rest_of rest_by judge messages_end raws_of session_reads block_bytes session_written reach_of held_count
an_image_is_asked_for = refl

-- one made anew ends the one that stood
made_anew : end_history seven (SpinMade ∷ SpinTook (login_reply 65 ++ fourth_available) ∷ SpinMade ∷ []) ≡ SpinDown ∷ Advertised 4 ∷ SpinUp ∷ []
unfolding stream_items blocks_of blocks_by rest_of rest_by judge messages_end raws_of session_reads
made_anew = refl
