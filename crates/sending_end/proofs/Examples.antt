-- Worked examples of what waits to be sent, computed by the definitions. What came stands newest
-- first.
use Rattle.std.proofs.Common.{◌≡◌, ℕ, List, [], ◌∷◌, ◌++◌, refl, Some, None}
use Rattle.std.specs.Prelude.{codes}
use Rattle.unit_packets.specs.Blocks.{Block}
use Rattle.unit_packets.specs.BlockBytes.{block_bytes}
use Rattle.unit_packets.specs.Cutting.{blocks_of, blocks_by, rest_of, rest_by}
use Rattle.unit_packets.specs.Judging.{judge, messages_end}
use Rattle.pitch_messages.specs.Raw.{raws_of}
use Rattle.pitch_messages.specs.Session.{session_reads, session_written}
use Rattle.pitch_model.specs.Reach.{reach_of, held_count}
use Rattle.session_ends.specs.Items.{stream_items}
use Rattle.client_end.specs.Came.{Came, EndSetup, Heard, GrpMade, GrpTook, GrpCut, GrpLost, SpinMade, SpinTook, SpinCut, SpinLost, Second, end_after}
use Rattle.sending_end.specs.declared.session.Session.TheVariants.{Proxy, SpinServer}
use Rattle.sending_end.specs.Waiting.{made, took, ended, lost, link_of, waits_for_proxy}
use Rattle.sending_end.specs.Waiting.{waits_for_spin_server, of_unit}
use Rattle.sending_end.specs.Stands.{blocks_came}

-- an end of unit 7, whose hold has two places
abbrev seven : EndSetup
seven = record {
  unit = 7;
  account = record { sub = codes "0001"; user = codes "FEED"; password = codes "PITCH     " };
  hold = 2;
}

-- what waits once this came after that, where these bytes waited
abbrev for_proxy : Came → List Came → List ℕ → List ℕ
for_proxy came before waiting = waits_for_proxy seven came (end_after seven before) waiting

abbrev for_spin_server : Came → List Came → List ℕ → List ℕ
for_spin_server came before waiting = waits_for_spin_server seven came (end_after seven before) waiting

-- ---- What comes
-- a heartbeat of a unit, whose next message would be of this sequence
abbrev next_is : ℕ → ℕ → Block
next_is unit sequence = record { unit = unit; sequence = sequence; raws = [] }

-- a login is accepted, or refused
abbrev login_reply : ℕ → List ℕ
login_reply status = 11 ∷ 0 ∷ 1 ∷ 0 ∷ 0 ∷ 0 ∷ 0 ∷ 0 ∷ 3 ∷ 0x02 ∷ status ∷ []

-- both connections were made
abbrev both_made : List Came
both_made = SpinMade ∷ GrpMade ∷ []

-- the proxy accepted the login, and the end lacks four messages
abbrev behind : List Came
behind = GrpTook (login_reply 65) ∷ GrpMade ∷ Heard (next_is 7 5) ∷ []

-- ---- Its logins, which have unit 0 for the proxy
abbrev login : ℕ → List ℕ
login unit = 30 ∷ 0 ∷ 1 ∷ unit ∷ 0 ∷ 0 ∷ 0 ∷ 0 ∷ 22 ∷ 1 ∷ codes "0001FEED  PITCH     "

-- ---- What waits
-- the login waits, once, and nothing of what waited for the connection before
the_login_waits : for_proxy GrpMade (GrpMade ∷ []) (login 0 ++ 9 ∷ []) ≡ login 0
unfolding block_bytes session_written
the_login_waits = refl

the_other_login_waits : for_spin_server SpinMade both_made (9 ∷ []) ≡ login 7
unfolding block_bytes session_written
the_other_login_waits = refl

-- what waits stays when another thing comes, and what is said stands behind it
it_stays : for_proxy (Heard (next_is 7 5)) (GrpMade ∷ []) (1 ∷ 2 ∷ []) ≡ 1 ∷ 2 ∷ []
it_stays = refl

a_request_stands_behind_it : for_proxy Second behind (1 ∷ 2 ∷ []) ≡ 1 ∷ 2 ∷ 17 ∷ 0 ∷ 1 ∷ 0 ∷ 0 ∷ 0 ∷ 0 ∷ 0 ∷ 9 ∷ 0x03 ∷ 7 ∷ 1 ∷ 0 ∷ 0 ∷ 0 ∷ 4 ∷ 0 ∷ []
unfolding stream_items blocks_of blocks_by rest_of rest_by judge messages_end raws_of session_reads block_bytes session_written reach_of held_count
a_request_stands_behind_it = refl

-- it is dropped where its connection ends: by a cut, by a link that closes, for want of memory, and
-- where none stands nothing waits
a_cut_drops_it : for_proxy GrpCut both_made (1 ∷ 2 ∷ []) ≡ []
a_cut_drops_it = refl

a_cut_drops_the_other : for_spin_server SpinCut both_made (1 ∷ 2 ∷ []) ≡ []
a_cut_drops_the_other = refl

a_refusal_drops_it : for_proxy (GrpTook (login_reply 78)) both_made (1 ∷ 2 ∷ []) ≡ []
unfolding stream_items blocks_of blocks_by rest_of rest_by judge messages_end raws_of session_reads
a_refusal_drops_it = refl

a_loss_drops_it : for_spin_server (SpinLost (login_reply 65) 0) both_made (1 ∷ 2 ∷ []) ≡ []
unfolding stream_items blocks_of blocks_by rest_of rest_by judge messages_end raws_of session_reads
a_loss_drops_it = refl

-- what waits for the other session stays
a_cut_leaves_the_other : for_spin_server GrpCut both_made (1 ∷ 2 ∷ []) ≡ 1 ∷ 2 ∷ []
a_cut_leaves_the_other = refl

a_login_leaves_the_other : for_proxy SpinMade both_made (1 ∷ 2 ∷ []) ≡ 1 ∷ 2 ∷ []
a_login_leaves_the_other = refl

-- ---- The sessions
-- each has its own link, and what comes on it is its own
the_spin_server_has_a_link : link_of SpinServer (end_after seven (SpinMade ∷ [])) ≡ Some []
the_spin_server_has_a_link = refl

the_proxy_has_none : link_of Proxy (end_after seven (SpinMade ∷ [])) ≡ None
the_proxy_has_none = refl

of_the_proxy : made Proxy ∷ took Proxy (3 ∷ []) ∷ ended Proxy ∷ lost Proxy (3 ∷ []) 2 ∷ [] ≡ GrpMade ∷ GrpTook (3 ∷ []) ∷ GrpCut ∷ GrpLost (3 ∷ []) 2 ∷ []
of_the_proxy = refl

of_the_spin_server : made SpinServer ∷ took SpinServer (3 ∷ []) ∷ ended SpinServer ∷ lost SpinServer (3 ∷ []) 2 ∷ [] ≡ SpinMade ∷ SpinTook (3 ∷ []) ∷ SpinCut ∷ SpinLost (3 ∷ []) 2 ∷ []
of_the_spin_server = refl

-- ---- Datagrams
-- the blocks of the unit alone, in their order
of_the_unit : of_unit 7 (next_is 7 1 ∷ next_is 8 4 ∷ next_is 7 2 ∷ []) ≡ next_is 7 1 ∷ next_is 7 2 ∷ []
of_the_unit = refl

-- the last block stands newest
they_came : blocks_came (next_is 7 1 ∷ next_is 7 2 ∷ []) (GrpMade ∷ []) ≡ Heard (next_is 7 2) ∷ Heard (next_is 7 1) ∷ GrpMade ∷ []
they_came = refl
