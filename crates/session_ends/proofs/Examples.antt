-- Worked examples of silence and of what closes an end, computed by the definitions. Events stand
-- newest first.
use Rattle.std.proofs.Common.{◌≡◌, ℕ, Bool, true, false, List, [], ◌∷◌, refl, Option, Some, None}
use Rattle.std.specs.Prelude.{codes, filter}
use Rattle.pitch_messages.specs.Raw.{raws_of}
use Rattle.pitch_messages.specs.Session.{session_reads}
use Rattle.unit_packets.specs.BlockBytes.{block_bytes}
use Rattle.unit_packets.specs.Cutting.{blocks_of, blocks_by, rest_of, rest_by}
use Rattle.unit_packets.specs.Judging.{judge, messages_end}
use Rattle.unit_packets.specs.declared.header.BlockError.TheVariants.{LengthBelowHeader, MessageOverrun}
use Rattle.session_ends.specs.declared.closed.Closed.{Closed}
use Rattle.session_ends.specs.declared.closed.CloseCause.{CloseCause}
use Rattle.session_ends.specs.declared.closed.CloseCause.TheVariants as cause
use Rattle.session_ends.specs.declared.role.Role.{Role}
use Rattle.session_ends.specs.declared.role.Role.TheVariants.{GrpServer, SpinServer, GapLink, SpinLink}
use Rattle.session_ends.specs.Closing.{Setup, closed_of, login_status}
use Rattle.session_ends.specs.Events.{Event, Fed, Ticked, silence}
use Rattle.session_ends.specs.Items.{closed_at, stream_items}
use Rattle.session_ends.specs.Sending.{header_unit, sent_at_tick}
use Rattle.session_ends.specs.Saying.{is_read}

abbrev end : Role → Setup
end role = record { role = role; unit = 1; accounts = record { sub = codes "0001"; user = codes "FEED"; password = codes "PITCH     " } ∷ []; in_use = false }

-- nothing is looked up
abbrev fed : List ℕ → Event (Unit {0})
fed bytes = Fed bytes tt

abbrev ticked : Event (Unit {0})
ticked = Ticked

-- a block of the messages that follow
abbrev of_messages : ℕ → ℕ → List ℕ → List ℕ
of_messages size count messages = size ∷ 0 ∷ count ∷ 1 ∷ 0 ∷ 0 ∷ 0 ∷ 0 ∷ messages

abbrev login : List ℕ
login = of_messages 30 1 (22 ∷ 1 ∷ codes "0001FEED  PITCH     ")

abbrev at : CloseCause → ℕ → Option Closed
at cause place = Some (closed_at cause place)

-- ---- Silence
-- five silent ticks close an end; bytes between them begin the row anew, an empty piece does not
four : closed_of (end GrpServer) (ticked ∷ ticked ∷ ticked ∷ ticked ∷ []) ≡ None
unfolding stream_items blocks_of blocks_by rest_of rest_by
four = refl

five : closed_of (end GrpServer) (ticked ∷ ticked ∷ ticked ∷ ticked ∷ ticked ∷ []) ≡ at cause.Silent 0
unfolding stream_items blocks_of blocks_by rest_of rest_by
five = refl

not_in_a_row : silence (ticked ∷ ticked ∷ ticked ∷ ticked ∷ fed (8 ∷ []) ∷ ticked ∷ []) ≡ 3
not_in_a_row = refl

an_empty_piece : silence (ticked ∷ fed [] ∷ ticked ∷ fed [] ∷ ticked ∷ []) ≡ 3
an_empty_piece = refl

-- ---- Hostile bytes
below_the_header : closed_of (end GrpServer) (fed (7 ∷ 0 ∷ 0 ∷ 0 ∷ 0 ∷ 0 ∷ 0 ∷ 0 ∷ []) ∷ []) ≡ at (cause.Block (LengthBelowHeader 7)) 0
unfolding stream_items blocks_of blocks_by rest_of rest_by judge messages_end raws_of session_reads
below_the_header = refl

skipped : closed_of (end GrpServer) (fed (of_messages 11 1 (3 ∷ 153 ∷ 7 ∷ [])) ∷ []) ≡ None
unfolding stream_items blocks_of blocks_by rest_of rest_by judge messages_end raws_of session_reads
skipped = refl

a_short_request : closed_of (end GrpServer) (fed (of_messages 16 1 (8 ∷ 3 ∷ 1 ∷ 1 ∷ 0 ∷ 0 ∷ 0 ∷ 0 ∷ [])) ∷ fed login ∷ []) ≡ at cause.Short 38
unfolding stream_items blocks_of blocks_by rest_of rest_by judge messages_end raws_of session_reads login_status
a_short_request = refl

a_second_login : closed_of (end GrpServer) (fed login ∷ fed login ∷ []) ≡ at (cause.Refused 66) 38
unfolding stream_items blocks_of blocks_by rest_of rest_by judge messages_end raws_of session_reads login_status
a_second_login = refl

not_whole : closed_of (end GrpServer) (fed (255 ∷ 255 ∷ 0 ∷ 0 ∷ 0 ∷ 0 ∷ 0 ∷ 0 ∷ []) ∷ []) ≡ None
unfolding stream_items blocks_of blocks_by rest_of rest_by judge messages_end raws_of session_reads
not_whole = refl

too_early_a_request : closed_of (end SpinServer) (fed (of_messages 14 1 (6 ∷ 129 ∷ 1 ∷ 0 ∷ 0 ∷ 0 ∷ [])) ∷ []) ≡ at cause.NotLoggedIn 8
unfolding stream_items blocks_of blocks_by rest_of rest_by judge messages_end raws_of session_reads
too_early_a_request = refl

a_refusal : closed_of (end GapLink) (fed (of_messages 11 1 (3 ∷ 2 ∷ 78 ∷ [])) ∷ []) ≡ at (cause.Refused 78) 8
unfolding stream_items blocks_of blocks_by rest_of rest_by judge messages_end raws_of session_reads
a_refusal = refl

a_short_reply : closed_of (end SpinLink) (fed (of_messages 10 1 (2 ∷ 2 ∷ [])) ∷ []) ≡ at cause.Short 8
unfolding stream_items blocks_of blocks_by rest_of rest_by judge messages_end raws_of session_reads
a_short_reply = refl

an_overrun : closed_of (end SpinLink) (fed (8 ∷ 0 ∷ 1 ∷ 1 ∷ 1 ∷ 0 ∷ 0 ∷ 0 ∷ []) ∷ []) ≡ at (cause.Block (MessageOverrun 8)) 0
unfolding stream_items blocks_of blocks_by rest_of rest_by judge messages_end raws_of session_reads
an_overrun = refl

-- a sequence closes before what the stream says later; what closed first stays
a_sequence_first : closed_of (end GrpServer) (ticked ∷ fed (7 ∷ 0 ∷ 0 ∷ 0 ∷ 0 ∷ 0 ∷ 0 ∷ 0 ∷ []) ∷ fed (8 ∷ 0 ∷ 0 ∷ 0 ∷ 1 ∷ 0 ∷ 0 ∷ 0 ∷ []) ∷ []) ≡ at cause.Sequenced 0
unfolding stream_items blocks_of blocks_by rest_of rest_by judge messages_end raws_of session_reads
a_sequence_first = refl

-- ---- Heartbeats
-- one that was sent at a tick does not count; a link's login does
abbrev silent : Event (Unit {0}) → List (Event (Unit {0})) → List ℕ
silent event before = []

beats_again : sent_at_tick silent (end SpinServer) (ticked ∷ []) ≡ 8 ∷ 0 ∷ 0 ∷ 1 ∷ 0 ∷ 0 ∷ 0 ∷ 0 ∷ []
unfolding stream_items blocks_of blocks_by rest_of rest_by block_bytes
beats_again = refl

a_login_counts : sent_at_tick silent (end SpinLink) [] ≡ []
unfolding stream_items blocks_of blocks_by rest_of rest_by block_bytes
a_login_counts = refl

-- ---- Logins
abbrev answered : Bool → Bool → List ℕ → List ℕ → ℕ
answered in_use logged sub password = login_status (record (end GrpServer) { in_use = in_use }) logged sub (codes "FEED") password

an_unknown_session : answered true true (codes "0009") (codes "PITCH     ") ≡ 83
unfolding login_status
an_unknown_session = refl

a_wrong_password : answered true true (codes "0001") (codes "PITCH2    ") ≡ 78
unfolding login_status
a_wrong_password = refl

one_in_use : answered true false (codes "0001") (codes "PITCH     ") ≡ 66
unfolding login_status
one_in_use = refl

one_more_login : answered false true (codes "0001") (codes "PITCH     ") ≡ 66
unfolding login_status
one_more_login = refl

an_accepted_login : answered false false (codes "0001") (codes "PITCH     ") ≡ 65
unfolding login_status
an_accepted_login = refl

-- ---- The types that each end reads, and the unit in the headers that it writes
abbrev types : List ℕ
types = 0x01 ∷ 0x02 ∷ 0x03 ∷ 0x04 ∷ 0x80 ∷ 0x81 ∷ 0x82 ∷ 0x83 ∷ []

the_proxys_end : filter (is_read GrpServer) types ≡ 0x01 ∷ 0x03 ∷ []
the_proxys_end = refl

the_spin_servers_end : filter (is_read SpinServer) types ≡ 0x01 ∷ 0x81 ∷ []
the_spin_servers_end = refl

the_link_to_the_proxy : filter (is_read GapLink) types ≡ 0x02 ∷ 0x04 ∷ []
the_link_to_the_proxy = refl

the_link_to_the_spin_server : filter (is_read SpinLink) types ≡ 0x02 ∷ 0x80 ∷ 0x82 ∷ 0x83 ∷ []
the_link_to_the_spin_server = refl

units_in_headers : header_unit GrpServer 7 ∷ header_unit GapLink 7 ∷ header_unit SpinServer 7 ∷ header_unit SpinLink 7 ∷ [] ≡ 0 ∷ 0 ∷ 7 ∷ 7 ∷ []
units_in_headers = refl
