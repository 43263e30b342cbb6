-- Worked examples of what a link tells its client and sends, computed by the definitions. Events
-- stand newest first.
use Rattle.std.proofs.Common.{◌≡◌, ℕ, true, false, List, [], ◌∷◌, ◌++◌, refl}
use Rattle.std.specs.Prelude.{codes}
use Rattle.pitch_messages.specs.Raw.{raws_of}
use Rattle.pitch_messages.specs.Session.{session_reads, session_written}
use Rattle.pitch_messages.specs.declared.session.SessionMessage.TheVariants.{GapRequest, SpinRequest}
use Rattle.heard_items.specs.declared.item.Item.{Item}
use Rattle.heard_items.specs.declared.item.Item.TheVariants as item
use Rattle.unit_packets.specs.BlockBytes.{block_bytes}
use Rattle.unit_packets.specs.Cutting.{blocks_of, blocks_by, rest_of, rest_by}
use Rattle.unit_packets.specs.Judging.{judge, messages_end}
use Rattle.session_ends.specs.declared.account.Account.{Account}
use Rattle.session_ends.specs.declared.inbox.Heard.{Heard}
use Rattle.session_ends.specs.declared.inbox.Heard.TheVariants.{Message, BlockEnd}
use Rattle.session_ends.specs.declared.role.Role.TheVariants.{GapLink, SpinLink}
use Rattle.session_ends.specs.Closing.{Setup}
use Rattle.session_ends.specs.Events.{Event, Fed, Ticked, Asked}
use Rattle.session_ends.specs.Items.{stream_items}
use Rattle.client_links.specs.Linking.{Lookups, NoLookup, link_setup, login_bytes, link_sends, link_tells}
use Rattle.client_links.specs.Telling.{tells, without_spare}

-- the link to the proxy, and that to the spin server of unit 1
abbrev gap : Setup
gap = link_setup GapLink 0

abbrev spin : Setup
spin = link_setup SpinLink 1

-- an image's messages, in one item
abbrev run : List (List ℕ) → Item
run raws = item.ImageMessages (record { items = raws; spare = 0 })

abbrev at : List ℕ → Heard
at raw = Message 8 raw

-- ---- Messages: three of types that no link reads, and some that links read
abbrev a : List ℕ
a = 3 ∷ 0x21 ∷ 1 ∷ []

abbrev b : List ℕ
b = 3 ∷ 0x22 ∷ 2 ∷ []

abbrev c : List ℕ
c = 2 ∷ 0x97 ∷ []

abbrev login_reply : ℕ → List ℕ
login_reply status = 3 ∷ 0x02 ∷ status ∷ []

abbrev gap_reply : List ℕ
gap_reply = 10 ∷ 0x04 ∷ 1 ∷ 2 ∷ 0 ∷ 0 ∷ 0 ∷ 100 ∷ 0 ∷ 79 ∷ []

abbrev available : List ℕ
available = 6 ∷ 0x80 ∷ 4 ∷ 1 ∷ 0 ∷ 0 ∷ []

abbrev spin_reply : List ℕ
spin_reply = 11 ∷ 0x82 ∷ 4 ∷ 0 ∷ 0 ∷ 0 ∷ 3 ∷ 0 ∷ 0 ∷ 0 ∷ 65 ∷ []

abbrev finished : List ℕ
finished = 6 ∷ 0x83 ∷ 4 ∷ 0 ∷ 0 ∷ 0 ∷ []

-- ---- What is told
-- two messages of an image in the block of its reply, and one in the next
an_image_in_two_blocks : tells spin true (at spin_reply ∷ at a ∷ at b ∷ BlockEnd ∷ at c ∷ BlockEnd ∷ at finished ∷ BlockEnd ∷ [])
    ≡ item.SpinReply 4 3 65 ∷ run (a ∷ b ∷ []) ∷ run (c ∷ []) ∷ item.SpinFinished 4 ∷ []
unfolding session_reads
an_image_in_two_blocks = refl

-- a message that is read ends a run
between_two_messages : tells spin true (at a ∷ at available ∷ at b ∷ BlockEnd ∷ []) ≡ run (a ∷ []) ∷ item.Advertised 260 ∷ run (b ∷ []) ∷ []
unfolding session_reads
between_two_messages = refl

-- the link to the proxy tells of no such messages; of a reply it tells the count that was asked for
only_the_reply : tells gap true (at a ∷ at gap_reply ∷ at b ∷ BlockEnd ∷ []) ≡ item.GapReply 2 100 79 ∷ []
unfolding session_reads
only_the_reply = refl

logins : tells gap false (at (login_reply 65) ∷ []) ++ tells spin false (at (login_reply 65) ∷ []) ≡ item.GrpUp ∷ item.SpinUp ∷ []
unfolding session_reads
logins = refl

-- nothing is told of a message that closes the link, nor of what follows it
a_refused_login : tells spin false (at a ∷ at (login_reply 78) ∷ at b ∷ at finished ∷ BlockEnd ∷ []) ≡ run (a ∷ []) ∷ []
unfolding session_reads
a_refused_login = refl

room_is_left_out : without_spare (item.ImageMessages (record { items = a ∷ []; spare = 7 })) ≡ run (a ∷ [])
room_is_left_out = refl

-- ---- Over events
-- a block of both messages, which comes in two pieces: what it tells is told once it is whole
abbrev piece : List ℕ
piece = 14 ∷ 0 ∷ 2 ∷ 1 ∷ 0 ∷ 0 ∷ 0 ∷ 0 ∷ 3 ∷ 0x21 ∷ 1 ∷ 3 ∷ 0x22 ∷ []

nothing_of_a_part : link_tells spin [] piece ≡ []
unfolding stream_items blocks_of blocks_by rest_of rest_by judge messages_end raws_of session_reads
nothing_of_a_part = refl

all_of_the_whole : link_tells spin (Fed piece NoLookup ∷ []) (2 ∷ []) ≡ run (a ∷ b ∷ []) ∷ []
unfolding stream_items blocks_of blocks_by rest_of rest_by judge messages_end raws_of session_reads
all_of_the_whole = refl

-- the tick after the piece is not silent; the fifth that is closes the link, which then tells and
-- asks nothing
abbrev silent : List (Event Lookups)
silent = Ticked ∷ Ticked ∷ Ticked ∷ Ticked ∷ Ticked ∷ Fed piece NoLookup ∷ []

abbrev closed : List (Event Lookups)
closed = Ticked ∷ silent

nothing_once_closed : link_tells spin closed (2 ∷ []) ≡ []
unfolding stream_items blocks_of blocks_by rest_of rest_by judge messages_end raws_of session_reads
nothing_once_closed = refl

an_open_one_asks : link_sends gap (Asked (GapRequest 1 2 3)) [] ≡ 17 ∷ 0 ∷ 1 ∷ 0 ∷ 0 ∷ 0 ∷ 0 ∷ 0 ∷ 9 ∷ 0x03 ∷ 1 ∷ 2 ∷ 0 ∷ 0 ∷ 0 ∷ 3 ∷ 0 ∷ []
unfolding block_bytes session_written
an_open_one_asks = refl

one_after_four_silent_ticks_asks : link_sends spin (Asked (SpinRequest 7)) silent ≡ 14 ∷ 0 ∷ 1 ∷ 1 ∷ 0 ∷ 0 ∷ 0 ∷ 0 ∷ 6 ∷ 0x81 ∷ 7 ∷ 0 ∷ 0 ∷ 0 ∷ []
unfolding stream_items blocks_of blocks_by rest_of rest_by judge messages_end raws_of session_reads block_bytes session_written
one_after_four_silent_ticks_asks = refl

a_closed_one_asks_nothing : link_sends spin (Asked (SpinRequest 7)) closed ≡ []
unfolding stream_items blocks_of blocks_by rest_of rest_by judge messages_end raws_of session_reads
a_closed_one_asks_nothing = refl

-- ---- Logins
abbrev feed : Account
feed = record { sub = codes "0001"; user = codes "FEED"; password = codes "PITCH     " }

-- the block has unit 0 to the proxy, and the link's own to a spin server
to_the_proxy : login_bytes GapLink 5 feed ≡ 30 ∷ 0 ∷ 1 ∷ 0 ∷ 0 ∷ 0 ∷ 0 ∷ 0 ∷ 22 ∷ 1 ∷ codes "0001FEED  PITCH     "
unfolding block_bytes session_written
to_the_proxy = refl

to_a_spin_server : login_bytes SpinLink 5 feed ≡ 30 ∷ 0 ∷ 1 ∷ 5 ∷ 0 ∷ 0 ∷ 0 ∷ 0 ∷ 22 ∷ 1 ∷ codes "0001FEED  PITCH     "
unfolding block_bytes session_written
to_a_spin_server = refl
