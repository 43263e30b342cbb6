-- Worked examples of what is sent and heard over connections, computed by the definitions. Moves,
-- events and entries stand newest first.
use Rattle.std.proofs.Common.{◌≡◌, true, false, List, [], ◌∷◌, ◌++◌, refl, arith, Some}
use Rattle.std.specs.Prelude.{codes}
use Rattle.pitch_messages.specs.Raw.{raws_of}
use Rattle.pitch_messages.specs.Session.{session_reads, session_written}
use Rattle.pitch_model.specs.declared.ask.Ask.TheVariants as asks
use Rattle.pitch_model.specs.History.{Entry, Raw, Message, SpinDown, Advertised, SpinReply, ImageMessages, SpinFinished, Ticked as TickedEntry}
use Rattle.heard_items.specs.declared.item.Item.TheVariants as item
use Rattle.unit_packets.specs.BlockBytes.{block_bytes}
use Rattle.unit_packets.specs.Cutting.{blocks_of, blocks_by, rest_of, rest_by}
use Rattle.unit_packets.specs.Judging.{judge, messages_end}
use Rattle.session_ends.specs.declared.role.Role.TheVariants.{SpinServer}
use Rattle.session_ends.specs.Closing.{Setup, login_status}
use Rattle.session_ends.specs.Events.{Event, Fed, Ticked, Told}
use Rattle.session_ends.specs.Items.{stream_items}
use Rattle.spin_server.specs.Served.{Served}
use Rattle.client_links.specs.Linking.{NoLookup}
use Rattle.spin_path.specs.Paths.{says_at, all_said, Path, begun, Move, Links, Takes, Cuts, moved}
use Rattle.spin_path.specs.Paths.{path_of, IsShown, MayServe, MayLink, MayHear}
use Rattle.spin_path.specs.PathLaws.{NoneBad}

-- the server of unit 1, and that of unit 2, to which nobody may log in
abbrev one : Setup
one = record { role = SpinServer; unit = 1; accounts = record { sub = codes "0001"; user = codes "FEED"; password = codes "PITCH     " } ∷ []; in_use = false }

abbrev two : Setup
two = record { role = SpinServer; unit = 2; accounts = []; in_use = false }

abbrev no_event : List (Event (List Served))
no_event = []

-- ---- The server's bytes
a_heartbeat : says_at one Ticked no_event ≡ 8 ∷ 0 ∷ 0 ∷ 1 ∷ 0 ∷ 0 ∷ 0 ∷ 0 ∷ []
unfolding stream_items blocks_of blocks_by rest_of rest_by block_bytes
a_heartbeat = refl

-- a login while nothing is advertised, and then a sequence that is
abbrev views : List Served
views = record { messages = []; advertised = [] } ∷ record { messages = []; advertised = [] } ∷ []

in_their_order : all_said one (Told 3 ∷ Fed (30 ∷ 0 ∷ 1 ∷ 1 ∷ 0 ∷ 0 ∷ 0 ∷ 0 ∷ 22 ∷ 1 ∷ codes "0001FEED  PITCH     ") views ∷ [])
    ≡ (11 ∷ 0 ∷ 1 ∷ 1 ∷ 0 ∷ 0 ∷ 0 ∷ 0 ∷ 3 ∷ 0x02 ∷ 65 ∷ []) ++ (14 ∷ 0 ∷ 1 ∷ 1 ∷ 0 ∷ 0 ∷ 0 ∷ 0 ∷ 6 ∷ 0x80 ∷ 3 ∷ 0 ∷ 0 ∷ 0 ∷ [])
unfolding stream_items blocks_of blocks_by rest_of rest_by judge messages_end raws_of session_reads login_status block_bytes session_written
in_their_order = refl

-- ---- What the client hears
-- its link is fed the block of a sequence that is advertised
abbrev fed : List Move
fed = Links (Fed (14 ∷ 0 ∷ 1 ∷ 1 ∷ 0 ∷ 0 ∷ 0 ∷ 0 ∷ 6 ∷ 0x80 ∷ 3 ∷ 0 ∷ 0 ∷ 0 ∷ []) NoLookup) ∷ []

it_waits : path_of one fed ≡ record (path_of one fed) { told = item.Advertised 3 ∷ []; history = [] }
unfolding stream_items blocks_of blocks_by rest_of rest_by judge messages_end raws_of session_reads
it_waits = refl

it_is_heard : path_of one (Takes ∷ fed) ≡ record (path_of one fed) { told = []; history = Advertised 3 ∷ [] }
unfolding stream_items blocks_of blocks_by rest_of rest_by judge messages_end raws_of session_reads
it_is_heard = refl

-- a cut comes before it is heard: only the cut is, and the next connection begins with nothing
it_is_dropped : path_of one (Takes ∷ Cuts two ∷ fed) ≡ record { setup = two; served = []; linked = []; told = []; history = SpinDown ∷ [] }
unfolding stream_items blocks_of blocks_by rest_of rest_by judge messages_end raws_of session_reads
it_is_dropped = refl

a_cut_leaves_nothing : (p : Path) → moved (Cuts two) p ≡ begun two (SpinDown ∷ p.history)
a_cut_leaves_nothing p = refl

-- ---- Which moves there are not
-- where one message was accepted, no server is told of a second, and none shows it
told_of_no_more : (a : Raw) → MayServe (a ∷ []) (Told 2) → ⊥
told_of_no_more a may = omega (arith, may)

advertised_no_more : (a : Raw) → IsShown (a ∷ []) (record { messages = a ∷ []; advertised = 2 ∷ [] }) → ⊥
advertised_no_more a shown = omega (arith, shown.within.0)

-- a link is fed no byte that the server did not send
fed_no_more : MayLink (begun one []) (Fed (8 ∷ []) NoLookup) → ⊥
fed_no_more may = cc (may.1)

-- and nothing else speaks for a spin server
no_other_reply : (V : List Raw) → MayHear V (SpinReply 3 1 true) → ⊥
no_other_reply V may = may

no_other_end : (V : List Raw) → MayHear V (SpinFinished 3) → ⊥
no_other_end V may = may

no_other_message : (a b : Raw) → MayHear (a ∷ []) (Message 2 b) → ⊥
no_other_message a b is = cc (is)

-- ---- Images
abbrev add : Raw
add = 3 ∷ 0x21 ∷ 7 ∷ []

abbrev asked : List Entry
asked = SpinReply 3 1 true ∷ TickedEntry (Some (asks.Spin 3)) ∷ []

one_as_promised : NoneBad (SpinFinished 3 ∷ ImageMessages (add ∷ []) ∷ asked)
one_as_promised = (refl, tt)

none_of_one : NoneBad (SpinFinished 3 ∷ asked) → ⊥
none_of_one bad = cc (bad.0)

two_of_one : NoneBad (SpinFinished 3 ∷ ImageMessages (add ∷ add ∷ []) ∷ asked) → ⊥
two_of_one bad = cc (bad.0)
