-- Worked examples of places and of two units, computed by the definitions. What came stands newest
-- first.
use Rattle.std.proofs.Common.{◌≡◌, ℕ, true, false, List, [], ◌∷◌, map, refl}
use Rattle.std.specs.Prelude.{codes}
use Rattle.pitch_text.specs.declared.command.Command.TheVariants.{Time, Reduce}
use Rattle.pitch_messages.specs.Raw.{raws_of}
use Rattle.pitch_messages.specs.Reading.{reads}
use Rattle.pitch_messages.specs.Session.{session_reads, session_written}
use Rattle.pitch_messages.specs.Writing.{written}
use Rattle.unit_packets.specs.BlockBytes.{block_bytes}
use Rattle.unit_packets.specs.Cutting.{blocks_of, blocks_by, rest_of, rest_by}
use Rattle.unit_packets.specs.Judging.{judge, messages_end}
use Rattle.session_ends.specs.Closing.{login_status}
use Rattle.session_ends.specs.Items.{stream_items}
use Rattle.venue_end.specs.Came.{Commanded, ProxyMade, ProxyTook, ProxyPut, ProxyCut, SpinMade, SpinTook, SpinCut, SpinPumped, Second, AllCut}
use Rattle.venue_end.specs.declared.setup.VenueSetup.{VenueSetup}
use Rattle.venue_units.specs.Coming.{UnitCame, came_to, state_at, to_unit}
use Rattle.venue_units.specs.layers.Laws.{accepted_of, commands_in}
use Rattle.venue_units.specs.Places.{cut_at, has_at, is_shut_at, is_spin, made_at, put_at, took_at, unit_of, waits_at, with_pump}

-- ---- Places
-- unit 0 has 0 to 127, of which 64 to 127 are its Spin Server's; unit 1 has 128 to 255
doors : map is_spin (0 ∷ 63 ∷ 64 ∷ 127 ∷ 128 ∷ 191 ∷ 192 ∷ 255 ∷ []) ≡ (false ∷ false ∷ true ∷ true ∷ false ∷ false ∷ true ∷ true ∷ [])
doors = refl

units : map unit_of (0 ∷ 127 ∷ 128 ∷ 255 ∷ 256 ∷ 8191 ∷ []) ≡ (0 ∷ 0 ∷ 1 ∷ 1 ∷ 2 ∷ 63 ∷ [])
units = refl

-- what happens there is for the session of that number at that server
of_a_proxy : (made_at 130 ∷ took_at 130 (7 ∷ []) ∷ put_at 130 5 ∷ cut_at 130 ∷ []) ≡ (ProxyMade 130 ∷ ProxyTook 130 (7 ∷ []) ∷ ProxyPut 130 5 ∷ ProxyCut 130 ∷ [])
of_a_proxy = refl

of_a_spin_server : (made_at 192 ∷ took_at 192 (7 ∷ []) ∷ cut_at 192 ∷ []) ≡ (SpinMade 192 ∷ SpinTook 192 (7 ∷ []) ∷ SpinCut 192 ∷ [])
of_a_spin_server = refl

-- a Spin Server alone is asked for a block
pumps : with_pump 192 [] ≡ to_unit 1 (SpinPumped 192) ∷ []
pumps = refl

pumps_no_proxy : with_pump 191 [] ≡ []
pumps_no_proxy = refl

-- ---- Two units, with the indices 0 and 1
abbrev made_for : ℕ → VenueSetup
made_for unit = record {
  unit = unit;
  account = record { sub = codes "0001"; user = codes "FEED"; password = codes "PITCH     " };
  kept = 3;
  second = 1;
  minute = 5;
  day = 6;
}

abbrev both : List VenueSetup
both = made_for 7 ∷ made_for 9 ∷ []

-- the message of a second
abbrev second_is : ℕ → List ℕ
second_is n = 6 ∷ 0x20 ∷ n ∷ 0 ∷ 0 ∷ 0 ∷ []

-- each has a command, and the second one that it refuses, since it asks for no shares
abbrev commanded : List UnitCame
commanded = to_unit 1 (Commanded (Reduce 9 0 0)) ∷ to_unit 0 (Commanded (Time 35)) ∷ to_unit 1 (Commanded (Time 34)) ∷ to_unit 0 (Commanded (Time 33)) ∷ []

messages_of_the_first : (state_at (made_for 7) 0 commanded).messages ≡ second_is 33 ∷ second_is 35 ∷ []
unfolding reads written
messages_of_the_first = refl

messages_of_the_second : (state_at (made_for 9) 1 commanded).messages ≡ second_is 34 ∷ []
unfolding reads written
messages_of_the_second = refl

accepted_by_the_second : accepted_of (commands_in (came_to 1 commanded)) ≡ Time 34 ∷ []
unfolding reads written
accepted_by_the_second = refl

-- ---- Sessions at two places of the second unit
-- a login, and the answer that it is accepted
abbrev login : List ℕ
login = 30 ∷ 0 ∷ 1 ∷ 0 ∷ 0 ∷ 0 ∷ 0 ∷ 0 ∷ 22 ∷ 1 ∷ codes "0001FEED  PITCH     "

abbrev accepted : List ℕ
accepted = 11 ∷ 0 ∷ 1 ∷ 0 ∷ 0 ∷ 0 ∷ 0 ∷ 0 ∷ 3 ∷ 0x02 ∷ 65 ∷ []

-- a client logs in at place 130
abbrev logged : List UnitCame
logged = to_unit 1 (took_at 130 login) ∷ to_unit 1 (made_at 130) ∷ []

an_answer_waits : waits_at both 130 logged ≡ accepted
unfolding stream_items blocks_of blocks_by rest_of rest_by judge messages_end raws_of session_reads login_status block_bytes session_written
an_answer_waits = refl

-- nor does any for another place, of that unit, of the first, or of one that is not there
none_elsewhere : (waits_at both 131 logged ∷ waits_at both 194 logged ∷ waits_at both 2 logged ∷ waits_at both 258 logged ∷ []) ≡ [] ∷ [] ∷ [] ∷ [] ∷ []
unfolding stream_items blocks_of blocks_by rest_of rest_by judge messages_end raws_of session_reads login_status block_bytes session_written
none_elsewhere = refl

-- so many bytes of it are put
some_are_put : waits_at both 130 (to_unit 1 (put_at 130 9) ∷ logged) ≡ 0x02 ∷ 65 ∷ []
unfolding stream_items blocks_of blocks_by rest_of rest_by judge messages_end raws_of session_reads login_status block_bytes session_written
some_are_put = refl

-- it is open; it is shut once it was cut, or once it sent what no client may; and so is a place at
-- which none stands
is_open : is_shut_at both 130 logged ≡ false
unfolding stream_items blocks_of blocks_by rest_of rest_by judge messages_end raws_of session_reads login_status block_bytes session_written
is_open = refl

is_cut : is_shut_at both 130 (to_unit 1 (cut_at 130) ∷ logged) ≡ true
unfolding stream_items blocks_of blocks_by rest_of rest_by judge messages_end raws_of session_reads login_status block_bytes session_written
is_cut = refl

has_closed : is_shut_at both 130 (to_unit 1 (took_at 130 (0 ∷ 0 ∷ 0 ∷ 0 ∷ 0 ∷ 0 ∷ 0 ∷ 0 ∷ [])) ∷ logged) ≡ true
unfolding stream_items blocks_of blocks_by rest_of rest_by judge messages_end raws_of session_reads login_status block_bytes session_written
has_closed = refl

others_are_shut : (is_shut_at both 131 logged ∷ is_shut_at both 194 logged ∷ is_shut_at both 2 logged ∷ is_shut_at both 258 logged ∷ []) ≡ true ∷ true ∷ true ∷ true ∷ []
unfolding stream_items blocks_of blocks_by rest_of rest_by judge messages_end raws_of session_reads login_status block_bytes session_written
others_are_shut = refl

-- a second of the first unit does nothing to it, and a cut of all sessions of the first
still_there : (has_at both 130 (to_unit 0 AllCut ∷ to_unit 0 Second ∷ logged) ∷ has_at both 130 (to_unit 1 AllCut ∷ logged) ∷ []) ≡ true ∷ false ∷ []
unfolding stream_items blocks_of blocks_by rest_of rest_by judge messages_end raws_of session_reads login_status block_bytes session_written
still_there = refl
