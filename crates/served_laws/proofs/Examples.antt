-- Worked examples of what comes, what is put and what is handed out, computed by the definitions.
-- What came stands newest first.
use Rattle.std.proofs.Common.{◌≡◌, ℕ, List, [], ◌∷◌, ◌++◌, refl, arith}
use Rattle.std.specs.Prelude.{codes}
use Rattle.pitch_messages.specs.Raw.{raws_of}
use Rattle.pitch_messages.specs.Reading.{reads}
use Rattle.pitch_messages.specs.Session.{session_reads, session_written}
use Rattle.pitch_messages.specs.Writing.{written}
use Rattle.pitch_text.specs.declared.command.Command.TheVariants.{Time}
use Rattle.unit_packets.specs.BlockBytes.{block_bytes}
use Rattle.unit_packets.specs.Blocks.{Block}
use Rattle.unit_packets.specs.Cutting.{blocks_of, blocks_by, rest_of, rest_by}
use Rattle.unit_packets.specs.Judging.{judge, messages_end}
use Rattle.unit_packets.specs.Packing.{fits_datagram, packed_on}
use Rattle.session_ends.specs.Closing.{login_status}
use Rattle.session_ends.specs.Items.{stream_items}
use Rattle.client_end.specs.Came.{Came, Heard, GrpMade, GrpTook}
use Rattle.client_end.specs.Came as client
use Rattle.venue_end.specs.Came.{VenueCame, Commanded, Flushed, Beaten, SpinMade, SpinTook, SpinPut, SpinCut}
use Rattle.venue_end.specs.declared.setup.VenueSetup.{VenueSetup}
use Rattle.served_laws.specs.Beside.{ComesBeside, handed_out}
use Rattle.served_laws.specs.Coming.{ComesFrom, spin_bytes}
use Rattle.served_laws.specs.Putting.{put_of}

-- ---- What comes to a client's end
-- the bytes of a connection are joined, whatever else comes between
joined : spin_bytes (client.SpinTook (3 ∷ []) ∷ client.Second ∷ GrpTook (8 ∷ []) ∷ client.SpinTook (1 ∷ 2 ∷ []) ∷ client.SpinMade ∷ []) ≡ 1 ∷ 2 ∷ 3 ∷ []
joined = refl

-- a new connection begins anew
begun_anew : spin_bytes (client.SpinLost (4 ∷ []) 0 ∷ client.SpinMade ∷ client.SpinTook (1 ∷ 2 ∷ []) ∷ client.SpinMade ∷ []) ≡ 4 ∷ []
begun_anew = refl

-- a heartbeat of unit 7
abbrev next_is : ℕ → Block
next_is sequence = record { unit = 7; sequence = sequence; raws = [] }

-- before anything was accepted none tells of more than the first message
tells_too_much : ComesFrom [] 7 (Heard (next_is 2) ∷ []) → ⊥
tells_too_much comes = let within = comes.0.within in omega (arith, within)

-- nor does one of another unit come
of_another_unit : ComesFrom [] 8 (Heard (next_is 1) ∷ []) → ⊥
of_another_unit comes = let same = comes.0.unit_is in omega (arith, same)

-- the proxy may say anything
any_bytes : ComesFrom [] 7 (GrpTook (255 ∷ 255 ∷ []) ∷ GrpMade ∷ [])
any_bytes = (tt, (tt, tt))

-- ---- What a venue's end of unit 7 puts
abbrev seven : VenueSetup
seven = record {
  unit = 7;
  account = record { sub = codes "0001"; user = codes "FEED"; password = codes "PITCH     " };
  kept = 3;
  second = 1;
  minute = 5;
  day = 6;
}

-- a session logs in beside another
abbrev logged_in : List VenueCame
logged_in = SpinTook 4 (30 ∷ 0 ∷ 1 ∷ 7 ∷ 0 ∷ 0 ∷ 0 ∷ 0 ∷ 22 ∷ 1 ∷ codes "0001FEED  PITCH     ") ∷ SpinMade 5 ∷ SpinMade 4 ∷ []

abbrev login_accepted : List ℕ
login_accepted = 11 ∷ 0 ∷ 1 ∷ 7 ∷ 0 ∷ 0 ∷ 0 ∷ 0 ∷ 3 ∷ 0x02 ∷ 65 ∷ []

-- in two parts, and no more than waits; what is put to the other is not counted
in_two_parts : put_of seven 4 (SpinPut 4 100 ∷ SpinPut 5 100 ∷ SpinPut 4 5 ∷ logged_in) ≡ login_accepted
unfolding stream_items blocks_of blocks_by rest_of rest_by judge messages_end raws_of session_reads login_status block_bytes session_written
in_two_parts = refl

-- a cut takes nothing back
still_after_a_cut : put_of seven 4 (SpinCut 4 ∷ SpinPut 4 5 ∷ logged_in) ≡ 11 ∷ 0 ∷ 1 ∷ 7 ∷ 0 ∷ []
unfolding stream_items blocks_of blocks_by rest_of rest_by judge messages_end raws_of session_reads login_status block_bytes session_written
still_after_a_cut = refl

-- to a session that is made anew nothing was put
made_anew : put_of seven 4 (SpinMade 4 ∷ SpinPut 4 5 ∷ logged_in) ≡ []
made_anew = refl

-- ---- What it hands out
-- a heartbeat before the message of a second was accepted, its datagram, and a heartbeat behind it
abbrev first_second : List VenueCame
first_second = Beaten ∷ Flushed ∷ Commanded (Time 9) ∷ Beaten ∷ []

abbrev heartbeat : ℕ → List ℕ
heartbeat sequence = 8 ∷ 0 ∷ 0 ∷ 7 ∷ sequence ∷ 0 ∷ 0 ∷ 0 ∷ []

three_datagrams : handed_out seven first_second ≡ heartbeat 1 ∷ (14 ∷ 0 ∷ 1 ∷ 7 ∷ 1 ∷ 0 ∷ 0 ∷ 0 ∷ 6 ∷ 0x20 ∷ 9 ∷ 0 ∷ 0 ∷ 0 ∷ []) ∷ heartbeat 2 ∷ []
unfolding reads written block_bytes fits_datagram packed_on
three_datagrams = refl

-- ---- A client's end beside it
-- the last heartbeat comes twice and the datagram before it is lost; of the reply to a login five
-- bytes have come
abbrev some_of_it : List Came
some_of_it = client.SpinTook (11 ∷ 0 ∷ 1 ∷ 7 ∷ 0 ∷ []) ∷ client.SpinMade ∷ Heard (next_is 2) ∷ Heard (next_is 2) ∷ []

comes_beside : ComesBeside seven (SpinPut 4 9 ∷ (logged_in ++ first_second)) some_of_it
unfolding stream_items blocks_of blocks_by rest_of rest_by judge messages_end raws_of session_reads login_status block_bytes session_written reads written fits_datagram packed_on
comes_beside = (
  record { later = []; first = SpinPut 4 9 ∷ (logged_in ++ first_second); before_is = refl; id = 4; begins = (0 ∷ 0 ∷ 0 ∷ 3 ∷ [], refl) },
  (
    tt,
    (
      record { datagram = heartbeat 2; sent = (2, omega arith, refl); within = (0, omega arith, refl) },
      (record { datagram = heartbeat 2; sent = (2, omega arith, refl); within = (0, omega arith, refl) }, tt),
    ),
  ),
)
