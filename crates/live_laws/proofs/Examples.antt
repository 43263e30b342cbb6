-- Worked examples of what a run sent and put, and of what units have of a text, computed by the
-- definitions. Calls, and what came, stand newest first.
use Rattle.std.proofs.Common.{◌≡◌, inl, inr, ℕ, zero, suc, true, false, List, [], ◌∷◌, Some, None, refl, arith}
use Rattle.std.specs.Prelude.{Contains, codes}
use Rattle.std.proofs.lemmas.Option.{same_Some}
use Rattle.pitch_messages.specs.Raw.{raws_of}
use Rattle.pitch_messages.specs.Reading.{reads}
use Rattle.pitch_messages.specs.Writing.{written}
use Rattle.pitch_text.specs.CommandGrammar.{command, clear_rule, time_rule}
use Rattle.pitch_text.specs.declared.command.Command.TheVariants.{Clear, EndSession, Time}
use Rattle.text_lines.specs.Items.{items_of}
use Rattle.text_lines.specs.Text.{said_of}
use Rattle.unit_commands.specs.UnitCommands.{unit_command}
use Rattle.unit_packets.specs.Blocks.{Block}
use Rattle.unit_packets.specs.Cutting.{blocks_by, blocks_of}
use Rattle.unit_packets.specs.Judging.{judge, messages_end}
use Rattle.client_end.specs.Came.{GrpMade, GrpTook, Heard, SpinMade, SpinTook}
use Rattle.live_net.specs.LiveCalls.{Receive, Open, Take}
use Rattle.live_net.specs.LiveCalls.{Close as LiveClose}
use Rattle.live_net.specs.declared.live.PeerOpened.TheVariants.{Begun, Refused}
use Rattle.live_net.specs.declared.live.PeerPut.TheVariants.{Ended, Full, Wrote}
use Rattle.live_net.specs.declared.live.PeerTaken.TheVariants.{Got}
use Rattle.live_net.specs.declared.net.Received.TheVariants.{Got as GotDatagram}
use Rattle.venue_end.specs.Came.{Commanded}
use Rattle.venue_end.specs.declared.setup.VenueSetup.{VenueSetup}
use Rattle.venue_net.specs.VenueCalls.{VenueCall, Accept, Close, Put, Send}
use Rattle.venue_units.specs.Coming.{UnitCame, to_unit}
use Rattle.venue_units.specs.Places.{is_spin, unit_of}
use Rattle.live_venue.specs.Input.{faulty}
use Rattle.live_venue.specs.Running.{at_first}
use Rattle.live_venue.specs.declared.fault.InputFault.TheVariants.{NoUnit, TooLong}
use Rattle.live_laws.specs.Carried.{AllCarried, AreApart, spin_peer, was_given}
use Rattle.live_laws.specs.Sent.{IsPut, IsSent, UnitHears, messages_of, was_put}
use Rattle.live_laws.specs.Text.{HasNoEnd, HaveOf, commands_for, text_heard, told_by}

-- ---- Units 7 and 9, with the indexes 0 and 1
abbrev made_for : ℕ → VenueSetup
made_for unit = record {
  unit = unit;
  account = record { sub = codes "0001"; user = codes "FEED"; password = codes "PITCH     " };
  kept = 3;
  second = 1;
  minute = 5;
  day = 6;
}

abbrev both : List VenueSetup
both = made_for 7 ∷ made_for 9 ∷ []

-- ---- What was put
-- the bytes of each piece that were taken, and at this place alone
in_two_parts : was_put 64 (Put 64 (3 ∷ 4 ∷ []) (Wrote 1) ∷ Put 65 (9 ∷ []) (Wrote 1) ∷ Put 64 (1 ∷ 2 ∷ 5 ∷ []) (Wrote 2) ∷ Accept 64 true ∷ []) ≡ 1 ∷ 2 ∷ 3 ∷ []
in_two_parts = refl

-- of a piece for which there was no room, or whose client had left, none were; a close takes none back
none_taken : was_put 64 (Close 64 ∷ Put 64 (4 ∷ []) Ended ∷ Put 64 (3 ∷ []) Full ∷ Put 64 (1 ∷ 2 ∷ []) (Wrote 2) ∷ Accept 64 true ∷ []) ≡ 1 ∷ 2 ∷ []
none_taken = refl

-- nothing was put to the next client yet; where nobody came, it is the last one's
to_the_next : was_put 64 (Accept 64 true ∷ Put 64 (1 ∷ 2 ∷ []) (Wrote 2) ∷ Accept 64 true ∷ []) ≡ []
to_the_next = refl

nobody_came : was_put 64 (Accept 64 false ∷ Accept 65 true ∷ Put 64 (1 ∷ 2 ∷ []) (Wrote 2) ∷ Accept 64 true ∷ []) ≡ 1 ∷ 2 ∷ []
nobody_came = refl

-- ---- What comes to a client
abbrev beat : ℕ → List ℕ
beat unit = 8 ∷ 0 ∷ 0 ∷ unit ∷ 1 ∷ 0 ∷ 0 ∷ 0 ∷ []

abbrev next_is : ℕ → Block
next_is unit = record { unit = unit; sequence = 1; raws = [] }

-- the first place of the Spin Server of the unit at index 1 is 192
abbrev run : List VenueCall
run = Send 5 (beat 9) ∷ Put 192 (1 ∷ 2 ∷ 3 ∷ []) (Wrote 2) ∷ Accept 192 true ∷ Send 0 (beat 7) ∷ []

on_its_gap_line : IsSent both run 9 (next_is 9)
unfolding blocks_of blocks_by judge messages_end raws_of
on_its_gap_line = record { at = 1; is_at = refl; line = 5; line_is = inr (inr refl); datagram = beat 9; sent = (0, omega arith, refl); within = (0, omega arith, refl) }

-- before any more was put, a part of it
begun : IsPut both run 9 (1 ∷ [])
begun = record { at = 1; is_at = refl; place = 192; unit_is = refl; at_spin = refl; later = Send 5 (beat 9) ∷ []; first = Put 192 (1 ∷ 2 ∷ 3 ∷ []) (Wrote 2) ∷ Accept 192 true ∷ Send 0 (beat 7) ∷ []; run_is = refl; begins = (2 ∷ [], refl) }

both_come : UnitHears both run 9 (Heard (next_is 9) ∷ SpinTook (1 ∷ []) ∷ SpinMade ∷ [])
both_come = (on_its_gap_line, (begun, (tt, tt)))

-- the proxy may say anything
any_bytes : UnitHears both [] 7 (GrpTook (255 ∷ 255 ∷ []) ∷ GrpMade ∷ [])
any_bytes = (tt, (tt, tt))

-- what was sent on a line of another unit is not this unit's
only : {A : Type 0} (x y : A) → Contains (x ∷ []) y → x ≡ y
only x y (zero, within, is) = is
only x y (suc k, within, is) = absurd (omega (arith, within))

on_anothers_line : IsSent both (Send 3 (beat 7) ∷ []) 7 (next_is 7) → ⊥
on_anothers_line is =
    let sent : Send 3 (beat 7) ≡ Send is.line is.datagram = only (Send 3 (beat 7)) (Send is.line is.datagram) is.sent in
    let line : 3 ≡ is.line = cc in
    let at : 0 ≡ is.at = same_Some 0 is.at is.is_at in
    elim is.line_is [
      | inl a ↦ omega (arith, a, line, at)
      | inr rest ↦ elim rest [ inl b ↦ omega (arith, b, line, at) | inr gap ↦ omega (arith, gap, line, at) ]
    ]

-- the places from 128 on are of that unit, the first 64 of them its proxy's
its_places : (unit_of 128 ∷ unit_of 192 ∷ unit_of 255 ∷ []) ≡ 1 ∷ 1 ∷ 1 ∷ []
its_places = refl

spin_places : (is_spin 128 ∷ is_spin 191 ∷ is_spin 192 ∷ []) ≡ false ∷ false ∷ true ∷ []
spin_places = refl

-- the messages of a unit, and of one that there is not
abbrev one_came : List UnitCame
one_came = to_unit 1 (Commanded (Time 33)) ∷ []

of_nine : messages_of both one_came 9 ≡ (6 ∷ 0x20 ∷ 33 ∷ 0 ∷ 0 ∷ 0 ∷ []) ∷ []
unfolding reads written
of_nine = refl

of_seven : messages_of both one_came 7 ≡ []
of_seven = refl

of_none : messages_of both one_came 8 ≡ []
of_none = refl

-- ---- By the client's calls
-- what a peer gave since a connection with it was begun
since_begun : was_given 1 (Take 1 9 (3 ∷ []) (Got 1) ∷ Take 0 9 (8 ∷ []) (Got 1) ∷ Take 1 9 (1 ∷ 2 ∷ []) (Got 2) ∷ Open 1 Begun ∷ Take 1 9 (7 ∷ []) (Got 1) ∷ Open 1 Begun ∷ []) ≡ 1 ∷ 2 ∷ 3 ∷ []
since_begun = refl

-- one that was refused, or has closed, takes nothing back
refused_since : was_given 1 (Open 1 Refused ∷ LiveClose 1 ∷ Take 1 9 (1 ∷ 2 ∷ []) (Got 2) ∷ Open 1 Begun ∷ []) ≡ 1 ∷ 2 ∷ []
refused_since = refl

-- the Spin Server of unit 9, and a line on which the unit beats
carried : AllCarried both run (spin_peer 9 ∷ []) (Receive 0 99 (beat 9) (GotDatagram 8) ∷ Open 0 Begun ∷ [])
unfolding blocks_of blocks_by judge messages_end raws_of
carried = ((on_its_gap_line, tt), (tt, tt))

-- a datagram that was not sent is not carried
not_sent : AllCarried both [] [] (Receive 0 99 (beat 9) (GotDatagram 8) ∷ []) → ⊥
unfolding blocks_of blocks_by judge messages_end raws_of
not_sent all = let within = all.0.0.sent.1 in omega (arith, within)

-- two peers are not the Spin Server of one unit
twice : AreApart (spin_peer 9 ∷ spin_peer 9 ∷ []) → ⊥
twice apart = let same : ◌≡◌ {A = ℕ} 0 1 = apart 0 1 9 refl refl in omega (arith, same)

-- ---- Texts
-- all lines, also the last, which has no line feed
all_lines : text_heard both (codes "7 time 33\n9 clear\n7 clear") ≡ record { came = to_unit 0 (Commanded (Clear 0)) ∷ to_unit 1 (Commanded (Clear 0)) ∷ to_unit 0 (Commanded (Time 33)) ∷ []; fault = None }
unfolding items_of said_of unit_command command time_rule clear_rule reads written
all_lines = refl

-- up to the first fault
no_such_unit : text_heard both (codes "9 clear\n8 clear\n7 clear\n") ≡ faulty (to_unit 1 (Commanded (Clear 0)) ∷ []) (NoUnit 2)
unfolding items_of said_of unit_command command clear_rule reads written
no_such_unit = refl

-- the last line counts once the input is at its end
before_its_end : told_by false (codes "7 time 33\n9 cl") ≡ codes "7 time 33\n"
before_its_end = refl

at_its_end : told_by true (codes "7 time 33\n9 cl") ≡ codes "7 time 33\n9 cl"
at_its_end = refl

-- units that accepted nothing do not have this text
nothing_accepted : HaveOf both (codes "7 time 33\n") at_first → ⊥
unfolding items_of said_of unit_command command time_rule reads written
nothing_accepted have = let same : ◌≡◌ {A = List (List ℕ)} [] ((6 ∷ 0x20 ∷ 33 ∷ 0 ∷ 0 ∷ 0 ∷ []) ∷ []) = have.messages 0 in cc

-- nor is a fault one that the text has not
another_fault : HaveOf both [] (record at_first { fault = Some (NoUnit 1) }) → ⊥
unfolding items_of said_of
another_fault have = elim have.fault [
  | inl same ↦ cc
  | inr long ↦ let is = long.1.fault_is in cc
]

-- a line of four bytes is none that has no end
four_bytes : HasNoEnd (codes "9 clear\n7 ti") (Some (TooLong 2)) → ⊥
four_bytes is = let long = is.long in omega (arith, long)

-- the commands for a unit, with their lines
for_nine : commands_for 9 ((1, (7, Time 33)) ∷ (2, (9, Clear 0)) ∷ (4, (9, EndSession 0)) ∷ []) ≡ record { line = 2; command = Clear 0 } ∷ record { line = 4; command = EndSession 0 } ∷ []
for_nine = refl
