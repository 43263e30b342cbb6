-- Worked examples of what is printed of a unit and of two, computed by the definitions. What came
-- stands newest first.
use Rattle.std.proofs.Common.{◌≡◌, ℕ, true, false, List, [], ◌∷◌, ◌++◌, refl, sym, ap, ◌∙◌, arith, codes, take}
use Rattle.std.specs.Fmt.{digits}
use Rattle.unit_packets.specs.Blocks.{Block}
use Rattle.unit_packets.specs.Cutting.{blocks_of, blocks_by, rest_of, rest_by}
use Rattle.unit_packets.specs.Judging.{judge, messages_end}
use Rattle.pitch_messages.specs.Raw.{raws_of}
use Rattle.pitch_messages.specs.Session.{session_reads}
use Rattle.pitch_model.specs.Book.{Book, book_after}
use Rattle.pitch_model.specs.Reach.{reach_of, held_count}
use Rattle.session_ends.specs.Items.{stream_items}
use Rattle.feed_lines.specs.BookText.{book_text}
use Rattle.feed_lines.specs.Follow.{block_line}
use Rattle.feed_lines.specs.Show.{number_field}
use Rattle.stream_print.specs.Rising.{named_below}
use Rattle.client_end.specs.Came.{Came, EndSetup, Heard, SpinCut, SpinMade, SpinTook, Second, end_history}
use Rattle.sending_end.specs.declared.session.Session.TheVariants.{Proxy, SpinServer}
use Rattle.live_units.specs.Coming.{LiveSetup, UnitCame, AreBooksBelow, IsHonestAt, came_to, has_book, has_unit, history_at, live_lines, passed_of, stands_at, to_unit, with_blocks, with_came, with_datagram, with_loss}
use Rattle.live_units.specs.Ended.{ends_of, has_ended, have_ended, is_ended}
use Rattle.live_units.specs.LiveText.{came_text, image_line, is_told_of}
use Rattle.live_units.specs.Units.{waits_then}

abbrev seven : EndSetup
seven = record {
  unit = 7;
  account = record { sub = codes "0001"; user = codes "FEED"; password = codes "PITCH     " };
  hold = 10;
}

abbrev delete : List ℕ
delete = 14 ∷ 0x29 ∷ 0 ∷ 0 ∷ 0 ∷ 0 ∷ 5 ∷ 0 ∷ 0 ∷ 0 ∷ 0 ∷ 0 ∷ 0 ∷ 0 ∷ []

abbrev packet : ℕ → Came
packet sequence = Heard (record { unit = 7; sequence = sequence; raws = delete ∷ [] })

-- the packet with message 2 is lost: the line of the next is that of block number 5, by its count
-- among the blocks of all units
a_packet_is_lost : came_text seven 5 (packet 3) (packet 1 ∷ []) ≡ codes "block 5 unit 7 first 3 count 1; behind 1 of 3\n"
unfolding reach_of held_count block_line digits
a_packet_is_lost = refl

-- ---- An image
abbrev accepted : List ℕ
accepted = 11 ∷ 0 ∷ 1 ∷ 0 ∷ 0 ∷ 0 ∷ 0 ∷ 0 ∷ 3 ∷ 0x02 ∷ 65 ∷ []

-- the image through the fourth message is advertised; it is sent, and has no orders; and it ends
abbrev fourth_available : List ℕ
fourth_available = 14 ∷ 0 ∷ 1 ∷ 7 ∷ 0 ∷ 0 ∷ 0 ∷ 0 ∷ 6 ∷ 0x80 ∷ 4 ∷ 0 ∷ 0 ∷ 0 ∷ []

abbrev fourth_is_sent : List ℕ
fourth_is_sent = 19 ∷ 0 ∷ 1 ∷ 7 ∷ 0 ∷ 0 ∷ 0 ∷ 0 ∷ 11 ∷ 0x82 ∷ 4 ∷ 0 ∷ 0 ∷ 0 ∷ 0 ∷ 0 ∷ 0 ∷ 0 ∷ 65 ∷ []

abbrev fourth_ends : List ℕ
fourth_ends = 14 ∷ 0 ∷ 1 ∷ 7 ∷ 0 ∷ 0 ∷ 0 ∷ 0 ∷ 6 ∷ 0x83 ∷ 4 ∷ 0 ∷ 0 ∷ 0 ∷ []

abbrev asked_for : List Came
asked_for = Second ∷ SpinTook (accepted ++ fourth_available) ∷ SpinMade ∷ packet 3 ∷ packet 1 ∷ []

-- bytes that move nothing print nothing
nothing_moves : came_text seven 6 (SpinTook fourth_is_sent) asked_for ≡ []
unfolding stream_items blocks_of blocks_by rest_of rest_by judge messages_end raws_of session_reads reach_of held_count
nothing_moves = refl

-- once it has ended, the unit reaches as far as it
an_image_has_come : came_text seven 6 (SpinTook fourth_ends) (SpinTook fourth_is_sent ∷ asked_for) ≡ codes "unit 7 image 4; current 4\n"
unfolding stream_items blocks_of blocks_by rest_of rest_by judge messages_end raws_of session_reads reach_of held_count image_line number_field digits
an_image_has_come = refl

-- ---- What was told of
-- an unsequenced block is a block; a connection alone tells of nothing
of_a_block : is_told_of seven (Heard (record { unit = 7; sequence = 0; raws = delete ∷ [] }) ∷ []) ≡ true
of_a_block = refl

of_a_connection : is_told_of seven (SpinTook accepted ∷ SpinMade ∷ []) ≡ false
unfolding stream_items blocks_of blocks_by rest_of rest_by judge messages_end raws_of session_reads reach_of
of_a_connection = refl

-- ---- Two units
-- units 7 and 2 are listened to
abbrev both : LiveSetup
both = record { units = 7 ∷ 2 ∷ []; account = seven.account; hold = 10 }

-- where none is named, every unit is
abbrev every : LiveSetup
every = record both { units = [] }

every_unit_is : (has_unit both 3 ≡ false) × (has_unit every 3 ≡ true)
every_unit_is = (refl, refl)

abbrev block : ℕ → ℕ → Block
block unit sequence = record { unit = unit; sequence = sequence; raws = delete ∷ [] }

-- the first packet of unit 7, one of unit 3, the first of unit 2, and the third of unit 7, whose
-- second was lost
abbrev with_a_loss : List Block
with_a_loss = block 7 1 ∷ block 3 1 ∷ block 2 1 ∷ block 7 3 ∷ []

abbrev came_with_a_loss : List UnitCame
came_with_a_loss = with_blocks both with_a_loss []

-- that of unit 3 is passed over, and has no number
lines_with_a_loss : live_lines both came_with_a_loss ≡ codes "block 1 unit 7 first 1 count 1; current 1\n" ++ codes "block 2 unit 2 first 1 count 1; current 1\n" ++ codes "block 3 unit 7 first 3 count 1; behind 1 of 3\n"
unfolding reach_of held_count block_line digits
lines_with_a_loss = refl

-- each unit has what came to it
to_seven : came_to 7 came_with_a_loss ≡ packet 3 ∷ packet 1 ∷ []
to_seven = refl

-- those that a block came to have a book, that of unit 2 before that of unit 7
by_rising_number : named_below (has_book both came_with_a_loss) 8 ≡ 2 ∷ 7 ∷ []
unfolding reach_of held_count named_below
by_rising_number = refl

of_silence_there_is_none : has_book both [] 7 ≡ false
unfolding reach_of
of_silence_there_is_none = refl

-- ---- A unit that contradicts itself
-- unit 7 has two different messages of sequence 1, and unit 2 has one
abbrev one : List ℕ
one = 2 ∷ 1 ∷ []

abbrev another : List ℕ
another = 2 ∷ 2 ∷ []

abbrev first_of : ℕ → List ℕ → Block
first_of unit raw = record { unit = unit; sequence = 1; raws = raw ∷ [] }

abbrev contradictory : List UnitCame
contradictory = with_blocks both (first_of 7 one ∷ first_of 2 one ∷ first_of 7 another ∷ []) []

no_venue_is_of_both : (V : List (List ℕ)) → IsHonestAt both contradictory 7 V → ⊥
no_venue_is_of_both V venue = let both_are = sym venue.honest.0 ∙ venue.honest.1.0 in cc

-- the book of unit 2 is that of its message all the same
the_other_units_book_stands : (text : List ℕ) → AreBooksBelow 8 both contradictory text → (book : Book) × (text ≡ book_text 2 1 (book_after (one ∷ [])) ++ (book_text 7 1 book ++ []))
unfolding reach_of held_count named_below
the_other_units_book_stands text is =
    let two : is.books 2 ≡ book_after (one ∷ []) = is.right 2 (omega arith) refl (one ∷ []) (record { Image = λ V s. take s V; are_images = λ s. refl; honest = (refl, tt) }) in
    (is.books 7, is.text_is ∙ ap (λ (b : Book). book_text 2 1 b ++ (book_text 7 1 (is.books 7) ++ [])) two)

-- ---- A datagram
-- heartbeats of units 7 and 3, and a byte behind them, which no block has
abbrev beats : List ℕ
beats = 8 ∷ 0 ∷ 0 ∷ 7 ∷ 1 ∷ 0 ∷ 0 ∷ 0 ∷ 8 ∷ 0 ∷ 0 ∷ 3 ∷ 1 ∷ 0 ∷ 0 ∷ 0 ∷ 255 ∷ []

a_datagram_passes : passed_of both beats ≡ record { heard = 1; others = 1; rest = 1 }
unfolding blocks_of blocks_by rest_of rest_by judge messages_end raws_of
a_datagram_passes = refl

a_datagram_came : with_datagram both beats [] ≡ to_unit 7 (Heard (record { unit = 7; sequence = 1; raws = [] })) ∷ []
unfolding blocks_of blocks_by rest_of rest_by judge messages_end raws_of
a_datagram_came = refl

-- ---- Sessions of two units
-- a connection of unit 7 is none of unit 2, and none is of a unit that is not listened to
abbrev one_made : List UnitCame
one_made = with_came both (to_unit 3 SpinMade) (with_came both (to_unit 7 SpinMade) [])

it_stands : (stands_at both 7 SpinServer one_made ≡ true) × ((stands_at both 7 Proxy one_made ≡ false) × (stands_at both 2 SpinServer one_made ≡ false))
it_stands = (refl, (refl, refl))

of_no_other : stands_at both 3 SpinServer one_made ≡ false
of_no_other = refl

a_loss_ends_it : stands_at both 7 SpinServer (with_loss both 7 one_made) ≡ false
a_loss_ends_it = refl

-- what waited goes with it; for a unit that is not listened to, what is said is nothing
what_waited_is_dropped : waits_then both 7 SpinCut one_made SpinServer (1 ∷ 2 ∷ []) ≡ []
what_waited_is_dropped = refl

nothing_is_said : waits_then both 3 SpinMade [] SpinServer [] ≡ []
nothing_is_said = refl

-- ---- Units that have ended
-- unit 7's third message, and unit 2's first, are End of Session
abbrev end : List ℕ
end = 6 ∷ 0x2d ∷ 0 ∷ 0 ∷ 0 ∷ 0 ∷ []

abbrev end_block : ℕ → ℕ → Block
end_block unit sequence = record { unit = unit; sequence = sequence; raws = end ∷ [] }

-- it came, and the message before it did not: it is among those that came, and ends nothing yet
abbrev end_too_early : List UnitCame
end_too_early = with_blocks both (block 7 1 ∷ end_block 7 3 ∷ []) []

it_came : ends_of (history_at both 7 end_too_early) ≡ 3 ∷ []
it_came = refl

behind_its_end : has_ended both 7 end_too_early ≡ false
unfolding reach_of held_count
behind_its_end = refl

-- the message that was lost comes
abbrev all_of_seven : List UnitCame
all_of_seven = with_blocks both (block 7 2 ∷ []) end_too_early

seven_has_ended : has_ended both 7 all_of_seven ≡ true
unfolding reach_of held_count
seven_has_ended = refl

-- it has however much comes behind: the lowest counts, in a block of two and in two blocks
two_have_come : has_ended both 7 (with_blocks both (record { unit = 7; sequence = 2; raws = end ∷ end ∷ [] } ∷ block 7 5 ∷ end_block 7 9 ∷ []) end_too_early) ≡ true
unfolding reach_of held_count
two_have_come = refl

-- the end of another unit is none of this one, and a venue's last message is none without its type
of_another_unit : (has_ended both 7 (with_blocks both (block 7 1 ∷ end_block 2 1 ∷ []) []) ≡ false) × (has_ended both 2 (with_blocks both (block 7 1 ∷ end_block 2 1 ∷ []) []) ≡ true)
unfolding reach_of held_count
of_another_unit = (refl, refl)

without_an_end : has_ended both 7 (with_blocks both (block 7 1 ∷ block 7 2 ∷ []) []) ≡ false
unfolding reach_of held_count
without_an_end = refl

-- of an unsequenced block nothing is heard
of_no_sequence : has_ended both 7 (with_blocks both (end_block 7 0 ∷ []) []) ≡ false
of_no_sequence = refl

-- an image brings no end; behind an end that came it takes the unit up to it
no_image_ends : is_ended 10 (end_history seven (SpinTook fourth_ends ∷ SpinTook fourth_is_sent ∷ asked_for)) ≡ false
unfolding stream_items blocks_of blocks_by rest_of rest_by judge messages_end raws_of session_reads reach_of held_count
no_image_ends = refl

and_behind_an_image : is_ended 10 (end_history seven (SpinTook fourth_ends ∷ SpinTook fourth_is_sent ∷ Second ∷ SpinTook (accepted ++ fourth_available) ∷ SpinMade ∷ Heard (end_block 7 3) ∷ packet 1 ∷ [])) ≡ true
unfolding stream_items blocks_of blocks_by rest_of rest_by judge messages_end raws_of session_reads reach_of held_count
and_behind_an_image = refl

-- of some units each has to have ended, and of none none has
each_of_them : (have_ended both (7 ∷ 2 ∷ []) all_of_seven ≡ false) × ((have_ended both (7 ∷ 2 ∷ []) (with_blocks both (end_block 2 1 ∷ []) all_of_seven) ≡ true) × (have_ended both [] all_of_seven ≡ false))
unfolding reach_of held_count
each_of_them = (refl, (refl, refl))
