-- Worked examples of what two units hear of the input, computed by the definitions. What came stands
-- newest first.
use Rattle.std.proofs.Common.{◌≡◌, ℕ, Bool, true, false, nat_le, List, [], ◌∷◌, ◌++◌, length, None, Ok, refl, ap, ◌∙◌, arith}
use Rattle.std.specs.Prelude.{codes, decimal}
use Rattle.std.specs.FinMap as map
use Rattle.pitch_fields.specs.declared.side.Side.TheVariants.{Buy}
use Rattle.pitch_messages.specs.Reading.{reads}
use Rattle.pitch_messages.specs.Writing.{written}
use Rattle.pitch_model.specs.Book.{book_after}
use Rattle.pitch_text.specs.declared.command.Command.{Command}
use Rattle.pitch_text.specs.declared.command.Command.TheVariants.{Add, Clear, EndSession, Time}
use Rattle.pitch_text.specs.CommandGrammar.{command, clear_rule, end_rule, reduce_rule, time_rule}
use Rattle.text_lines.specs.Items.{items_of}
use Rattle.text_lines.specs.Text.{said_of}
use Rattle.text_lines.specs.declared.fault.TextCause.TheVariants.{BadWord, MissingField}
use Rattle.live_net.specs.declared.live.PeerPut.TheVariants.{Wrote}
use Rattle.live_net.specs.declared.live.PeerTaken.TheVariants.{Got}
use Rattle.unit_commands.specs.UnitCommands.{unit_command}
use Rattle.unit_packets.specs.BlockBytes.{block_bytes}
use Rattle.venue_core.specs.Refusals.{are_spent, first_refusal, has_order, is_ended, refused_if}
use Rattle.venue_core.specs.declared.error.VenueError.TheVariants.{BookFull, Ended, KnownId, SequencesSpent, TooMuch, ZeroQuantity}
use Rattle.venue_end.specs.Came.{Commanded}
use Rattle.venue_net.specs.VenueCalls.{Put, Take}
use Rattle.venue_end.specs.declared.setup.VenueSetup.{VenueSetup}
use Rattle.venue_units.specs.Coming.{UnitCame, state_at, to_unit}
use Rattle.live_venue.specs.layers.Faults.{fault_text}
use Rattle.live_venue.specs.Input.{Heard, faulty, piece_heard, rest_heard, said_heard, told_line, unless_refused}
use Rattle.live_venue.specs.Running.{Fits, at_first, beaten}
use Rattle.live_venue.specs.Sending.{gap_line, line_a, line_b, on_both, on_gap, to_line}
use Rattle.live_venue.specs.declared.fault.InputFault.TheVariants.{Bad, NoUnit, Refused}

-- ---- Two units, with the indices 0 and 1
abbrev pub made_for : ℕ → VenueSetup
made_for unit = record {
  unit = unit;
  account = record { sub = codes "0001"; user = codes "FEED"; password = codes "PITCH     " };
  kept = 3;
  second = 1;
  minute = 5;
  day = 6;
}

abbrev both : List VenueSetup
both = made_for 7 ∷ made_for 9 ∷ []

abbrev faultless : List UnitCame → Heard
faultless came = record { came = came; fault = None }

-- ---- Pieces
-- a piece is cut in a line: what it ends comes, each to its unit
abbrev first_came : List UnitCame
first_came = to_unit 1 (Commanded (Clear 0)) ∷ to_unit 0 (Commanded (Time 33)) ∷ []

cut_in_a_line : piece_heard both [] (codes "7 time 33\n9 clear\n7 cl") [] ≡ faultless first_came
unfolding items_of said_of unit_command command time_rule clear_rule reads written
cut_in_a_line = refl

-- the next piece ends that line
the_line_ends : piece_heard both (codes "7 time 33\n9 clear\n7 cl") (codes "ear\n9 ti") first_came ≡ faultless (to_unit 0 (Commanded (Clear 0)) ∷ first_came)
unfolding items_of said_of unit_command command clear_rule reads written
the_line_ends = refl

-- a piece that ends no line says nothing
no_line_ends : piece_heard both (codes "9 ti") (codes "me 3") first_came ≡ faultless first_came
unfolding items_of said_of
no_line_ends = refl

-- what is left at the end of the input is a line
the_last_line : rest_heard both (codes "7 time 33\n9 clear") [] ≡ faultless (to_unit 1 (Commanded (Clear 0)) ∷ [])
unfolding items_of said_of unit_command command clear_rule reads written
the_last_line = refl

nothing_is_left : rest_heard both (codes "7 time 33\n") first_came ≡ faultless first_came
unfolding items_of said_of
nothing_is_left = refl

-- ---- Faults
-- a unit that is not served: what was said before it came, and what follows is passed over
no_such_unit : piece_heard both [] (codes "9 clear\n8 clear\n7 clear\n") [] ≡ faulty (to_unit 1 (Commanded (Clear 0)) ∷ []) (NoUnit 2)
unfolding items_of said_of unit_command command clear_rule reads written
no_such_unit = refl

-- a line that is no command; lines that were read before are counted, also those that say nothing
no_command : piece_heard both (codes "# none\n\n7 ") (codes "cleared\n7 clear\n") [] ≡ faulty [] (Bad 3 3 BadWord)
unfolding items_of said_of unit_command command clear_rule
no_command = refl

no_whole_command : rest_heard both (codes "\n9 time") [] ≡ faulty [] (Bad 2 7 MissingField)
unfolding items_of said_of unit_command command time_rule
no_whole_command = refl

-- a command that its unit refuses, by itself, and after what came before it; another unit's is heard
for_no_shares : piece_heard both [] (codes "7 reduce 5 0\n") [] ≡ faulty [] (Refused 1 ZeroQuantity)
unfolding items_of said_of unit_command command reduce_rule reads written
for_no_shares = refl

behind_an_end : piece_heard both [] (codes "7 end\n9 clear\n7 clear\n9 clear\n") [] ≡ faulty (to_unit 1 (Commanded (Clear 0)) ∷ to_unit 0 (Commanded (EndSession 0)) ∷ []) (Refused 3 Ended)
unfolding items_of said_of unit_command command clear_rule end_rule reads written
behind_an_end = refl

-- an order of an id that is open, whatever came before; three lines were read
module _ (came : List UnitCame) where
  abbrev so_far : List (List ℕ)
  so_far = (state_at (made_for 7) 0 came).messages

  abbrev of_five : Command
  of_five = Add (record { id = 5; side = Buy; quantity = 7; symbol = codes "IBM     "; price = 100000; display = true; participant = codes "    " }) 0

  abbrev judged : Bool → Bool → Heard
  judged ended known = unless_refused (first_refusal (refused_if ended Ended ∷ None ∷ None ∷ refused_if known KnownId ∷ None ∷ None ∷ refused_if (nat_le 1000000 (map.len (book_after so_far).orders)) BookFull ∷ refused_if (are_spent (length so_far)) SequencesSpent ∷ []))
      5 0 of_five came

  known_id : is_ended so_far ≡ false → has_order (book_after so_far) 5 ≡ true → said_heard both 3 (Ok (record { line = 2; unit = 7; command = of_five })) came ≡ faulty came (Refused 5 KnownId)
  known_id goes there = ap (λ (b : Bool). judged b (has_order (book_after so_far) 5)) goes ∙ ap (λ (b : Bool). judged false b) there

-- ---- Calls
-- no more is put than was handed in, and no more comes than there was room for
put_beyond : Fits (Put 64 (1 ∷ 2 ∷ []) (Wrote 3)) → ⊥
put_beyond fits = omega (arith, fits)

came_beyond : Fits (Take 64 1 (1 ∷ 2 ∷ []) (Got 2)) → ⊥
came_beyond fits = omega (arith, fits)

-- ---- Numbers of lines
-- they stay at the end of their type
the_last_number : told_line 18446744073709551610 9 ≡ 18446744073709551615
the_last_number = refl

-- ---- Words
-- the place of a line that is no command, and its cause; and the refusal of a command
of_a_line : (line column : ℕ) → fault_text (Bad line column BadWord) ≡ codes "bad input at line " ++ (decimal line ++ (codes " column " ++ (decimal column ++ codes ": bad-word")))
of_a_line line column = refl

of_a_refusal : (line : ℕ) → fault_text (Refused line (TooMuch 101 100)) ≡ codes "refused at line " ++ (decimal line ++ (codes ": too-much " ++ (decimal 101 ++ (codes " " ++ decimal 100))))
of_a_refusal line = refl

-- ---- What is sent
-- the lines of the third unit
three_lines : (line_a 2 ∷ line_b 2 ∷ gap_line 2 ∷ []) ≡ 6 ∷ 7 ∷ 8 ∷ []
three_lines = refl

-- of two datagrams the first goes on both lines before the second
on_two_lines : on_both 1 ((5 ∷ []) ∷ (6 ∷ []) ∷ []) ≡ to_line 3 (5 ∷ []) ∷ to_line 4 (5 ∷ []) ∷ to_line 3 (6 ∷ []) ∷ to_line 4 (6 ∷ []) ∷ []
on_two_lines = refl

on_one_line : on_gap 1 ((5 ∷ []) ∷ (6 ∷ []) ∷ []) ≡ to_line 5 (5 ∷ []) ∷ to_line 5 (6 ∷ []) ∷ []
on_one_line = refl

-- heartbeats of both units, to which nothing came yet
abbrev beat : ℕ → List ℕ
beat unit = 8 ∷ 0 ∷ 0 ∷ unit ∷ 1 ∷ 0 ∷ 0 ∷ 0 ∷ []

both_beat : (beaten both 2 at_first).unsent ≡ to_line 0 (beat 7) ∷ to_line 1 (beat 7) ∷ to_line 3 (beat 9) ∷ to_line 4 (beat 9) ∷ []
unfolding block_bytes
both_beat = refl
