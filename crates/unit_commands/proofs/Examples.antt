-- Worked examples: what lines with units say, and texts that come in pieces.
use Rattle.std.proofs.Common.{◌≡◌, ◌^◌, [], ◌∷◌, codes, Ok, Err, refl}
use Rattle.pitch_text.specs.declared.command.Command.TheVariants.{Clear, EndSession}
use Rattle.pitch_text.specs.CommandGrammar.{command, clear_rule, end_rule}
use Rattle.text_lines.specs.declared.fault.TextCause.TheVariants.{BadWord, BadNumber, MissingField}
use Rattle.text_lines.specs.Text.{said_of}
use Rattle.unit_commands.specs.Pieces.{piece_limit, rest_limit, piece_pushed, lines_passed, read_through}
use Rattle.unit_commands.specs.layers.PiecesLaws.{said_behind}
use Rattle.unit_commands.specs.UnitCommands.{unit_command}

-- ---- what lines say

-- the first two lines are skipped, and counted
units : said_of unit_command (codes "# none\n\n1 clear\r\n255 end at=1\n") ≡ Ok (3, (1, Clear 0)) ∷ Ok (4, (255, EndSession 1)) ∷ []
unfolding said_of unit_command command clear_rule end_rule
units = refl

no_unit_is_0 : said_of unit_command (codes "0 clear") ≡ Err (record { line = 1; fault = record { column = 1; cause = BadNumber } }) ∷ []
unfolding said_of unit_command
no_unit_is_0 = refl

no_unit_is_256 : said_of unit_command (codes "\n 256 clear") ≡ Err (record { line = 2; fault = record { column = 2; cause = BadNumber } }) ∷ []
unfolding said_of unit_command
no_unit_is_256 = refl

a_unit_needs_a_command : said_of unit_command (codes "7") ≡ Err (record { line = 1; fault = record { column = 2; cause = MissingField } }) ∷ []
unfolding said_of unit_command command
a_unit_needs_a_command = refl

-- a verb of a schedule that is no command
no_verb : said_of unit_command (codes "7 tick") ≡ Err (record { line = 1; fault = record { column = 3; cause = BadWord } }) ∷ []
unfolding said_of unit_command command
no_verb = refl

-- ---- what is unread

the_limits : (piece_limit ≡ 2 ^ 16) × (rest_limit ≡ 2 ^ 20)
the_limits = (refl, refl)

cut_in_a_line : piece_pushed (read_through []) (codes "1 clear\n\n2 cl") ≡ record { whole = codes "1 clear\n\n"; rest = codes "2 cl"; lines = 0 }
cut_in_a_line = refl

the_rest_comes : piece_pushed (lines_passed (piece_pushed (read_through []) (codes "1 clear\n\n2 cl"))) (codes "ear\n3") ≡ record { whole = codes "2 clear\n"; rest = codes "3"; lines = 2 }
the_rest_comes = refl

cut_behind_a_line_feed : lines_passed (piece_pushed (read_through []) (codes "1 clear\n")) ≡ record { whole = []; rest = []; lines = 1 }
cut_behind_a_line_feed = refl

cut_before_a_line_feed : piece_pushed (read_through (codes "\n1 clear\r")) (codes "\n") ≡ record { whole = codes "1 clear\r\n"; rest = []; lines = 1 }
cut_before_a_line_feed = refl

nothing_more : piece_pushed (read_through (codes "1 end\n2")) [] ≡ record { whole = []; rest = codes "2"; lines = 1 }
nothing_more = refl

-- a fault and an entry behind other lines
behind_two_lines : said_behind unit_command (codes "# none\n\n") (codes "0 clear\n7 clear") ≡ Err (record { line = 3; fault = record { column = 1; cause = BadNumber } }) ∷ Ok (4, (7, Clear 0)) ∷ []
unfolding said_of unit_command command clear_rule
behind_two_lines = refl
