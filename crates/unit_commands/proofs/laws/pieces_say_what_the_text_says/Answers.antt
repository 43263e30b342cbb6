use Rattle.unit_commands.proofs.SaidLemmas.{says_in_turn, says_by_pieces, says_at_end, gives_in_turn}
use Rattle.unit_commands.proofs.laws.pieces_say_what_the_text_says.Goals as goal

pub returns-clause-in_turn : goal.returns-clause-in_turn
returns-clause-in_turn g c = says_in_turn g.G.Grammar.reading

pub returns-clause-by_pieces : goal.returns-clause-by_pieces
returns-clause-by_pieces g c = says_by_pieces g.G.Grammar.reading

pub returns-clause-at_end : goal.returns-clause-at_end
returns-clause-at_end g c = says_at_end g.G.Grammar.reading

pub returns-clause-entries : goal.returns-clause-entries
returns-clause-entries g c = gives_in_turn g.G.Grammar.reading
