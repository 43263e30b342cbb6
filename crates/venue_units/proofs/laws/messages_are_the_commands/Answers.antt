use Rattle.venue_units.proofs.Messages.{messages_are_the_commands, messages_grow, pieces_stay_pieces}
use Rattle.venue_units.proofs.laws.messages_are_the_commands.Goals as goal

pub returns-clause-messages : goal.returns-clause-messages
returns-clause-messages c = messages_are_the_commands

pub returns-clause-grow : goal.returns-clause-grow
returns-clause-grow c = messages_grow

pub returns-clause-pieces : goal.returns-clause-pieces
returns-clause-pieces c = pieces_stay_pieces
