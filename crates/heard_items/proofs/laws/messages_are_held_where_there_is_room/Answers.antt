use Rattle.heard_items.proofs.Room.{messages_stay}
use Rattle.heard_items.proofs.laws.messages_are_held_where_there_is_room.Goals as goal

pub returns-clause-held : goal.returns-clause-held
returns-clause-held c = λ H first raws E k far room above below. (messages_stay H first raws E far room).held k above below

pub returns-clause-still : goal.returns-clause-still
returns-clause-still c = λ H first raws E k far room is. (messages_stay H first raws E far room).still k is

pub returns-clause-reach : goal.returns-clause-reach
returns-clause-reach c = λ H first raws E far room. (messages_stay H first raws E far room).reach_is
