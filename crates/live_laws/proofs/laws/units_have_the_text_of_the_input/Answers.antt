use Rattle.live_laws.proofs.Commanding.{runs_have_the_commands, texts_are_commands}
use Rattle.live_laws.proofs.Hearing.{runs_have_the_text}
use Rattle.live_laws.proofs.laws.units_have_the_text_of_the_input.Goals as goal

pub returns-clause-text : goal.returns-clause-text
returns-clause-text c = runs_have_the_text

pub returns-clause-texts : goal.returns-clause-texts
returns-clause-texts c = texts_are_commands

pub returns-clause-commands : goal.returns-clause-commands
returns-clause-commands c = runs_have_the_commands
