use Rattle.unit_clients.proofs.Hearing.{new_client, keeps_there}
use Rattle.heard_items.specs.Units.{unit_history}
use Rattle.leveled_units.proofs.units.hear_at.Goals as goal

pub returns-in-Some-clause-keeps : goal.returns-in-Some-clause-keeps
returns-in-Some-clause-keeps c =
    keeps_there c.hear.result c.args.block.now c.in-Some.unit c.hear.new.self c.args.slot.now c.in-Some.is c.hear.ensures.keeps

pub returns-in-Ok-clause-tracks : goal.returns-in-Ok-clause-tracks
returns-in-Ok-clause-tracks c = rw c.replace.ensures.after (λ before unit stands.
    c.in-Ok.ensures.tracks c.args.limit (unit_history unit before) (new_client c.args.limit c.in_ok-unit-in-None.unit c.args.slot.now c.in-None.is c.in_ok-unit-in-None.ensures.tracks before unit stands))

pub returns-in-Ok-clause-keeps : goal.returns-in-Ok-clause-keeps
returns-in-Ok-clause-keeps c = rw c.replace.ensures.after (λ Image V E honest kept.
    c.in-Ok.ensures.keeps Image V E honest (c.in_ok-unit-in-None.ensures.keeps V))

pub returns-in-Ok-clause-change : goal.returns-in-Ok-clause-change
returns-in-Ok-clause-change c = λ before unit stands.
    c.in-Ok.ensures.change c.args.limit (unit_history unit before) (new_client c.args.limit c.in_ok-unit-in-None.unit c.args.slot.now c.in-None.is c.in_ok-unit-in-None.ensures.tracks before unit stands)
