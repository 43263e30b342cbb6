use Rattle.std.proofs.Common.{subst}
use Rattle.heard_items.specs.Units.{unit_history}
use Rattle.line_copies.specs.Standing.{IsPlaceOf}
use Rattle.line_copies.proofs.Places.{new_place}
use Rattle.line_copies.proofs.lines.hear_at.Goals as goal

pub returns-in-Some-clause-keeps : goal.returns-in-Some-clause-keeps
returns-in-Some-clause-keeps c = λ before unit stands.
    c.hear_block.ensures.keeps (unit_history unit before) (subst (IsPlaceOf before unit) c.in-Some.is stands).1

pub returns-in_ok-copies-in-None-clause-keeps : goal.returns-in_ok-copies-in-None-clause-keeps
returns-in_ok-copies-in-None-clause-keeps c = rw c.replace.ensures.after (λ before unit stands.
    c.hear_block-told.ensures.keeps (unit_history unit before)
    (new_place c.in_ok-copies-in-None.copies c.args.place.now c.in-None.is c.in_ok-copies-in-None.ensures before unit stands))

pub returns-in_ok-copies-in-None-clause-told : goal.returns-in_ok-copies-in-None-clause-told
returns-in_ok-copies-in-None-clause-told c = λ before unit stands.
    c.hear_block-told.ensures.told (unit_history unit before)
    (new_place c.in_ok-copies-in-None.copies c.args.place.now c.in-None.is c.in_ok-copies-in-None.ensures before unit stands)
