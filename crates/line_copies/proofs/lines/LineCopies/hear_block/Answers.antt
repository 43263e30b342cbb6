use Rattle.std.proofs.lemmas.Bool.{false≢true}
use Rattle.line_copies.specs.Standing.{HaveKept}
use Rattle.line_copies.proofs.Places.{named_place, places_hear, told_places}
use Rattle.line_copies.proofs.lines.LineCopies.hear_block.Goals as goal

pub returns-in_err-told-clause-memory : goal.returns-in_err-told-clause-memory
returns-in_err-told-clause-memory c = λ before kept named.
    let unit = c.args.block.now.unit in
    absurd (false≢true (c.in_err-told.ensures.memory (named_place before unit c.place_of.result.now (kept.each unit c.place_of.result.now c.place_of.ensures.there) named)))

pub returns-clause-heard : goal.returns-clause-heard
returns-clause-heard c = λ before kept.
    let block = c.args.block.now in
    places_hear c.args.self.now.units.places c.hear_at.new.place block before kept
    (c.in_ok-told.ensures.keeps before block.unit (kept.each block.unit c.place_of.result.now c.place_of.ensures.there))

pub returns-clause-sound : goal.returns-clause-sound
returns-clause-sound c =
    let block = c.args.block.now in
    told_places c.in_ok-told.told (HaveKept c.args.self.now) block
    (λ before kept. c.in_ok-told.ensures.told before block.unit (kept.each block.unit c.place_of.result.now c.place_of.ensures.there))
