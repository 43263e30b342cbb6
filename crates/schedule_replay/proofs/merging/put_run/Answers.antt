use Rattle.std.proofs.Common.{arith, ◌<◌, List, length, Option}
use Rattle.world_model.specs.declared.world.World.{World}
use Rattle.schedule_replay.specs.declared.merging.Unmerged.{Unmerged}
use Rattle.schedule_replay.proofs.Joining.{puts_run}
use Rattle.schedule_replay.proofs.merging.put_run.Goals as goal

pub returns-then-place-len-2 : goal.returns-then-place-len-2
returns-then-place-len-2 c = λ parts are ran.
    let places : List (Option World) = c.args.places.now.items in
    let lefts : List Unmerged = c.args.lefts.now.items in
    let low : c.from-place.result < length places = omega (arith, c.if-place-len.true, c.len.ensures) in
    let lower : c.from-place.result < length lefts = omega (arith, are.texts, are.many, low) in
    puts_run parts places lefts c.args.run c.from-place.result c.put.new.place c.put-then-place-len-2.new.place c.from-place.ensures c.put.ensures c.put-then-place-len-2.ensures low lower are ran
