use Rattle.std.proofs.Common.{◌≡◌}
use Rattle.schedule_replay.specs.layers.Places.{worlds_in}
use Rattle.schedule_replay.proofs.running.all_worlds.Given as goal

abbrev pub invariant-places : goal.invariant-places
invariant-places l = l.worlds.items ≡ worlds_in l.yielded
