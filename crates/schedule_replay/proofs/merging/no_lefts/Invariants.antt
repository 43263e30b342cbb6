use Rattle.std.proofs.Common.{◌≡◌, vec_len}
use Rattle.schedule_replay.proofs.merging.no_lefts.Given as goal

abbrev pub invariant-lefts : goal.invariant-lefts
invariant-lefts l = vec_len l.lefts ≡ l.counter
