use Rattle.std.proofs.Common.{◌≡◌, take, length}
use Rattle.schedule_replay.proofs.Joining.{Merging}
use Rattle.schedule_replay.proofs.merging.merge.Given as goal

abbrev pub invariant-stretches : goal.invariant-stretches
invariant-stretches l = record {
  so_far : Merging l.order l.whose-index l.fn.lefts.items l.lefts.items l.fn.out.items l.out.items;
  behind : take (length l.fn.out.items) l.out.items ≡ l.fn.out.items;
}
