use Rattle.std.proofs.Common.{◌≡◌, ◌+◌, length}
use Rattle.shared_unit.proofs.Copying.{Copies}
use Rattle.shared_unit.proofs.store.append_raws.Given as goal

abbrev pub invariant-raws : goal.invariant-raws
invariant-raws l = record {
  left : length l.raws + l.counter ≡ length l.initial.raws;
  copies : Copies l.initial.out.items l.initial.raws l.out.items l.raws;
}
