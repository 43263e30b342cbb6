use Rattle.std.proofs.Common.{◌≡◌, take}
use Rattle.gap_store.proofs.store.GapStore.copy.Given as goal

abbrev pub invariant-kept : goal.invariant-kept
invariant-kept l = (l.ring.items ≡ take l.i l.self-inside.ring.items) × (l.ring.capacity ≡ l.self-inside.ring.capacity)
