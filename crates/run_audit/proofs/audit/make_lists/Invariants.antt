use Rattle.std.proofs.Common.{◌≡◌, ℕ, ◌-◌, length}
use Rattle.run_audit.specs.layers.Finding.{messages_of}
use Rattle.run_audit.specs.layers.Following.{AreShort}
use Rattle.run_audit.proofs.audit.make_lists.Given as goal

abbrev pub invariant-lists : goal.invariant-lists
invariant-lists l = record {
  same : (of : ℕ) → messages_of l.logs.items of ≡ messages_of l.fn.logs.items of;
  short : AreShort l.logs.items;
}

abbrev pub decreases-lists : goal.decreases-lists
decreases-lists l = l.count - length l.logs.items
