use Rattle.std.proofs.Common.{List, length}
use Rattle.live_units.specs.Coming.{UnitCame}
use Rattle.live_recovery.specs.Standing.{Agree}
use Rattle.live_recovery.proofs.Disagreeing.{AgreeTo}
use Rattle.live_recovery.proofs.copies.compare.Given as goal

abbrev pub invariant-next : goal.invariant-next
invariant-next l = record {
  so_far : (came : List UnitCame) → Agree l.fn.copies came → AgreeTo l.setup.listens l.copies l.datagram l.blocks came;
}

abbrev pub decreases-next : goal.decreases-next
decreases-next l = length l.blocks
