use Rattle.std.proofs.Common.{arith}
use Rattle.unit_packets.proofs.Beginning.{taken_by}
use Rattle.unit_packets.proofs.packer.Packer.takes.Goals as goal

pub returns : goal.returns
returns c =
    let t = taken_by _ _ _ _ c.args.raw.now _ c.self.invariant c.self.view_is in (
      λ is. let f = c.is_taken.ensures.0 is in t.0 (f.0, (f.1.0, omega (arith, f.1.1))),
      λ both. let f = t.1 both in c.is_taken.ensures.1 (f.0, (f.1.0, omega (arith, f.1.1))),
    )
