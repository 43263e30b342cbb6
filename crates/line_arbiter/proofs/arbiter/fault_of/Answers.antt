use Rattle.std.proofs.Common.{rules, ◌≡◌, ap, sym, ◌∙◌, length, arith, ◌-◌, ◌==◌, true, false, ◌⊎◌, inl, inr}
use Rattle.unit_packets.proofs.Cuts.{rest_short}
use Rattle.line_arbiter.specs.layers.Delivered.{fault_on}
use Rattle.line_arbiter.proofs.Delivering.{fault_by}
use Rattle.line_arbiter.proofs.arbiter.fault_of.Goals.{else-is_empty-via-then-is_empty+else-not-is_empty, else-is_empty-via-else-is_empty}
use Rattle.line_arbiter.proofs.arbiter.fault_of.Goals as goal

pub overflow_sub-result : goal.overflow_sub-result
overflow_sub-result c = omega (arith, ap length c.requires.follows, rest_short c.args.datagram.now)

pub returns-in-Ok : goal.returns-in-Ok
returns-in-Ok c =
    let some : ((length c.args.rest.now == 0) ≡ false) ⊎ ((length c.args.datagram.now == 0) ≡ true) = elim c.else-is_empty.branch [
      | else-is_empty-via-then-is_empty+else-not-is_empty w ↦ inr (search rules)
      | else-is_empty-via-else-is_empty w ↦ inl (search rules)
    ] in
    sym (fault_by c.args.datagram.now c.args.rest.now _ c.requires.follows c.read_block.ensures.exact some ∙ ap (fault_on (length c.args.datagram.now - length c.args.rest.now)) c.in-Ok.is)

pub returns-in-Err : goal.returns-in-Err
returns-in-Err c =
    let some : ((length c.args.rest.now == 0) ≡ false) ⊎ ((length c.args.datagram.now == 0) ≡ true) = elim c.else-is_empty.branch [
      | else-is_empty-via-then-is_empty+else-not-is_empty w ↦ inr (search rules)
      | else-is_empty-via-else-is_empty w ↦ inl (search rules)
    ] in
    sym (fault_by c.args.datagram.now c.args.rest.now _ c.requires.follows c.read_block.ensures.exact some ∙ ap (fault_on (length c.args.datagram.now - length c.args.rest.now)) c.in-Err.is)
