use Rattle.std.proofs.Common.{Option, subst}
use Rattle.client_end.specs.Came.{Heard}
use Rattle.live_units.specs.Coming.{to_unit, with_came}
use Rattle.live_recovery.specs.Standing.{Compares}
use Rattle.live_recovery.specs.declared.copies.Disagreement.{Disagreement}
use Rattle.live_recovery.proofs.Disagreeing.{agree_ends}
use Rattle.live_recovery.proofs.copies.compare.Goals as goal

pub returns-in-Some-2 : goal.returns-in-Some-2
returns-in-Some-2 c = λ came agree.
    let s = c.args.setup.now.listens in
    let block = c.in-Some.block in
    let so = c.next.invariant.so_far came agree in
    let then = with_came s (to_unit block.unit (Heard block)) so.mid in
    agree_ends s c.args.datagram.now c.next.blocks came c.next.copies so block c.next_block.new.self c.in-Some.ensures.blocks c.compare_block.new.copies c.in-Some-2.disagreement
    (subst (λ (o : Option Disagreement). Compares o c.compare_block.new.copies then) c.in-Some-2.is (c.in_ok-disagreement.ensures so.mid so.agree))
