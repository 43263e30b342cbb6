use Rattle.std.proofs.Common.{◌+◌, Bool, ap, ◌∙◌, arith}
use Rattle.std.specs.Prelude.{if◌then◌else◌}
use Rattle.sending_end.proofs.Hearing.{heard_few, heard_more}
use Rattle.sending_end.proofs.end.SendingEnd.hear_datagram.Goals as goal

pub overflow_add-heard : goal.overflow_add-heard
overflow_add-heard c =
    let few = heard_few _ _ _ _ _ _ c.next.invariant c.in-Some.block _ c.in-Some.ensures.blocks in
    omega (arith, few)

pub next-preserved-then-branch : goal.next-preserved-then-branch
next-preserved-then-branch c =
    let count = c.in_ok-hear_if_ours.ensures.counts ∙ ap (λ (ours : Bool). if ours then 1 else 0) c.if-branch.true in
    heard_more c.args.self.now c.next.self c.hear_if_ours.new.self c.args.bytes.now c.next.blocks c.next_block.new.self c.next.heard c.next.others (c.next.heard + 1) c.next.others 1 c.in-Some.block
    c.next.invariant c.in-Some.ensures.blocks c.in-Some.ensures.rest c.in_ok-hear_if_ours.ensures.hears count (omega arith) (omega arith)

pub overflow_add-others : goal.overflow_add-others
overflow_add-others c =
    let few = heard_few _ _ _ _ _ _ c.next.invariant c.in-Some.block _ c.in-Some.ensures.blocks in
    omega (arith, few)

pub next-preserved : goal.next-preserved
next-preserved c =
    let count = c.in_ok-hear_if_ours.ensures.counts ∙ ap (λ (ours : Bool). if ours then 1 else 0) c.if-branch.false in
    heard_more c.args.self.now c.next.self c.hear_if_ours.new.self c.args.bytes.now c.next.blocks c.next_block.new.self c.next.heard c.next.others c.next.heard (c.next.others + 1) 0 c.in-Some.block
    c.next.invariant c.in-Some.ensures.blocks c.in-Some.ensures.rest c.in_ok-hear_if_ours.ensures.hears count (omega arith) (omega arith)
