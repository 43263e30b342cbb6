use Rattle.std.proofs.Common.{◌≡◌, Bool, true, false, ap, ◌∙◌, length, subst, arith, refl}
use Rattle.pitch_model.proofs.Results.{on_err}
use Rattle.unit_packets.specs.Cutting.{rest_of}
use Rattle.stream_print.specs.Putting.{PutsSome}
use Rattle.live_units.specs.Coming.{has_unit, live_lines, with_datagram}
use Rattle.live_units.specs.Units.{OfLive}
use Rattle.live_units.proofs.Hearing.{heard_all, heard_beat, heard_begun, heard_few, heard_grown, heard_more, heard_none, counted_all, not_memory}
use Rattle.live_units.proofs.units.LiveUnits.hear_datagram.Goals as goal

pub next-init : goal.next-init
next-init g c = record { heard = heard_none c.args.self.now (g.O.Sink.written c.args.out.now) c.args.bytes.now _ c.of_bytes-blocks.ensures; later = omega arith }

pub overflow_add-heard : goal.overflow_add-heard
overflow_add-heard g c =
    let few = heard_few _ _ _ _ _ _ _ _ c.next.invariant.heard c.in-Some.block _ c.in-Some.ensures.blocks in
    omega (arith, few)

pub overflow_add-others : goal.overflow_add-others
overflow_add-others g c =
    let few = heard_few _ _ _ _ _ _ _ _ c.next.invariant.heard c.in-Some.block _ c.in-Some.ensures.blocks in
    omega (arith, few)

pub next-preserved-then-branch : goal.next-preserved-then-branch
next-preserved-then-branch g c =
    let later = c.next.invariant.later in
    let cause = c.hear_block.ensures.cause.later in
    record {
      heard = heard_more _ _ _ _ _ _ _ _ c.next.invariant.heard c.next_block.new.self c.in-Some.block c.in-Some.ensures.blocks c.hear_block.new.self (g.O.Sink.written c.hear_block.new.out) true _ _ c.in-Some.ensures.rest
          c.in_ok-hear_block.ensures.hears c.hear_block.ensures.grows
          (subst (λ (b : Bool). OfLive c.next.self (g.O.Sink.written c.next.out) (λ s start came. b ≡ has_unit s c.in-Some.block.unit)) c.if-branch.true c.in_ok-hear_block.ensures.there)
          c.in_ok-hear_block.ensures.waits c.in_ok-hear_block.ensures.number (omega arith) (omega arith) refl;
      later = omega arith;
    }

pub next-preserved : goal.next-preserved
next-preserved g c =
    let later = c.next.invariant.later in
    let cause = c.hear_block.ensures.cause.later in
    record {
      heard = heard_more _ _ _ _ _ _ _ _ c.next.invariant.heard c.next_block.new.self c.in-Some.block c.in-Some.ensures.blocks c.hear_block.new.self (g.O.Sink.written c.hear_block.new.out) false _ _ c.in-Some.ensures.rest
          c.in_ok-hear_block.ensures.hears c.hear_block.ensures.grows
          (subst (λ (b : Bool). OfLive c.next.self (g.O.Sink.written c.next.out) (λ s start came. b ≡ has_unit s c.in-Some.block.unit)) c.if-branch.false c.in_ok-hear_block.ensures.there)
          c.in_ok-hear_block.ensures.waits c.in_ok-hear_block.ensures.number (omega arith) (omega arith) refl;
      later = omega arith;
    }

pub returns-in_err-hear_block-clause-err : goal.returns-in_err-hear_block-clause-err
returns-in_err-hear_block-clause-err g c =
    on_err (OfLive c.args.self.now (g.O.Sink.written c.args.out.now) (λ s start came. PutsSome start (g.O.Sink.written c.hear_block.new.out) (live_lines s (with_datagram s c.args.bytes.now came)))) _
    (heard_begun _ _ _ _ _ _ _ _ c.next.invariant.heard (g.O.Sink.written c.hear_block.new.out) c.in_err-hear_block.ensures.err)

pub returns-in_err-hear_block-clause-heartbeats : goal.returns-in_err-hear_block-clause-heartbeats
returns-in_err-hear_block-clause-heartbeats g c = λ s start came st alone.
    let beat = heard_beat _ _ _ _ _ _ _ _ c.next.invariant.heard c.next_block.new.self c.in-Some.block c.in-Some.ensures.blocks s start came st alone in
    not_memory c.from_residual.result _ c.from_residual.ensures (c.in_err-hear_block.ensures.heartbeat beat.0 beat.1)

pub returns-clause-heartbeats : goal.returns-clause-heartbeats
returns-clause-heartbeats g c = λ s start came st alone same. cc

pub returns-clause-hears : goal.returns-clause-hears
returns-clause-hears g c = heard_all _ _ _ _ _ _ _ _ c.next.invariant.heard c.in_default.ensures.blocks.0

pub returns-clause-waits : goal.returns-clause-waits
returns-clause-waits g c = c.next.invariant.heard.wait

pub returns-clause-counts : goal.returns-clause-counts
returns-clause-counts g c =
    let rest : c.rest.result.now ≡ rest_of c.args.bytes.now = c.rest.ensures ∙ c.in_default.ensures.rest ∙ c.next.invariant.heard.walked.rest in
    counted_all _ _ _ _ _ _ _ _ c.next.invariant.heard c.in_default.ensures.blocks.0 _ (ap length rest)

pub returns-in_err-hear_block-clause-grows : goal.returns-in_err-hear_block-clause-grows
returns-in_err-hear_block-clause-grows g c = heard_grown _ _ _ _ _ _ _ _ c.next.invariant.heard (g.O.Sink.written c.hear_block.new.out) c.hear_block.ensures.grows

pub returns-clause-grows : goal.returns-clause-grows
returns-clause-grows g c = c.next.invariant.heard.grown
