use Rattle.std.proofs.Common.{◌≡◌, ap, ◌∙◌, length, arith}
use Rattle.pitch_model.proofs.Results.{at_exit}
use Rattle.unit_packets.specs.Cutting.{rest_of}
use Rattle.stream_print.specs.Printing.{FailsBlocks}
use Rattle.stream_print.specs.declared.failure.TaskError.{TaskError}
use Rattle.live_listen.specs.Heard.{heard_in}
use Rattle.live_listen.proofs.Hearing.{hearing_start, hearing_more, hearing_end, hearing_fails}
use Rattle.live_listen.proofs.listener.Listener.hear_blocks.Goals as goal

pub next-init : goal.next-init
next-init g c = record { hearing = hearing_start c.args.setup.now.units c.args.self.now c.args.datagram.now _ (g.O.Sink.written c.args.out.now) c.of_bytes-blocks.ensures; later = omega arith }

pub next-preserved : goal.next-preserved
next-preserved g c =
    let later = c.next.invariant.later in
    let cause = c.hear_block.ensures.cause.later in
    record {
      hearing = hearing_more c.args.setup.now.units _ _ _ _ _ _ _ _ _ c.in-Some.block c.next.invariant.hearing c.in-Some.ensures.blocks c.in-Some.ensures.rest c.in_ok-hear_block.ensures.hears;
      later = omega arith;
    }

pub returns-in_err-hear_block-clause-err : goal.returns-in_err-hear_block-clause-err
returns-in_err-hear_block-clause-err g c =
    at_exit (λ (e : TaskError). FailsBlocks e c.args.self.now.printer (g.O.Sink.written c.args.out.now) (g.O.Sink.written c.hear_block.new.out) (heard_in c.args.setup.now.units c.args.datagram.now))
    c.from_residual.result _ c.from_residual.ensures
    (hearing_fails c.args.setup.now.units _ _ _ _ _ _ _ _ _ c.in-Some.block c.next.invariant.hearing c.in-Some.ensures.blocks c.in_err-hear_block.ensures.err)

pub returns-clause-hears : goal.returns-clause-hears
returns-clause-hears g c = hearing_end c.args.setup.now.units _ _ _ _ _ _ c.next.invariant.hearing c.in_default.ensures.blocks.0

pub returns-clause-rest : goal.returns-clause-rest
returns-clause-rest g c =
    let rest : c.rest.result.now ≡ rest_of c.args.datagram.now = c.rest.ensures ∙ c.in_default.ensures.rest ∙ c.next.invariant.hearing.walked.rest in
    ap length rest
