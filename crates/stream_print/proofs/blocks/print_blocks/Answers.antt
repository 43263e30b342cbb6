use Rattle.std.proofs.Common.{◌≡◌, ap, ◌∙◌, length, arith}
use Rattle.pitch_model.proofs.Results.{at_exit}
use Rattle.unit_packets.specs.Cutting.{blocks_of, rest_of}
use Rattle.unit_packets.proofs.Cuts.{rest_short}
use Rattle.stream_print.specs.Printing.{FailsBlocks}
use Rattle.stream_print.specs.declared.failure.TaskError.{TaskError}
use Rattle.stream_print.proofs.Streaming.{taking_start, taking_more, taking_end, taking_fails}
use Rattle.stream_print.proofs.blocks.print_blocks.Goals as goal

pub next-init : goal.next-init
next-init g c = record { taking = taking_start _ _ _ _ c.of_bytes-blocks.ensures; later = omega arith }

pub next-preserved : goal.next-preserved
next-preserved g c =
    let later = c.next.invariant.later in
    let cause = c.print.ensures.cause.later in
    record {
      taking = taking_more _ _ _ _ _ _ _ _ _ c.in-Some.block c.next.invariant.taking c.in-Some.ensures.blocks c.in-Some.ensures.rest c.in-Some.ensures.stands c.in_ok-print.ensures.prints c.in_ok-print.ensures.number;
      later = omega arith;
    }

pub overflow_sub-result : goal.overflow_sub-result
overflow_sub-result g c =
    let rest : c.rest.result.now ≡ rest_of c.args.bytes.now = c.rest.ensures ∙ c.in_default.ensures.rest ∙ c.next.invariant.taking.walked.rest in
    omega (arith, ap length rest, rest_short c.args.bytes.now)

pub returns-in_err-print-clause-err : goal.returns-in_err-print-clause-err
returns-in_err-print-clause-err g c =
    at_exit (λ (e : TaskError). FailsBlocks e c.args.printer.now (g.O.Sink.written c.args.out.now) (g.O.Sink.written c.print.new.out) (blocks_of c.args.bytes.now))
    c.from_residual.result _ c.from_residual.ensures
    (taking_fails _ _ _ _ _ _ _ _ _ c.in-Some.block c.next.invariant.taking c.in-Some.ensures.blocks c.in_err-print.ensures.err)

pub returns-clause-prints : goal.returns-clause-prints
returns-clause-prints g c = taking_end _ _ _ _ _ _ _ c.next.invariant.taking c.in_default.ensures.blocks.0 (c.rest.ensures ∙ c.in_default.ensures.rest)
