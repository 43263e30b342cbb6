use Rattle.std.proofs.Common.{[], ◌∷◌, length, inl, inr, arith, sym, ◌∙◌}
use Rattle.std.specs.List.{flat_map}
use Rattle.std.proofs.lemmas.Bool.{eqb-true}
use Rattle.pitch_model.proofs.Results.{at_exit}
use Rattle.unit_packets.specs.Cutting.{blocks_of}
use Rattle.stream_print.specs.Printing.{FailsBlocks}
use Rattle.stream_print.specs.declared.failure.TaskError.{TaskError}
use Rattle.stream_print.proofs.Packeting.{datagram_fails, faulty_printed, sound_printed}
use Rattle.stream_print.proofs.packets.print_payload.Goals as goal

pub returns-in_err-whole-clause-err : goal.returns-in_err-whole-clause-err
returns-in_err-whole-clause-err g c =
    at_exit (λ (e : TaskError). FailsBlocks e c.args.printer.now (g.O.Sink.written c.args.out.now) (g.O.Sink.written c.print_blocks.new.out) (flat_map blocks_of (c.args.datagram.now ∷ []))) c.from_residual.result _ c.from_residual.ensures
    (datagram_fails c.args.printer.now _ c.args.datagram.now (g.O.Sink.written c.args.out.now) (g.O.Sink.written c.print_blocks.new.out) c.in_err-whole.ensures.err)

pub returns-then-is_empty-clause-prints : goal.returns-then-is_empty-clause-prints
returns-then-is_empty-clause-prints g c =
    faulty_printed c.args.printer.now c.print_blocks.new.printer c.args.datagram.now c.in_ok-whole.whole (length c.args.datagram.now) (g.O.Sink.written c.args.out.now) (g.O.Sink.written c.print_blocks.new.out)
    c.in_ok-whole.ensures.prints (omega arith) (inl (eqb-true (length c.args.datagram.now) 0 (sym c.is_empty.ensures ∙ c.if-is_empty.true)))

pub returns-then-whole-datagram-clause-prints : goal.returns-then-whole-datagram-clause-prints
returns-then-whole-datagram-clause-prints g c =
    let more = c.if-whole-datagram.true in
    faulty_printed c.args.printer.now c.print_blocks.new.printer c.args.datagram.now c.in_ok-whole.whole (length c.args.datagram.now) (g.O.Sink.written c.args.out.now) (g.O.Sink.written c.print_blocks.new.out)
    c.in_ok-whole.ensures.prints (omega arith) (inr more)

pub returns-clause-prints : goal.returns-clause-prints
returns-clause-prints g c =
    let all = c.if-whole-datagram.false in
    sound_printed c.args.printer.now c.print_blocks.new.printer c.args.datagram.now c.in_ok-whole.whole (length c.args.datagram.now) (g.O.Sink.written c.args.out.now) (g.O.Sink.written c.print_blocks.new.out)
    c.in_ok-whole.ensures.prints (omega arith) (sym c.is_empty.ensures ∙ c.if-is_empty.false) all
