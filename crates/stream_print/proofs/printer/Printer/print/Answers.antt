use Rattle.std.proofs.Common.{[], ◌∷◌, refl}
use Rattle.std.proofs.lemmas.Result.{IfErr-weaker}
use Rattle.pitch_model.proofs.Results.{on_ok_map}
use Rattle.stream_print.specs.Printing.{PrintsBlocks, FailsBlocks}
use Rattle.stream_print.specs.declared.failure.TaskError.{TaskError}
use Rattle.stream_print.proofs.Streaming.{prints_one, fails_one}
use Rattle.stream_print.proofs.printer.Printer.print.Goals as goal

pub returns-clause-prints : goal.returns-clause-prints
returns-clause-prints g c =
    let w = g.O.Sink.written c.args.out.now in
    let v = g.O.Sink.written c.print_block.new.out in
    on_ok_map _ (PrintsBlocks c.args.self.now _ w v (c.args.block.now ∷ [])) c.print_block.result c.print_block.ensures.prints
    (λ one. prints_one c.args.self.now _ _ w v c.args.block.now refl refl one)

pub returns-clause-err : goal.returns-clause-err
returns-clause-err g c =
    let w = g.O.Sink.written c.args.out.now in
    let v = g.O.Sink.written c.print_block.new.out in
    IfErr-weaker c.print_block.result _ (λ (e : TaskError). FailsBlocks e c.args.self.now w v (c.args.block.now ∷ []))
    (λ e fails. fails_one c.args.self.now e _ w v c.args.block.now refl fails) c.print_block.ensures.err
