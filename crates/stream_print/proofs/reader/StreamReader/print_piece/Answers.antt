use Rattle.std.proofs.Common.{sym, ap, subst, arith}
use Rattle.pitch_model.proofs.Results.{on_ok_map}
use Rattle.stream_print.specs.Printing.{PrintsPiece, FailsBlocks}
use Rattle.stream_print.specs.Readers.{rest_size, blocks_with}
use Rattle.stream_print.specs.declared.reader.StreamReader.{StreamReader}
use Rattle.stream_print.specs.declared.reader.StreamReader.TheVariants.{Blocks, Packets}
use Rattle.std.proofs.lemmas.Result.{IfErr-weaker}
use Rattle.stream_print.specs.declared.failure.TaskError.{TaskError}
use Rattle.stream_print.proofs.Piecing.{bare_piece, packets_piece}
use Rattle.stream_print.proofs.reader.StreamReader.print_piece.Goals as goal

pub print_bare-requires : goal.print_bare-requires
print_bare-requires g c =
    let few = c.requires.few in
    record { few = omega (arith, few, ap rest_size c.in-Blocks.is) }

pub print_piece-requires : goal.print_piece-requires
print_piece-requires g c =
    let few = c.requires.few in
    record { few = omega (arith, few, ap rest_size c.in-Packets.is) }

pub returns-in-Blocks-clause-prints : goal.returns-in-Blocks-clause-prints
returns-in-Blocks-clause-prints g c =
    let w = g.O.Sink.written c.args.out.now in
    let w' = g.O.Sink.written c.print_bare.new.out in
    on_ok_map _ (PrintsPiece c.args.printer.now c.print_bare.new.printer c.args.self.now (Blocks c.print_bare.new.reader) c.args.piece.now w w') c.print_bare.result c.print_bare.ensures.prints
    (λ bare. subst (λ (r : StreamReader). PrintsPiece c.args.printer.now c.print_bare.new.printer r (Blocks c.print_bare.new.reader) c.args.piece.now w w') (sym c.in-Blocks.is)
    (bare_piece c.args.printer.now c.print_bare.new.printer c.in-Blocks.reader c.print_bare.new.reader c.args.piece.now w w' bare))

pub returns-in-Blocks-clause-err : goal.returns-in-Blocks-clause-err
returns-in-Blocks-clause-err g c =
    let w = g.O.Sink.written c.args.out.now in
    let w' = g.O.Sink.written c.print_bare.new.out in
    IfErr-weaker c.print_bare.result _ (λ (e : TaskError). FailsBlocks e c.args.printer.now w w' (blocks_with c.args.self.now c.args.piece.now))
    (λ e fails. subst (λ (r : StreamReader). FailsBlocks e c.args.printer.now w w' (blocks_with r c.args.piece.now)) (sym c.in-Blocks.is) fails) c.print_bare.ensures.err

pub returns-in-Packets-clause-prints : goal.returns-in-Packets-clause-prints
returns-in-Packets-clause-prints g c =
    let w = g.O.Sink.written c.args.out.now in
    let w' = g.O.Sink.written c.print_piece.new.out in
    on_ok_map _ (PrintsPiece c.args.printer.now c.print_piece.new.printer c.args.self.now (Packets c.print_piece.new.self) c.args.piece.now w w') c.print_piece.result c.print_piece.ensures.prints
    (λ all. subst (λ (r : StreamReader). PrintsPiece c.args.printer.now c.print_piece.new.printer r (Packets c.print_piece.new.self) c.args.piece.now w w') (sym c.in-Packets.is)
    (packets_piece c.args.printer.now c.print_piece.new.printer c.in-Packets.reader c.print_piece.new.self c.args.piece.now w w' all))

pub returns-in-Packets-clause-err : goal.returns-in-Packets-clause-err
returns-in-Packets-clause-err g c =
    let w = g.O.Sink.written c.args.out.now in
    let w' = g.O.Sink.written c.print_piece.new.out in
    IfErr-weaker c.print_piece.result _ (λ (e : TaskError). FailsBlocks e c.args.printer.now w w' (blocks_with c.args.self.now c.args.piece.now))
    (λ e fails. subst (λ (r : StreamReader). FailsBlocks e c.args.printer.now w w' (blocks_with r c.args.piece.now)) (sym c.in-Packets.is) fails) c.print_piece.ensures.err
