use Rattle.std.proofs.Common.{arith}
use Rattle.std.proofs.lemmas.List.{take_rest}
use Rattle.pitch_model.proofs.Results.{at_exit}
use Rattle.pcap_feed.specs.Capture.{front_of}
use Rattle.pcap_feed.specs.Stream.{items_within}
use Rattle.stream_print.specs.Carriers.{blocks_in}
use Rattle.stream_print.specs.Printing.{FailsBlocks}
use Rattle.stream_print.specs.declared.failure.TaskError.{TaskError}
use Rattle.stream_print.proofs.Packeting.{passing_start, passing_more, passing_end, passing_fails, packet_within}
use Rattle.stream_print.proofs.packets.print_packets.Goals as goal

pub packet-init : goal.packet-init
packet-init g c = record { passing = passing_start c.args.order c.args.port c.args.printer.now c.args.counts.now c.args.bytes.now (g.O.Sink.written c.args.out.now); later = omega arith }

pub returns-in_err-outcome-in-Ok-clause-err : goal.returns-in_err-outcome-in-Ok-clause-err
returns-in_err-outcome-in-Ok-clause-err g c =
    at_exit (λ (e : TaskError). FailsBlocks e c.args.printer.now (g.O.Sink.written c.args.out.now) (g.O.Sink.written c.print_packet.new.out) (blocks_in c.args.port (items_within (front_of c.args.order) c.args.bytes.now)))
    c.from_residual.result _ c.from_residual.ensures
    (passing_fails c.args.order c.args.port c.args.printer.now c.packet.printer _ c.args.counts.now c.packet.counts c.args.bytes.now _ c.packet.at (g.O.Sink.written c.args.out.now) (g.O.Sink.written c.packet.out) (g.O.Sink.written c.print_packet.new.out)
    c.in-Ok.packet c.packet.invariant.passing (take_rest c.args.bytes.now c.packet.at) c.in-Ok.ensures.found c.in_err-outcome-in-Ok.ensures.err)

pub returns-in-Err-clause-prints : goal.returns-in-Err-clause-prints
returns-in-Err-clause-prints g c =
    passing_end c.args.order c.args.port c.args.printer.now c.packet.printer c.args.counts.now c.packet.counts c.args.bytes.now _ c.packet.at (g.O.Sink.written c.args.out.now) (g.O.Sink.written c.packet.out)
    c.in-Err.field-0 c.packet.invariant.passing (take_rest c.args.bytes.now c.packet.at) c.in-Err.ensures.fault

pub print_packet-requires : goal.print_packet-requires
print_packet-requires g c =
    let few = c.requires.few in
    let so_far = c.packet.invariant.passing.few in
    let within = packet_within c.args.order c.args.bytes.now _ c.packet.at c.in-Ok.packet (take_rest c.args.bytes.now c.packet.at) c.in-Ok.ensures.found c.packet.invariant.passing.within in
    record { few = omega (arith, few, so_far, within) }

pub packet-smaller : goal.packet-smaller
packet-smaller g c =
    let within = packet_within c.args.order c.args.bytes.now _ c.packet.at c.in-Ok.packet (take_rest c.args.bytes.now c.packet.at) c.in-Ok.ensures.found c.packet.invariant.passing.within in
    let size = c.size-at.ensures in
    omega (arith, within, size)

pub packet-preserved : goal.packet-preserved
packet-preserved g c =
    let later = c.packet.invariant.later in
    let cause = c.print_packet.ensures.cause.later in
    record {
      passing = passing_more c.args.order c.args.port c.args.printer.now c.packet.printer c.print_packet.new.printer c.args.counts.now c.packet.counts c.counts_with.result c.args.bytes.now _ c.packet.at c.size-at.result
          (g.O.Sink.written c.args.out.now) (g.O.Sink.written c.packet.out) (g.O.Sink.written c.print_packet.new.out) c.in-Ok.packet c.in_ok-outcome-in-Ok.outcome
          c.packet.invariant.passing (take_rest c.args.bytes.now c.packet.at) c.in-Ok.ensures.found c.size-at.ensures c.in_ok-outcome-in-Ok.ensures.prints c.counts_with.ensures;
      later = omega arith;
    }
