use Rattle.std.proofs.Common.{◌∙◌, ℕ, List, refl, sym, ap, subst, length, arith}
use Rattle.pcap_feed.specs.Capture.{front_of, packets_from}
use Rattle.pcap_feed.specs.Feeding.{Capturing}
use Rattle.pcap_feed.specs.Stream.{items_within}
use Rattle.pitch_model.proofs.Results.{at_exit}
use Rattle.stream_print.specs.Carriers.{blocks_in}
use Rattle.stream_print.specs.Printing.{PrintsPackets, FailsBlocks}
use Rattle.stream_print.specs.declared.failure.TaskError.{TaskError}
use Rattle.stream_print.proofs.Packeting.{head_short, loaded_from, loaded_none, loaded_fails}
use Rattle.stream_print.proofs.packets.PacketReader.print_loaded.Goals as goal

pub print_packets-requires : goal.print_packets-requires
print_packets-requires g c =
    let few = c.requires.few in
    let short = head_short c.args.self.now.reader c.begin.new.self c.begin.ensures.behind in
    record { few = omega (arith, few, short, ap length c.rest-rest.ensures) }

pub returns-in_err-size-clause-err : goal.returns-in_err-size-clause-err
returns-in_err-size-clause-err g c =
    let self = c.args.self.now in
    let p = c.args.printer.now in
    let w = g.O.Sink.written c.args.out.now in
    let v = g.O.Sink.written c.print_packets.new.out in
    let error : TaskError = c.in_err-size.field-0.0 in
    at_exit (λ (e : TaskError). FailsBlocks e p w v (blocks_in self.port (packets_from self.reader.told self.reader.rest))) c.from_residual.result error c.from_residual.ensures
    (loaded_fails p error self (record self { reader = c.begin.new.self }) c.in-Ok.order w v
    (ap (λ (q : Capturing). record self { reader = q }) c.begin.ensures.behind) (sym c.begin.ensures.order ∙ c.in-Ok.is)
    (subst (λ (l : List ℕ). FailsBlocks error p w v (blocks_in self.port (items_within (front_of c.in-Ok.order) l))) c.rest-rest.ensures c.in_err-size.ensures.err))

pub returns-in-Err-clause-prints : goal.returns-in-Err-clause-prints
returns-in-Err-clause-prints g c =
    loaded_none c.args.printer.now c.args.self.now _ c.in-Err.field-0 (g.O.Sink.written c.args.out.now)
    (ap (λ (q : Capturing). record c.args.self.now { reader = q }) c.begin.ensures.behind) (sym c.begin.ensures.order ∙ c.in-Err.is)

pub returns-clause-prints : goal.returns-clause-prints
returns-clause-prints g c =
    let self = c.args.self.now in
    let p = c.args.printer.now in
    let p' = c.print_packets.new.printer in
    let counts' = c.print_packets.new.counts in
    let size = c.in_ok-size.size in
    let w = g.O.Sink.written c.args.out.now in
    let v = g.O.Sink.written c.print_packets.new.out in
    loaded_from p p' self (record self { reader = c.begin.new.self }) _ c.in-Ok.order size w v
    (ap (λ (q : Capturing). record self { reader = q }) c.begin.ensures.behind) (sym c.begin.ensures.order ∙ c.in-Ok.is)
    (subst (λ (l : List ℕ). PrintsPackets c.in-Ok.order self.port p p' self.counts counts' l size w v) c.rest-rest.ensures c.in_ok-size.ensures.prints) c.pass.ensures refl
