use Rattle.std.proofs.Common.{ℕ, length, sym, subst, Option}
use Rattle.pcap_feed.specs.Datagrams.{span_bytes}
use Rattle.stream_print.specs.Printing.{PrintsDatagrams}
use Rattle.stream_print.specs.declared.counts.PacketUse.TheVariants.{PassedOver}
use Rattle.stream_print.proofs.Packeting.{none_printed}
use Rattle.stream_print.proofs.packets.print_datagram.Goals as goal

pub returns-in-None-clause-prints : goal.returns-in-None-clause-prints
returns-in-None-clause-prints g c =
    subst (λ (o : Option (ℕ × ℕ)). PrintsDatagrams c.args.printer.now c.args.printer.now (length c.args.frame.now) (span_bytes c.args.frame.now o) PassedOver (g.O.Sink.written c.args.out.now) (g.O.Sink.written c.args.out.now))
    (sym c.in-None.is) (none_printed c.args.printer.now (length c.args.frame.now) (g.O.Sink.written c.args.out.now))
