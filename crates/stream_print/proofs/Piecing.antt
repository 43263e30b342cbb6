-- A piece more of a stream, whatever carries its blocks.
use Rattle.std.proofs.Common.{ℕ, ◌++◌, List, length, ap, ◌∙◌, arith, Option, length-append, length-drop}
use Rattle.unit_packets.specs.Reading.{Reading}
use Rattle.unit_packets.specs.Pieces.{loaded}
use Rattle.stream_print.specs.Printing.{PrintsBare, PrintsLoaded, PrintsPiece}
use Rattle.stream_print.specs.declared.packets.PacketReader.{PacketReader}
use Rattle.stream_print.specs.declared.printer.Printer.{Printer}
use Rattle.stream_print.specs.declared.reader.StreamReader.TheVariants.{Blocks, Packets}
use Rattle.stream_print.proofs.Carriers.{with_piece, bare_more, packets_more}

pub bare_piece : (p p' : Printer) (r t : Reading) (piece : List ℕ) (w w' : Option (List ℕ)) → PrintsBare p p' (loaded r piece) t w w' → PrintsPiece p p' (Blocks r) (Blocks t) piece w w'
bare_piece p p' r t piece w w' bare =
    let few = bare.printed.few in
    let within = bare.printed.within in
    let size = ap (λ (q : Reading). length q.rest) bare.reader ∙ length-drop bare.behind (r.rest ++ piece) in
    record {
      prints = bare.printed.prints;
      read = λ carrier bytes read. bare_more carrier p p' r t bare.behind w w' bytes piece read bare.printed bare.reader;
      few = omega (arith, few, within, size, length-append r.rest piece);
    }

pub packets_piece : (p p' : Printer) (r t : PacketReader) (piece : List ℕ) (w w' : Option (List ℕ)) → PrintsLoaded p p' (with_piece r piece) t w w' → PrintsPiece p p' (Packets r) (Packets t) piece w w'
packets_piece p p' r t piece w w' all =
    let few = all.few in
    record {
      prints = all.prints;
      read = λ carrier bytes read. packets_more carrier p p' r t w w' bytes piece read all;
      few = omega (arith, few, length-append r.reader.rest piece);
    }
