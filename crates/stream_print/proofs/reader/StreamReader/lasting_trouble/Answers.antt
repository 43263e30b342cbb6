use Rattle.std.proofs.Common.{◌∙◌, subst}
use Rattle.stream_print.specs.Readers.{HasRead}
use Rattle.stream_print.specs.declared.reader.StreamReader.{StreamReader}
use Rattle.stream_print.proofs.Carriers.{bare_lasting, packets_lasting}
use Rattle.stream_print.proofs.reader.StreamReader.lasting_trouble.Goals as goal

pub returns-in-Blocks : goal.returns-in-Blocks
returns-in-Blocks c = λ carrier bytes small read.
    c.block_trouble.ensures ∙ bare_lasting carrier c.in-Blocks.reader bytes small (subst (λ (r : StreamReader). HasRead carrier r bytes) c.in-Blocks.is read)

pub returns-in-Packets : goal.returns-in-Packets
returns-in-Packets c = λ carrier bytes small read.
    c.capture_trouble.ensures ∙ packets_lasting carrier c.in-Packets.packets bytes (subst (λ (r : StreamReader). HasRead carrier r bytes) c.in-Packets.is read)
