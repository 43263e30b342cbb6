use Rattle.std.proofs.Common.{[], sym, subst}
use Rattle.stream_print.specs.Readers.{HasRead}
use Rattle.stream_print.specs.declared.carrier.Carrier.{Carrier}
use Rattle.stream_print.specs.declared.reader.StreamReader.TheVariants.{Blocks, Packets}
use Rattle.stream_print.proofs.Carriers.{behind_none, behind_no_packets}
use Rattle.stream_print.proofs.reader.StreamReader.make.Goals as goal

pub returns-in-Bare-clause-read : goal.returns-in-Bare-clause-read
returns-in-Bare-clause-read c = subst (λ (k : Carrier). HasRead k (Blocks c.make.result) []) (sym c.in-Bare.is) (behind_none c.make.result c.make.ensures)

pub returns-in-Capture-clause-read : goal.returns-in-Capture-clause-read
returns-in-Capture-clause-read c =
    subst (λ (k : Carrier). HasRead k (Packets c.make-in-Capture.result) []) (sym c.in-Capture.is) (behind_no_packets c.make-in-Capture.result c.in-Capture.port c.make-in-Capture.ensures)
