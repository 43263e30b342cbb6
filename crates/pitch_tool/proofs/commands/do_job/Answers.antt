use Rattle.std.proofs.Common.{subst}
use Rattle.pitch_words.specs.layers.Commands.{IsInRange}
use Rattle.pitch_tool.proofs.Carriers.{suits}
use Rattle.pitch_tool.proofs.commands.do_job.Goals as goal

pub print_stream-requires : goal.print_stream-requires
print_stream-requires g c = record { suits = suits c.in-Stream.carried c.in-Stream.form c.carrier_of.result c.printed_of.result c.carrier_of.ensures c.printed_of.ensures (subst IsInRange c.in-Stream.is c.requires).0 }
