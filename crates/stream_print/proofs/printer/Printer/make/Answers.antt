use Rattle.std.proofs.Common.{refl}
use Rattle.stream_print.proofs.printer.Printer.make.Goals as goal

pub returns-clause-known : goal.returns-clause-known
returns-clause-known c = record { number_is = refl; knows = c.in_ok-make_task.ensures.knows }
