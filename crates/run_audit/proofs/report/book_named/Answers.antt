use Rattle.run_audit.proofs.Reporting.{found}
use Rattle.run_audit.specs.layers.Finding.{messages_of}
use Rattle.run_audit.proofs.report.book_named.Goals as goal

pub returns-in-Some-clause-finds : goal.returns-in-Some-clause-finds
returns-in-Some-clause-finds c = found (messages_of c.args.logs.now) c.requires.few c.args.line.now c.in-Some.unit c.in-Some.n c.named_by.result c.book_at.result c.named_by.ensures c.in-Some.is c.book_at.ensures.book
