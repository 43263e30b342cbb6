use Rattle.std.proofs.Common.{length}
use Rattle.run_audit.specs.layers.Finding.{Reads, messages_of}
use Rattle.run_audit.specs.Report.{lines_of}
use Rattle.run_audit.specs.layers.Walking.{AreAt}
use Rattle.run_audit.proofs.report.report_on.Given as goal

abbrev pub invariant-parts : goal.invariant-parts
invariant-parts l = record {
  reads : Reads (messages_of l.logs) (lines_of l.fn.text) l.lines l.books l.number;
  at : AreAt l.logs l.walks.items;
}

abbrev pub decreases-parts : goal.decreases-parts
decreases-parts l = length l.lines
