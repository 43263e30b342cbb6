use Rattle.std.specs.List.{All}
use Rattle.run_audit.specs.layers.Backward.{IsAgreed}
use Rattle.run_audit.specs.layers.Finding.{messages_of}
use Rattle.run_audit.specs.Report.{lines_of}
use Rattle.run_audit.specs.layers.Walking.{AreAt}
use Rattle.run_audit.proofs.backward.agreed_backward.Given as goal

abbrev pub invariant-books : goal.invariant-books
invariant-books l = record {
  at : AreAt l.logs l.walks.items;
  agreed : All (IsAgreed (messages_of l.logs) (lines_of l.text)) l.agreed.items;
}
