use Rattle.std.proofs.Common.{List, ◌<◌, length, subst, sym}
use Rattle.pitch_messages.specs.Room.{Roomy}
use Rattle.pitch_model.specs.History.{Raw}
use Rattle.run_audit.specs.layers.Finding.{messages_of}
use Rattle.run_audit.proofs.Logging.{few_all}
use Rattle.run_audit.proofs.audit.Audit.report.Goals as goal

pub report_on-requires-clause-few : goal.report_on-requires-clause-few
report_on-requires-clause-few c unit =
    subst (λ (logs : List (Roomy Raw)). length (messages_of logs unit) < 4294967296) (sym c.as_slice.ensures.value) (few_all c.self.inside.logs.items unit c.self.invariant)
