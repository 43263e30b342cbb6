use Rattle.run_audit.proofs.Inputs.{cut_log, cut_short, input_audited, input_refused}
use Rattle.run_audit.proofs.input.audit_input.Goals as goal

pub returns-then-bytes-lt8-clause-refused : goal.returns-then-bytes-lt8-clause-refused
returns-then-bytes-lt8-clause-refused c = cut_short c.args.bytes.now c.if-bytes-lt8.true

pub returns-then-has-needs-clause-refused : goal.returns-then-has-needs-clause-refused
returns-then-has-needs-clause-refused c = cut_log c.args.bytes.now c.split_at.result.1.now c.get_u64-needs.result c.if-bytes-lt8.false c.split_at.ensures.back c.get_u64-needs.ensures c.if-has-needs.true

pub returns-in-Ok-clause-audits : goal.returns-in-Ok-clause-audits
returns-in-Ok-clause-audits c =
    input_audited c.args.bytes.now c.split_at.result.1.now c.split_at-2.result.0.now c.split_at-2.result.1.now c.get_u64-needs.result c.in-Ok.audit c.report.result c.if-bytes-lt8.false c.split_at.ensures.back c.get_u64-needs.ensures c.if-has-needs.false
    c.split_at-2.ensures.front c.split_at-2.ensures.back c.in-Ok.ensures.all c.report.ensures.verdict

pub returns-in-Err-clause-refused : goal.returns-in-Err-clause-refused
returns-in-Err-clause-refused c =
    input_refused c.args.bytes.now c.split_at.result.1.now c.split_at-2.result.0.now c.get_u64-needs.result c.in-Err.error c.if-bytes-lt8.false c.split_at.ensures.back c.get_u64-needs.ensures c.if-has-needs.false
    c.split_at-2.ensures.front c.in-Err.ensures.refused
