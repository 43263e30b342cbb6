use Rattle.std.proofs.Common.{ap, sym, subst, List, ℕ, ◌+◌, ◌∙◌}
use Rattle.unit_packets.specs.Judging.{judge}
use Rattle.unit_packets.specs.Held.{StandsFirst}
use Rattle.unit_packets.specs.declared.header.Header.{Header}
use Rattle.run_audit.proofs.Inputs.{logs_bad, logs_end, logs_more, logs_none, logs_refused, slice_is}
use Rattle.run_audit.proofs.input.log_all.Goals as goal

pub places-init : goal.places-init
places-init c = logs_none c.args.log.now c.make-audit.result c.make-audit.ensures

pub returns-in-Err-log_one-clause-refused : goal.returns-in-Err-log_one-clause-refused
returns-in-Err-log_one-clause-refused c =
    logs_refused c.args.log.now c.places.audit c.log_one.new.audit c.places.at c.in-Ok.block c.in-Err-log_one.error c.places.invariant (subst (λ (l : List ℕ). StandsFirst l c.in-Ok.block) (slice_is c.args.log.now c.places.at) c.in-Ok.ensures.found) c.in-Err-log_one.ensures

pub places-preserved : goal.places-preserved
places-preserved c =
    logs_more c.args.log.now c.places.audit c.log_one.new.audit c.places.at (c.places.at + c.header.result.length) c.in-Ok.block c.places.invariant (subst (λ (l : List ℕ). StandsFirst l c.in-Ok.block) (slice_is c.args.log.now c.places.at) c.in-Ok.ensures.found) c.in_default.ensures.0 c.in_default.ensures.1
    (ap (λ (h : Header). c.places.at + h.length) c.header.ensures)

pub returns-in-Err-clause-refused : goal.returns-in-Err-clause-refused
returns-in-Err-clause-refused c = logs_bad c.args.log.now c.places.audit c.places.at c.in-Err.error c.places.invariant c.places-test.true (ap judge (sym (slice_is c.args.log.now c.places.at)) ∙ c.in-Err.ensures.fault)

pub returns-clause-all : goal.returns-clause-all
returns-clause-all c = logs_end c.args.log.now c.places.audit c.places.at c.places.invariant c.places-test.false
