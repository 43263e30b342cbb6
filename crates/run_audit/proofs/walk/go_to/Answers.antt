use Rattle.std.proofs.Common.{rules, refl, sym, ◌∙◌, subst, arith, ◌≤◌}
use Rattle.run_audit.specs.layers.Walking.{IsAt}
use Rattle.run_audit.proofs.Walking.{at_more, not_done}
use Rattle.run_audit.proofs.walk.go_to.Goals as goal
use Rattle.run_audit.proofs.walk.go_to.Goals.{then-n-walk, else-n-walk}

pub steps-init : goal.steps-init
steps-init c = elim c.if-n-walk.branch [
  | then-n-walk w ↦ record {
    at = subst (IsAt c.args.log.now.items) (sym (w.walk-is ∙ w.replace.ensures.after)) w.at_start.ensures.at;
    most = subst (λ walk. walk.n ≤ c.args.n) (sym (w.walk-is ∙ w.replace.ensures.after)) (let zero = w.at_start.ensures.start in omega arith);
  }
  | else-n-walk w ↦ record {
    at = subst (IsAt c.args.log.now.items) (sym w.walk-is) c.requires.at;
    most = subst (λ walk. walk.n ≤ c.args.n) (sym w.walk-is) (omega arith);
  }
]

pub returns-in_default-clause-there : goal.returns-in_default-clause-there
returns-in_default-clause-there c = absurd (not_done c.args.log.now.items c.steps.walk c.args.n c.steps.invariant.at (search rules) (search rules) c.requires.within)

pub steps-preserved : goal.steps-preserved
steps-preserved c = record {
  at = at_more c.args.log.now.items c.steps.walk _ c.in-Some.raw.now c.steps.invariant.at (search rules) c.in_ok-apply_bytes.ensures.ok refl;
  most = search rules;
}
