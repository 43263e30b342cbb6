use Rattle.std.proofs.Common.{◌≡◌, take}
use Rattle.scripted_nets.proofs.script.Script.make.Given as goal

-- the steps so far were kept
abbrev pub invariant-steps : goal.invariant-steps
invariant-steps l = l.kept.items ≡ take l.step-index l.steps
