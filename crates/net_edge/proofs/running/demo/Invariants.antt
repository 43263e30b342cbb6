use Rattle.std.proofs.Common.{false, []}
use Rattle.net_edge.proofs.running.demo.Given as goal

-- a run that fixes no messages
abbrev pub ghosts-demo_opened : goal.ghosts-demo_opened
ghosts-demo_opened g a = record { fixed = false; plan = [] }
