use Rattle.std.proofs.Common.{◌≡◌, length}
use Rattle.line_sockets.proofs.lines.Lines.open.Given as goal

-- a socket stands for each port up to here
abbrev pub invariant-loop-port : goal.invariant-loop-port
invariant-loop-port g l = length l.sockets.items ≡ l.port-index
