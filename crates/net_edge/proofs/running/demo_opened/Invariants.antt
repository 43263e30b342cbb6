use Rattle.net_edge.proofs.running.demo_opened.Given as goal

-- the pair that was just opened
abbrev pub ghosts-demo_of : goal.ghosts-demo_of
ghosts-demo_of g a = record { book = a.opened.seen.book; kept = a.opened.kept }
