use Rattle.shared_tests.proofs.servers.start_one.Given as goal

-- the pair that was just opened
abbrev pub ghosts-ask_one : goal.ghosts-ask_one
ghosts-ask_one g a = record { book = a.opened.seen.book; kept = a.opened.kept }
