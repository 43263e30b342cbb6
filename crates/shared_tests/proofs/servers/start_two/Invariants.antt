use Rattle.shared_tests.proofs.servers.start_two.Given as goal

-- the pair that was just opened
abbrev pub ghosts-ask_two : goal.ghosts-ask_two
ghosts-ask_two g a = record { book = a.opened.seen.book; kept = a.opened.kept }
