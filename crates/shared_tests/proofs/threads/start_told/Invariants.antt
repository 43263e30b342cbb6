use Rattle.shared_tests.proofs.threads.start_told.Given as goal

-- the pair that was just opened
abbrev pub ghosts-play_told : goal.ghosts-play_told
ghosts-play_told g a = record { book = a.opened.seen.book; kept = a.opened.kept }
