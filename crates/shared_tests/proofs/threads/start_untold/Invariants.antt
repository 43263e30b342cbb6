use Rattle.shared_tests.proofs.threads.start_untold.Given as goal

-- the pair that was just opened
abbrev pub ghosts-play_untold : goal.ghosts-play_untold
ghosts-play_untold g a = record { book = a.opened.seen.book; kept = a.opened.kept }
