use Rattle.unit_threads.proofs.unit.open_unit.Given as goal

-- the pair that was just opened
abbrev pub ghosts-run_unit : goal.ghosts-run_unit
ghosts-run_unit g a = record { book = a.opened.seen.book; kept = a.opened.kept }
