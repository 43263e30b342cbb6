use Rattle.live_turns.proofs.turns.LiveTurns.from_line.Goals as goal

pub returns-else-line-self-clause-place : goal.returns-else-line-self-clause-place
returns-else-line-self-clause-place c = λ w run ways none gave. c.from_peer.ensures.place w run ways (gave 0) (λ other behind. gave other)
