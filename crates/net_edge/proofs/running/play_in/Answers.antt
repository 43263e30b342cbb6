use Rattle.net_edge.proofs.running.play_in.Goals as goal

pub returns : goal.returns
returns g c = record { ran = c.play.ensures.played; broke = c.play.ensures.broke; counts = c.play.ensures.faults; err = c.play.ensures.err }
