use Rattle.net_edge.proofs.Runs.{play_call}
use Rattle.net_edge.proofs.Breaking.{breaks_by}
use Rattle.pitch_io.specs.Nets.{Send}
use Rattle.pitch_io.specs.declared.net.NetDone.TheVariants.{Failed}
use Rattle.net_edge.proofs.putting.send.Goals as goal

pub returns-in-Done-clause-sent : goal.returns-in-Done-clause-sent
returns-in-Done-clause-sent g c = λ s base now plays piece. play_call s base _ _ now _ c.in-Done.ensures.calls (λ f. f) piece plays

pub returns-in-Failed-clause-broke : goal.returns-in-Failed-clause-broke
returns-in-Failed-clause-broke g c = λ s base now plays piece. breaks_by s base _ _ now (Send c.args.line c.args.datagram.now Failed) c.in-Failed.ensures.calls tt piece plays
