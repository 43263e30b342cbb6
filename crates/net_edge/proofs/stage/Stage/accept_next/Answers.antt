use Rattle.unit_packets.specs.Packing.{bytes_in}
use Rattle.net_edge.specs.Due.{setting}
use Rattle.net_edge.proofs.Publishing.{no_datagrams, turn_datagrams}
use Rattle.net_edge.proofs.stage.Stage.accept_next.Goals as goal

pub returns-then-turn-count-clause-datagrams : goal.returns-then-turn-count-clause-datagrams
returns-then-turn-count-clause-datagrams g c = λ w h is. rw c.make-datagrams.ensures (no_datagrams (setting c.args.number c.args.count) c.args.turn c.if-turn-count.true, tt)

pub returns-clause-datagrams : goal.returns-clause-datagrams
returns-clause-datagrams g c = λ w h is.
    turn_datagrams (setting c.args.number c.args.count) c.requires.few c.args.turn c.requires.some c.if-turn-count.false w is (bytes_in c.publish.new.lines.items)
    (rw (c.plan_command.ensures, c.make-datagrams.ensures) at (c.in_ok-publish.ensures.lines w h))
