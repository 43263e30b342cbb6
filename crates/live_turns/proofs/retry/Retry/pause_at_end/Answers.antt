use Rattle.std.proofs.Common.{arith}
use Rattle.live_turns.proofs.Retrying.{pause_short, pause_down}
use Rattle.live_turns.proofs.retry.Retry.pause_at_end.Goals as goal

pub returns-in-Up-2 : goal.returns-in-Up-2
returns-in-Up-2 c = λ peer run knows.
    let long = c.if-seconds-self.false in
    pause_short peer run c.args.self knows c.in-Up.seconds c.longer.result c.in-Up.is (omega (arith, long)) c.longer.ensures

pub returns-in-Down : goal.returns-in-Down
returns-in-Down c = λ peer run knows. pause_down peer run c.args.self knows c.in-Down.field-0 c.longer-in-Down.result c.in-Down.is c.longer-in-Down.ensures
