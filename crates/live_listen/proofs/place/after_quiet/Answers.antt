use Rattle.std.proofs.Common.{refl, [], ◌∷◌}
use Rattle.live_net.specs.LineCalls.{Receive}
use Rattle.live_net.specs.declared.net.Received.TheVariants as received
use Rattle.live_listen.proofs.place.after_quiet.Goals as goal

pub returns : goal.returns
returns c = record { next = λ run room next. c.after_line.ensures.next (Receive c.args.line room [] received.Quiet ∷ run) refl refl next.more_is }
