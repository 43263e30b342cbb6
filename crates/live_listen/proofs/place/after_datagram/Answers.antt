use Rattle.std.proofs.Common.{◌≡◌, ◌∷◌, arith}
use Rattle.live_net.specs.LineCalls.{Receive}
use Rattle.live_net.specs.declared.net.Received.TheVariants as received
use Rattle.live_listen.specs.Due.{taken_from}
use Rattle.live_listen.proofs.Placing.{taken_at, turn_over, none_taken, more_left}
use Rattle.live_listen.proofs.place.after_datagram.Goals as goal

pub returns-then-place : goal.returns-then-place
returns-then-place c = record {
  next = λ run room n bytes next.
      let full = c.if-place.true in
      let within = next.within in
      let taken = taken_at c.args.place.taken c.args.line c.args.place.line run c.requires next.taken_is in
      let last : taken_from c.args.line run ≡ 63 = omega (arith, full, within, taken) in
      c.after_line.ensures.next (Receive c.args.line room bytes (received.Got n) ∷ run) (turn_over c.args.line room n bytes run c.args.lines last) (none_taken c.args.line room n bytes run) (more_left c.args.line room n bytes run last);
}
