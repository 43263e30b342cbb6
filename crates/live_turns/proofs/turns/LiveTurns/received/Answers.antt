use Rattle.std.proofs.Common.{◌≡◌, ◌<◌, ◌+◌, true, ◌∷◌, Some, refl, sym, ap, ◌∙◌, arith}
use Rattle.live_net.specs.LiveCalls.{LiveCall, Receive}
use Rattle.live_net.specs.declared.net.Received.TheVariants as received
use Rattle.live_turns.specs.Due.{datagrams_from}
use Rattle.live_turns.specs.declared.place.Place.TheVariants as at
use Rattle.live_turns.proofs.Placing.{has_line, datagram_more, next_line_gave_none, line_is_full, line_has_more, due_next_line, due_same_line}
use Rattle.live_turns.proofs.Standing.{goes_on}
use Rattle.live_turns.proofs.turns.LiveTurns.received.Goals as goal

pub returns-then-so_far : goal.returns-then-so_far
returns-then-so_far c = λ room n bytes w e e' run st here.
    let line = c.args.line in
    let call : LiveCall = Receive line room bytes (received.Got n) in
    let has = has_line w run c.args.self.now.place line room bytes (received.Got n) st.place_is here in
    let so = c.taken-so_far.ensures in
    let taken = has.taken_is in
    let below = c.if-so_far.true in
    let few : datagrams_from line run < 63 = omega arith in
    let more = datagram_more line room n bytes run in
    goes_on w e e' c.args.self.now run call st (λ k r x. record { link_is = x.link_is; pause_is = x.pause_is }) (at.Line line (c.taken-so_far.result + 1)) c.args.self.now.more
    (has.within, omega arith, omega arith) (due_same_line line room n bytes run w e' few) (st.more_is ∙ line_has_more line room n bytes run few)

pub returns-else-so_far : goal.returns-else-so_far
returns-else-so_far c = λ room n bytes w e e' run st here.
    let line = c.args.line in
    let call : LiveCall = Receive line room bytes (received.Got n) in
    let has = has_line w run c.args.self.now.place line room bytes (received.Got n) st.place_is here in
    let so = c.taken-so_far.ensures in
    let taken = has.taken_is in
    let some = has.few in
    let above = c.if-so_far.false in
    let full : datagrams_from line run ≡ 63 = omega arith in
    goes_on w e e' c.args.self.now run call st (λ k r x. record { link_is = x.link_is; pause_is = x.pause_is }) c.after_line-self.result true
    (c.after_line-self.ensures.place w (call ∷ run) (record { lines_are = st.ways.lines_are; peers_are = st.ways.peers_are; few = st.ways.few }) (next_line_gave_none line room n bytes run) (λ peer. refl))
    (due_next_line line room n bytes run w e' full ∙ ap Some (sym (c.after_line-self.ensures.due w e' (call ∷ run) (record { lines_are = st.ways.lines_are; peers_are = st.ways.peers_are; few = st.ways.few }))))
    (line_is_full line room n bytes run full)
