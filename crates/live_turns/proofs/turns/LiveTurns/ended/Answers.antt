use Rattle.std.proofs.Common.{◌∷◌, Some, sym, ap, ◌∙◌, arith}
use Rattle.live_turns.proofs.Placing.{has_peer, ended_peer, is_over}
use Rattle.live_turns.proofs.Standing.{goes_on_kept, ways_kept}
use Rattle.live_turns.proofs.turns.LiveTurns.ended.Goals as goal

pub returns : goal.returns
returns c = λ call is w e e' run st here.
    let peer = c.args.peer in
    let called = ended_peer peer call is in
    let has = has_peer w run c.args.self.now.place call peer called st.place_is here in
    let within = has.within in
    let many = st.ways.peers_are in
    let over = is_over w e' run peer call is in
    let knows = c.ended.ensures peer run call (st.each peer c.retry.result (c.retry.ensures (omega (arith, within, many)))) is in
    let ways = ways_kept w e e' c.args.self.now run call st c.keep.new.self peer c.ended.result c.keep.ensures.kept c.keep.ensures.same called over.no_second knows in
    goes_on_kept w e e' c.args.self.now run call st c.keep.new.self peer c.ended.result c.keep.ensures.kept c.keep.ensures.same called over.no_second knows c.after_peer-self.result
    (c.after_peer-self.ensures.place w (call ∷ run) ways over.none) (over.due_is ∙ ap Some (sym (c.after_peer-self.ensures.due w e' (call ∷ run) ways))) over.more_is
