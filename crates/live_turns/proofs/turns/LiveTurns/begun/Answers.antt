use Rattle.std.proofs.Common.{refl, arith}
use Rattle.std.proofs.lemmas.Bool.{eq-eqb}
use Rattle.live_net.specs.LiveCalls.{LiveCall, Open}
use Rattle.live_net.specs.declared.live.PeerOpened.TheVariants as opened
use Rattle.live_turns.specs.declared.place.Place.TheVariants as at
use Rattle.live_turns.proofs.Placing.{has_peer}
use Rattle.live_turns.proofs.Standing.{goes_on_kept}
use Rattle.live_turns.proofs.turns.LiveTurns.begun.Goals as goal

pub returns : goal.returns
returns c = λ w e e' run st here.
    let peer = c.args.peer in
    let call : LiveCall = Open peer opened.Begun in
    let has = has_peer w run c.args.self.now.place call peer refl st.place_is here in
    let within = has.within in
    let many = st.ways.peers_are in
    let knows = c.begun.ensures peer run call (st.each peer c.retry.result (c.retry.ensures (omega (arith, within, many)))) (eq-eqb peer peer refl) in
    goes_on_kept w e e' c.args.self.now run call st c.keep.new.self peer c.begun.result c.keep.ensures.kept c.keep.ensures.same refl refl knows (at.Put peer)
    (within, λ other behind. refl) refl refl
