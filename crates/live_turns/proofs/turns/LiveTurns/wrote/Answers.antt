use Rattle.std.proofs.Common.{refl}
use Rattle.live_net.specs.LiveCalls.{LiveCall, Put}
use Rattle.live_net.specs.declared.live.PeerPut.TheVariants as put
use Rattle.live_turns.specs.declared.place.Place.TheVariants as at
use Rattle.live_turns.proofs.Placing.{has_peer}
use Rattle.live_turns.proofs.Standing.{goes_on}
use Rattle.live_turns.proofs.turns.LiveTurns.wrote.Goals as goal

pub returns : goal.returns
returns c = λ n piece w e e' run st here.
    let call : LiveCall = Put c.args.peer piece (put.Wrote n) in
    let has = has_peer w run c.args.self.now.place call c.args.peer refl st.place_is here in
    goes_on w e e' c.args.self.now run call st (λ k r x. record { link_is = x.link_is; pause_is = x.pause_is }) (at.Put c.args.peer) c.args.self.now.more (has.within, λ other behind. refl) refl st.more_is
