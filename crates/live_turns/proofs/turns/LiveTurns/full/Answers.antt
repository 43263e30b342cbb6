use Rattle.std.proofs.Common.{◌∷◌, Some, refl, sym, ap}
use Rattle.live_net.specs.LiveCalls.{LiveCall, Put}
use Rattle.live_net.specs.declared.live.PeerPut.TheVariants as put
use Rattle.live_turns.proofs.Standing.{goes_on}
use Rattle.live_turns.proofs.turns.LiveTurns.full.Goals as goal

pub returns : goal.returns
returns c = λ piece w e e' run st here.
    let call : LiveCall = Put c.args.peer piece put.Full in
    goes_on w e e' c.args.self.now run call st (λ k r x. record { link_is = x.link_is; pause_is = x.pause_is }) c.after_peer-self.result c.args.self.now.more
    (c.after_peer-self.ensures.place w (call ∷ run) st.ways (λ other behind. refl)) (ap Some (sym (c.after_peer-self.ensures.due w e' (call ∷ run) st.ways))) st.more_is
