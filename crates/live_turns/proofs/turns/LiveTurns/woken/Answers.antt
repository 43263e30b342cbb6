use Rattle.std.proofs.Common.{false, ◌∷◌, Some, refl, sym, ap}
use Rattle.live_net.specs.LiveCalls.{LiveCall, Wait}
use Rattle.live_net.specs.declared.live.WaitEnd.TheVariants as wait_end
use Rattle.live_turns.proofs.Standing.{goes_on}
use Rattle.live_turns.proofs.turns.LiveTurns.woken.Goals as goal

pub returns : goal.returns
returns c = λ more w e e' run st here.
    let call : LiveCall = Wait more wait_end.Ready in
    goes_on w e e' c.args.self.now run call st (λ k r x. record { link_is = x.link_is; pause_is = x.pause_is }) c.from_line-self.result false
    (c.from_line-self.ensures.place w (call ∷ run) (record { lines_are = st.ways.lines_are; peers_are = st.ways.peers_are; few = st.ways.few }) refl (λ peer. refl))
    (ap Some (sym (c.from_line-self.ensures.due w e' (call ∷ run) (record { lines_are = st.ways.lines_are; peers_are = st.ways.peers_are; few = st.ways.few })))) refl
