use Rattle.std.proofs.Common.{[], ◌∷◌, Some, refl, sym, ap}
use Rattle.live_net.specs.LiveCalls.{LiveCall, Receive}
use Rattle.live_net.specs.declared.net.Received.TheVariants as received
use Rattle.live_turns.proofs.Standing.{goes_on}
use Rattle.live_turns.proofs.turns.LiveTurns.line_is_quiet.Goals as goal

pub returns : goal.returns
returns c = λ room w e e' run st here.
    let call : LiveCall = Receive c.args.line room [] received.Quiet in
    goes_on w e e' c.args.self.now run call st (λ k r x. record { link_is = x.link_is; pause_is = x.pause_is }) c.after_line-self.result c.args.self.now.more
    (c.after_line-self.ensures.place w (call ∷ run) st.ways refl (λ peer. refl)) (ap Some (sym (c.after_line-self.ensures.due w e' (call ∷ run) st.ways))) st.more_is
