use Rattle.std.proofs.Common.{◌≡◌, ◌∷◌, Some, length, refl, sym, ap, ◌∙◌}
use Rattle.live_net.specs.LiveCalls.{LiveCall, Wait}
use Rattle.live_net.specs.declared.live.WaitEnd.TheVariants as wait_end
use Rattle.live_turns.specs.declared.turns.LiveTurns.{LiveTurns}
use Rattle.live_turns.proofs.turns.LiveTurns.second.Goals as goal

pub returns : goal.returns
returns c = λ more w e e' run st here.
    let call : LiveCall = Wait more wait_end.Second in
    let same = c.pass_second.ensures.same in
    let lines : c.pass_second.new.self.lines ≡ w.lines = ap (λ (x : LiveTurns). x.lines) same ∙ st.ways.lines_are in
    let peers : length c.pass_second.new.self.retries.items ≡ w.peers = c.pass_second.ensures.many ∙ st.ways.peers_are in
    record {
      ways = record { lines_are = lines; peers_are = peers; few = st.ways.few };
      each = λ peer r has. c.pass_second.ensures.each run more st.each peer r has;
      place_is = c.from_line-self.ensures.place w (call ∷ run) (record { lines_are = lines; peers_are = peers; few = st.ways.few }) refl (λ peer. refl);
      due_is = ap Some (sym (c.from_line-self.ensures.due w e' (call ∷ run) (record { lines_are = lines; peers_are = peers; few = st.ways.few })));
      more_is = refl;
    }
