-- What the turns answer is due.
use Rattle.std.proofs.Common.{◌≡◌, ◌<◌, ◌≤◌, ℕ, ◌+◌, true, false, List, length, slice_get, sym, ap, ◌∙◌, subst, refl, arith, None, Some}
use Rattle.live_net.specs.LiveCalls.{LiveCall}
use Rattle.live_turns.specs.Due.{Ways, Ends, due, IsMade, from_peer, in_turn, pieces_from}
use Rattle.live_turns.specs.Retry.{stands, may_begin}
use Rattle.live_turns.specs.Turning.{Answers, IsAt, IsBehind, IsFrom, IsPlace, Knows, NoneBehind, TurnsStand, due_at}
use Rattle.live_turns.specs.declared.due.Due.{Due}
use Rattle.live_turns.specs.declared.due.Due.TheVariants as to
use Rattle.live_turns.specs.declared.place.Place.{Place}
use Rattle.live_turns.specs.declared.place.Place.TheVariants as at
use Rattle.live_turns.specs.declared.retry.Retry.{Retry}
use Rattle.live_turns.specs.declared.turns.LiveTurns.{LiveTurns}
use Rattle.live_turns.proofs.Placing.{peer_here, turn_closes, turn_takes, turn_puts, turn_opens, turn_is_over, none_put, closes_there, takes_there, opens_there}

-- ---- A place behind another
behind_peer : (peer taken : ℕ) (place : Place) → IsFrom (peer + 1) place → IsBehind (at.Peer peer taken) place
behind_peer peer taken at.Wait from = from
behind_peer peer taken (at.Line line so_far) from = absurd from
behind_peer peer taken (at.Peer other so_far) from = from
behind_peer peer taken (at.Put other) from = absurd from

module _ (w : Ways) (e : Ends) (t : LiveTurns) (run : List LiveCall) where
  -- a turn is over, and the place is another
  moves : TurnsStand w e t run → (place : Place) → IsPlace w run place → due w e run ≡ Some (due_at w e run place) → IsBehind t.place place → Answers w e run t.place (record t { place = place }) None
  moves st place there is behind = record {
    stands = record {
      ways = record { lines_are = st.ways.lines_are; peers_are = st.ways.peers_are; few = st.ways.few };
      each = λ peer r has. st.each peer r has;
      place_is = there;
      due_is = is;
      more_is = st.more_is;
    };
    next = tt;
    behind = behind;
  }

  -- ---- What waits is put
  module _ (peer : ℕ) (st : TurnsStand w e t run) (here : t.place ≡ at.Put peer) where
    pub put_here : (peer < w.peers) × NoneBehind run peer
    put_here = subst (IsPlace w run) here st.place_is

    pub put_is_over : length (e.waits peer) ≡ 0 → (place : Place) → due_at w e run place ≡ from_peer w e run (peer + 1) → IsPlace w run place → IsFrom (peer + 1) place → Answers w e run t.place (record t { place = place }) None
    put_is_over none place is there from =
        moves st place there (st.due_is ∙ ap Some (ap (due_at w e run) here ∙ none_put (e.waits peer) peer (from_peer w e run (peer + 1)) none ∙ sym is)) (subst (λ (p : Place). IsBehind p place) (sym here) from)

  -- ---- A peer's turn
  module _ (peer taken : ℕ) (st : TurnsStand w e t run) (here : t.place ≡ at.Peer peer taken) where
    pub place_here : (peer < w.peers) × (taken ≡ pieces_from peer run) × NoneBehind run peer
    place_here = subst (IsPlace w run) here st.place_is

    pub knows_here : (r : Retry) → (peer < length t.retries.items → slice_get t.retries.items peer ≡ Some r) → Knows peer run r
    knows_here r has =
        let within = place_here.0 in
        let many = st.ways.peers_are in
        st.each peer r (has (omega (arith, within, many)))

    due_here : due w e run ≡ Some (in_turn e run peer (from_peer w e run (peer + 1)))
    due_here = st.due_is ∙ ap Some (ap (due_at w e run) here ∙ peer_here w e run peer place_here.0)

    answers : (what : Due) → in_turn e run peer (from_peer w e run (peer + 1)) ≡ what → ((call : LiveCall) → IsMade e what call → IsAt (at.Peer peer taken) call) → Answers w e run t.place t (Some what)
    answers what is there = record {
      stands = st;
      next = record { due_is = due_here ∙ ap Some is; is_at = λ call made. subst (λ (p : Place). IsAt p call) (sym here) (there call made) };
      behind = tt;
    }

    pub answers_close : stands peer run ≡ true → e.has peer ≡ false → Answers w e run t.place t (Some (to.Close peer))
    answers_close s h = answers (to.Close peer) (turn_closes e run peer (from_peer w e run (peer + 1)) s h) (closes_there e peer taken)

    pub answers_take : stands peer run ≡ true → e.has peer ≡ true → taken < 16 → Answers w e run t.place t (Some (to.Take peer))
    answers_take s h few =
        let is = place_here.1 in
        answers (to.Take peer) (turn_takes e run peer (from_peer w e run (peer + 1)) s h (omega (arith, is, few))) (takes_there e peer taken few)

    pub answers_open : stands peer run ≡ false → may_begin peer run ≡ true → Answers w e run t.place t (Some (to.Open peer))
    answers_open s m = answers (to.Open peer) (turn_opens e run peer (from_peer w e run (peer + 1)) s m) (opens_there e peer taken)

    pub moves_to_put : stands peer run ≡ true → e.has peer ≡ true → 16 ≤ taken → Answers w e run t.place (record t { place = at.Put peer }) None
    moves_to_put s h full =
        let is = place_here.1 in
        moves st (at.Put peer) (place_here.0, place_here.2) (due_here ∙ ap Some (turn_puts e run peer (from_peer w e run (peer + 1)) s h (omega (arith, is, full)))) (subst (λ (p : Place). IsBehind p (at.Put peer)) (sym here) refl)

    pub moves_on : stands peer run ≡ false → may_begin peer run ≡ false → (place : Place) → due_at w e run place ≡ from_peer w e run (peer + 1) → IsPlace w run place → IsFrom (peer + 1) place → Answers w e run t.place (record t { place = place }) None
    moves_on s m place is there from =
        moves st place there (due_here ∙ ap Some (turn_is_over e run peer (from_peer w e run (peer + 1)) s m ∙ sym is)) (subst (λ (p : Place). IsBehind p place) (sym here) (behind_peer peer taken place from))
