-- Turns that stand for a call more.
use Rattle.std.proofs.Common.{◌≡◌, ◌<◌, ◌≤◌, ℕ, ◌+◌, Bool, false, List, ◌∷◌, length, slice_get, slice_set, length-set, ◌⊎◌, inl, inr, sym, ap, ◌∙◌, subst, arith, Some}
use Rattle.live_net.specs.LiveCalls.{LiveCall}
use Rattle.live_turns.specs.Due.{Ways, Ends, due, is_more_left}
use Rattle.live_turns.specs.Retry.{is_second}
use Rattle.live_turns.specs.Turning.{AreWays, IsPlace, KnowEach, Knows, TurnsStand, due_at}
use Rattle.live_turns.specs.declared.place.Place.{Place}
use Rattle.live_turns.specs.declared.retry.Retry.{Retry}
use Rattle.live_turns.specs.declared.turns.LiveTurns.{LiveTurns}
use Rattle.live_turns.proofs.Placing.{kept_at, not_anothers, peer_called}
use Rattle.live_turns.proofs.Retrying.{knows_other}

module _ (w : Ways) (e e' : Ends) (t : LiveTurns) (run : List LiveCall) (call : LiveCall) (st : TurnsStand w e t run) where
  -- no connection was begun, and none ended
  pub goes_on : ((peer : ℕ) (r : Retry) → Knows peer run r → Knows peer (call ∷ run) r) → (place : Place) (more : Bool) → IsPlace w (call ∷ run) place → due w e' (call ∷ run) ≡ Some (due_at w e' (call ∷ run) place)
      → more ≡ is_more_left (call ∷ run) → TurnsStand w e' (record t { place = place; more = more }) (call ∷ run)
  goes_on knows place more at is left = record {
    ways = record { lines_are = st.ways.lines_are; peers_are = st.ways.peers_are; few = st.ways.few };
    each = λ peer r has. knows peer r (st.each peer r has);
    place_is = at;
    due_is = is;
    more_is = left;
  }

  -- that of one peer was, or did
  module _ (t' : LiveTurns) (peer : ℕ) (kept : Retry) (is_kept : t'.retries.items ≡ slice_set t.retries.items peer kept) (same : t' ≡ record t { retries = t'.retries }) (called : peer_called call ≡ Some peer) (no_second : is_second call ≡ false)
      (knows : Knows peer (call ∷ run) kept) where
    pub ways_kept : AreWays w t'
    ways_kept = record {
      lines_are = ap (λ (x : LiveTurns). x.lines) same ∙ st.ways.lines_are;
      peers_are = ap length is_kept ∙ length-set t.retries.items peer kept ∙ st.ways.peers_are;
      few = st.ways.few;
    }

    each_kept : KnowEach (call ∷ run) t'
    each_kept other r has = by (kept_at t.retries.items peer other kept r (subst (λ (xs : List Retry). slice_get xs other ≡ Some r) is_kept has))
      where
        by : (other ≡ peer) × (r ≡ kept) ⊎ ((other ≡ peer → ⊥) × (slice_get t.retries.items other ≡ Some r)) → Knows other (call ∷ run) r
        by (inl it) = subst (λ (n : ℕ). Knows n (call ∷ run) r) (sym it.0) (subst (Knows peer (call ∷ run)) (sym it.1) knows)
        by (inr not) =
            let none = not_anothers peer other call called not.0 in
            knows_other other run call r (st.each other r not.1) none.0 none.1 no_second

    pub goes_on_kept : (place : Place) → IsPlace w (call ∷ run) place → due w e' (call ∷ run) ≡ Some (due_at w e' (call ∷ run) place) → is_more_left run ≡ is_more_left (call ∷ run)
        → TurnsStand w e' (record t' { place = place }) (call ∷ run)
    goes_on_kept place at is left = record {
      ways = record { lines_are = ways_kept.lines_are; peers_are = ways_kept.peers_are; few = ways_kept.few };
      each = λ other r has. each_kept other r has;
      place_is = at;
      due_is = is;
      more_is = ap (λ (x : LiveTurns). x.more) same ∙ st.more_is ∙ left;
    }

-- ---- A loop over what is kept
module _ (items : List Retry) (index : ℕ) (new : Retry) where
  pub done_more : (P : ℕ → Retry → Type 0) → P index new → ((peer : ℕ) (r : Retry) → peer < index → slice_get items peer ≡ Some r → P peer r) → (peer : ℕ) (r : Retry) → peer < index + 1
      → slice_get (slice_set items index new) peer ≡ Some r → P peer r
  done_more P here done peer r below has = by (kept_at items index peer new r has)
    where
      by : (peer ≡ index) × (r ≡ new) ⊎ ((peer ≡ index → ⊥) × (slice_get items peer ≡ Some r)) → P peer r
      by (inl it) = subst (λ (n : ℕ). P n r) (sym it.0) (subst (P index) (sym it.1) here)
      by (inr not) = done peer r (grind (arith, not.0)) not.1

  pub left_more : (old : List Retry) → ((peer : ℕ) (r : Retry) → index ≤ peer → slice_get items peer ≡ Some r → slice_get old peer ≡ Some r) → (peer : ℕ) (r : Retry) → index + 1 ≤ peer
      → slice_get (slice_set items index new) peer ≡ Some r → slice_get old peer ≡ Some r
  left_more old left peer r above has = by (kept_at items index peer new r has)
    where
      by : (peer ≡ index) × (r ≡ new) ⊎ ((peer ≡ index → ⊥) × (slice_get items peer ≡ Some r)) → slice_get old peer ≡ Some r
      by (inl it) = let same = it.0 in absurd (omega arith)
      by (inr not) = left peer r (omega arith) not.1
