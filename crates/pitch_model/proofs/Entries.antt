-- What one entry does to the reach and to what is held.
use Rattle.std.proofs.Common.{◌≡◌, ℕ, suc, ◌+◌, ◌≤◌, ◌<◌, Bool, true, false, ◌&&◌, ◌||◌, cond, List, [], ◌∷◌, eqb, ltb, refl, sym, ap, ◌∙◌, subst, inl, inr, arith}
use Rattle.std.specs.Set.{is_member}
use Rattle.std.proofs.lemmas.Bool.{or_left, or_right, and_right, eq-eqb, lt-ltb, le-ltb, cases_lt}
use Rattle.std.proofs.lemmas.Bool.Decides.{nat_tests}
use Rattle.pitch_model.specs.History.{Entry, Raw, Message, SpinFinished, spin_of, image_finished}
use Rattle.pitch_model.specs.Reach.{SinceOverflow, grown, is_anchor, is_seen, reach_of, held_count, since_overflow, reach, is_held, is_overflow, sequences}
use Rattle.pitch_model.specs.layers.Settling.{Settled}
use Rattle.pitch_model.specs.layers.Steps.{SameReach, Leaves}
use Rattle.pitch_model.proofs.Reaching.{reach_stops, base_joined, anchors_up_to_reach}
use Rattle.pitch_model.proofs.Steps.{step_old, step_repeat, step_kept, step_overflow, step_stale}
use Rattle.pitch_model.proofs.Counting.{held_same, held_more, held_few}

-- ---- The start
at_base : (s : ℕ) → (eqb s 0 || false) ≡ true → s ≤ 0
at_base s h = grind (arith, nat_tests)

-- a hold with the floor 0 that holds nothing is settled before any entry
pub start_settled : (H : ℕ) (has : ℕ → Bool) → ((k : ℕ) → has k ≡ false) → Settled (since_overflow H []) 0 has
start_settled H has none = record {
  reach = reach_stops (since_overflow H []) 0 (base_joined (since_overflow H [])) (λ s h. at_base s h) refl;
  held = λ k. none k ∙ sym (and_right (ltb 0 k) false refl);
}

-- ---- Along a history
-- the reach and what is held, as a floor and what a hold has
pub settled_at : (H : ℕ) (E : List Entry) → Settled (since_overflow H E) (reach H E) (is_held H E)
settled_at H E = record { reach = refl; held = λ k. refl }

held_is : (P : SinceOverflow) (n : ℕ) (has : ℕ → Bool) → Settled P n has → (k : ℕ) → (ltb (reach_of P) k && is_seen P k) ≡ has k
held_is P n has S k = ap (λ (m : ℕ). ltb m k && is_seen P k) S.reach ∙ sym (S.held k)

-- ---- Messages
module _ (H : ℕ) (E : List Entry) (k : ℕ) (raw : Raw) where
  with_message : SinceOverflow
  with_message = grown (since_overflow H E) [] (k ∷ [])

  -- no more are held than there are places
  calm : held_count with_message ≤ H → is_overflow H E (Message k raw) ≡ false
  unfolding with_message
  calm few = le-ltb H (held_count with_message) few

  leaves_calm : (n : ℕ) (has : ℕ → Bool) → Settled with_message n has → held_count with_message ≤ H → Leaves H E (Message k raw) false n has
  unfolding with_message
  leaves_calm n has S few =
      let still = subst (λ (b : Bool). Settled (cond b (record { base = reach_of with_message; images = []; seen = k ∷ [] }) with_message) n has) (sym (calm few)) S in
      record { overflow_is = calm few; reach_is = still.reach; held_are = held_is _ n has still }

  same_count : (n : ℕ) → Settled with_message n (is_held H E) → held_count with_message ≡ held_count (since_overflow H E)
  unfolding with_message
  same_count n S = held_same with_message (since_overflow H E) (λ j. held_is with_message n (is_held H E) S j)

  -- a message at or below the reach changes nothing
  pub old_leaves : 1 ≤ H → k ≤ reach H E → Leaves H E (Message k raw) false (reach H E) (is_held H E)
  unfolding with_message
  old_leaves one old =
      let S = step_old (since_overflow H E) (reach H E) k (is_held H E) (settled_at H E) old in
      let few = held_few H E one in
      let same = same_count (reach H E) S in
      leaves_calm (reach H E) (is_held H E) S (omega arith)

  -- nor does one that is held
  pub repeat_leaves : 1 ≤ H → is_held H E k ≡ true → Leaves H E (Message k raw) false (reach H E) (is_held H E)
  unfolding with_message
  repeat_leaves one held =
      let S = step_repeat (since_overflow H E) (reach H E) k (is_held H E) (settled_at H E) held in
      let few = held_few H E one in
      let same = same_count (reach H E) S in
      leaves_calm (reach H E) (is_held H E) S (omega arith)

  more_held : reach H E + 1 < k → Settled with_message (reach H E) (λ j. eqb j k || is_held H E j)
  unfolding with_message
  more_held far = step_kept (since_overflow H E) (reach H E) k (is_held H E) (settled_at H E) (λ j. eqb j k || is_held H E j) (omega arith) (λ j. refl)

  one_more : reach H E + 1 < k → is_held H E k ≡ false → held_count with_message ≡ suc (held_count (since_overflow H E))
  unfolding with_message
  one_more far fresh = held_more (since_overflow H E) with_message k fresh (held_is with_message (reach H E) (λ j. eqb j k || is_held H E j) (more_held far))

  -- another fresh message than the next is held, where there is a place
  pub kept_leaves : reach H E + 1 < k → is_held H E k ≡ false → held_count (since_overflow H E) < H → Leaves H E (Message k raw) false (reach H E) (λ j. eqb j k || is_held H E j)
  unfolding with_message
  kept_leaves far fresh room =
      let more = one_more far fresh in
      leaves_calm (reach H E) (λ j. eqb j k || is_held H E j) (more_held far) (omega arith)

  -- and where there is none, the hold overflows: it alone is held then
  pub overflow_leaves : reach H E + 1 < k → is_held H E k ≡ false → held_count (since_overflow H E) ≡ H → Leaves H E (Message k raw) true (reach H E) (λ j. eqb j k)
  unfolding with_message
  overflow_leaves far fresh full =
      let more = one_more far fresh in
      let over : is_overflow H E (Message k raw) ≡ true = lt-ltb H (held_count with_message) (omega arith) in
      let alone = step_overflow (since_overflow H E) (reach H E) k (is_held H E) (settled_at H E) (λ j. eqb j k) (omega arith) (λ j. refl) in
      let after = subst (λ (b : Bool). Settled (cond b (record { base = reach_of with_message; images = []; seen = k ∷ [] }) with_message) (reach H E) (λ j. eqb j k)) (sym over) alone in
      record { overflow_is = over; reach_is = after.reach; held_are = held_is _ (reach H E) (λ j. eqb j k) after }

-- ---- Images
-- the reach rises exactly where a finished image is above it
pub image_raises : (P : SinceOverflow) (n m s : ℕ) (had has : ℕ → Bool) → Settled P n had → Settled (grown P (s ∷ []) []) m has → ltb n s ≡ ltb n m
image_raises P n m s had has S S' =
    elim (cases_lt n s) [
      | inl above ↦
          let anchored : is_anchor (grown P (s ∷ []) []) s ≡ true = or_right (eqb s P.base) (eqb s s || is_member eqb P.images s) (or_left (eqb s s) (is_member eqb P.images s) (eq-eqb s s refl)) in
          let up = anchors_up_to_reach (grown P (s ∷ []) []) s anchored in
          let r = S'.reach in
          lt-ltb n s above ∙ sym (lt-ltb n m (omega arith))
      | inr old ↦
          let still = step_stale P n s had S old in
          let same : m ≡ n = sym S'.reach ∙ still.reach in
          le-ltb n s old ∙ sym (le-ltb n m (omega arith))
    ]

-- a finished image at or below the reach changes nothing
pub stale_same : (H : ℕ) (E : List Entry) (sequence s : ℕ) (raws : List Raw) → image_finished (spin_of E) sequence ≡ (s, raws) ∷ [] → s ≤ reach H E → SameReach H E (SpinFinished sequence ∷ E)
stale_same H E sequence s raws finished old =
    let S = step_stale (since_overflow H E) (reach H E) s (is_held H E) (settled_at H E) old in
    let S' : Settled (since_overflow H (SpinFinished sequence ∷ E)) (reach H E) (is_held H E) =
    subst (λ (is : List (ℕ × List Raw)). Settled (grown (since_overflow H E) (sequences is) []) (reach H E) (is_held H E)) (sym finished) S in
    record { reach_is = S'.reach; held_are = held_is _ (reach H E) (is_held H E) S' }
