-- A floor and a ring stand for a hold after each change.
use Rattle.std.proofs.Common.{◌≡◌, ℕ, ◌+◌, ◌<◌, ◌≤◌, ◌-◌, true, false, List, [], ◌∷◌, length, drop, refl, sym, ap, ◌∙◌, subst, arith, slice_get, Option, Some, None, eqb, ltb, ◌≢◌, filter, IsSome, MatchOption}
use Rattle.std.specs.Ordering.{nat_cmp}
use Rattle.std.specs.List.{insert}
use Rattle.std.specs.FinMap as map
use Rattle.std.specs.Option.{option_eq, option_map}
use Rattle.std.proofs.lemmas.Bool.{both_ways, false≢true, eqb-true}
use Rattle.std.proofs.lemmas.Bool.Decides.{nat_tests}
use Rattle.circular_buffer.specs.Buffer.{Buffer, buffer}
use Rattle.pitch_fields.specs.Limits.{IsHoldLimit}
use Rattle.hold_buffer.specs.layers.Holding.{IsHold}
use Rattle.hold_buffer.specs.layers.Offered.{Answers}
use Rattle.hold_buffer.specs.layers.Places.{IsGap, IsRising, hold_of, IsHoldRing}
use Rattle.hold_buffer.specs.declared.hold.Offer.TheVariants.{Overflowed, Kept}
use Rattle.hold_buffer.proofs.Viewed.{len_view}
use Rattle.hold_buffer.proofs.Holds.{hold_next, hold_kept, hold_alone, hold_popped, hold_jumped, contains_empty, get_none}
use Rattle.hold_buffer.proofs.Rings.{found_contains, gap_unheld, insert_gap, sorted_insert, one_sorted, none_sorted, found_at, sorted_filter, sorted_tail, filter_retained, tail_removed}

-- what a test of the first sequence says
first_is : (first : Option (ℕ × List ℕ)) (k : ℕ) → option_eq eqb (option_map (λ e. e.0) first) (Some k) ≡ true → (raw : List ℕ) × (first ≡ Some (k, raw))
first_is None k test = absurd (false≢true test)
first_is (Some e) k test = (e.1, ap (λ n. Some (n, e.1)) (eqb-true e.0 k test))

first_is_not : (first : Option (ℕ × List ℕ)) (k : ℕ) → option_eq eqb (option_map (λ e. e.0) first) (Some k) ≡ false → (e : ℕ × List ℕ) → first ≡ Some e → e.0 ≢ k
first_is_not None k test e is = absurd (cc)
first_is_not (Some x) k test e is = λ same. let one : x ≡ e = cc in let other : x.0 ≢ k = grind (arith, nat_tests) in other (ap (λ (p : ℕ × List ℕ). p.0) one ∙ same)

-- what is at the front, from its sequence
pub front_from_sequence : (front : Option (ℕ × List ℕ)) (n : ℕ) → Some n ≡ option_map (λ e. e.0) front → (raw : List ℕ) × (front ≡ Some (n, raw))
front_from_sequence None n is = absurd (cc)
front_from_sequence (Some e) n is = let key : n ≡ e.0 = cc in (e.1, ap (λ k. Some (k, e.1)) (sym key))

pub no_front : (front : Option (ℕ × List ℕ)) → None ≡ option_map (λ (e : ℕ × List ℕ). e.0) front → front ≡ None
no_front None is = refl
no_front (Some e) is = absurd (cc)

-- an empty ring is a hold with nothing held
pub kept_empty : (limit : ℕ) (ring : Buffer (ℕ × List ℕ)) → ring ≡ buffer [] limit → IsHoldLimit limit → IsHoldRing 0 ring
kept_empty limit ring is within = subst (IsHoldRing 0) (sym is) (record {
  hold = record {
    limited = (within.0, within.1);
    few = let z = map.len-empty nat_cmp (List ℕ) in omega arith;
    above = λ k t. absurd (both_ways _ (contains_empty k) t);
    fits = λ k t. absurd (both_ways _ (contains_empty k) t);
  };
  rising = none_sorted {X = List ℕ} [] refl;
})

module _ (floor : ℕ) (ring : Buffer (ℕ × List ℕ)) (K : IsHoldRing floor ring) where
  pub len_held : map.len (hold_of floor ring).held ≡ length ring.items
  len_held = len_view ring.items K.rising

  -- the first is above the floor
  pub front_above : (e : ℕ × List ℕ) → slice_get ring.items 0 ≡ Some e → floor < e.0
  front_above e at = K.hold.above e.0 (found_contains ring.items 0 e.0 K.rising (e.1, at))

  -- a sequence below the first is not held
  pub below_front : (k : ℕ) → ((e : ℕ × List ℕ) → slice_get ring.items 0 ≡ Some e → k < e.0) → map.contains_key (hold_of floor ring).held k ≡ false
  below_front k first = gap_unheld ring.items 0 k K.rising (omega arith, λ j e lt at. absurd (omega arith), first)

  pub first_held : (k : ℕ) → option_eq eqb (option_map (λ e. e.0) (slice_get ring.items 0)) (Some k) ≡ true → map.contains_key (hold_of floor ring).held k ≡ true
  first_held k test = found_contains ring.items 0 k K.rising (first_is (slice_get ring.items 0) k test)

  pub next_unheld : (k : ℕ) → option_eq eqb (option_map (λ e. e.0) (slice_get ring.items 0)) (Some k) ≡ false → k ≡ floor + 1 → map.contains_key (hold_of floor ring).held k ≡ false
  next_unheld k test follows = below_front k (λ e at. let apart = first_is_not (slice_get ring.items 0) k test e at in let high = front_above e at in omega arith)

  pub kept_next : (k : ℕ) → k ≡ floor + 1 → map.contains_key (hold_of floor ring).held k ≡ false → IsHoldRing k ring
  kept_next k follows none = record { hold = hold_next (hold_of floor ring) K.hold k follows none; rising = K.rising }

  -- with one more in its place
  module _ (after : Buffer (ℕ × List ℕ)) (at k : ℕ) (raw : List ℕ) (gap : IsGap ring.items at k) (is : after ≡ buffer (insert ring.items at (k, raw)) ring.capacity) where
    inserted_is : hold_of floor after ≡ record (hold_of floor ring) { held = map.insert (hold_of floor ring).held k raw }
    inserted_is = ap (hold_of floor) is ∙ ap (λ m. record (hold_of floor ring) { held = m }) (insert_gap ring.items at k raw K.rising gap)

    pub kept_inserted : k ≤ 4294967294 → floor < k → length ring.items < ring.capacity → IsHoldRing floor after
    kept_inserted fit high room = record {
      hold = subst IsHold (sym inserted_is) (hold_kept (hold_of floor ring) K.hold k raw fit high (gap_unheld ring.items at k K.rising gap) (let l = len_held in omega arith));
      rising = subst (λ (b : Buffer (ℕ × List ℕ)). IsRising b.items) (sym is) (sorted_insert ring.items at k raw K.rising gap);
    }

    pub answers_kept : floor + 1 < k → length ring.items < ring.capacity → Answers Kept (hold_of floor ring) k raw (hold_of floor after)
    answers_kept high room = (high, gap_unheld ring.items at k K.rising gap, (let l = len_held in omega arith), inserted_is)

  -- with that one alone
  module _ (after : Buffer (ℕ × List ℕ)) (k : ℕ) (raw : List ℕ) (is : after ≡ buffer ((k, raw) ∷ []) ring.capacity) where
    alone_is : hold_of floor after ≡ record (hold_of floor ring) { held = map.insert map.empty k raw }
    alone_is = ap (hold_of floor) is

    pub kept_alone : k ≤ 4294967294 → floor < k → IsHoldRing floor after
    kept_alone fit high = record {
      hold = subst IsHold (sym alone_is) (hold_alone (hold_of floor ring) K.hold k raw fit high);
      rising = subst (λ (b : Buffer (ℕ × List ℕ)). IsRising b.items) (sym is) (one_sorted k raw);
    }

    pub answers_overflowed : (at : ℕ) → IsGap ring.items at k → floor + 1 < k → length ring.items ≡ ring.capacity → Answers Overflowed (hold_of floor ring) k raw (hold_of floor after)
    answers_overflowed at gap high full = (high, gap_unheld ring.items at k K.rising gap, len_held ∙ full, alone_is)

  -- without the messages through a greater floor
  module _ (after : Buffer (ℕ × List ℕ)) (next : ℕ) (is : after ≡ buffer (filter (λ e. ltb next e.0) ring.items) ring.capacity) where
    pub jumped_is : hold_of next after ≡ record { floor = next; limit = ring.capacity; held = map.retain_keys (hold_of floor ring).held (λ k. ltb next k) }
    jumped_is = ap (hold_of next) is ∙ ap (λ m. record { floor = next; limit = ring.capacity; held = m }) (filter_retained ring.items next)

    pub kept_jumped : IsHoldRing next after
    kept_jumped = record {
      hold = subst IsHold (sym jumped_is) (hold_jumped (hold_of floor ring) K.hold next);
      rising = subst (λ (b : Buffer (ℕ × List ℕ)). IsRising b.items) (sym is) (sorted_filter (λ k. ltb next k) ring.items K.rising);
    }

  -- without the first message, which follows the floor
  module _ (after : Buffer (ℕ × List ℕ)) (k : ℕ) (raw : List ℕ) (is : after ≡ buffer (drop 1 ring.items) ring.capacity) (at : slice_get ring.items 0 ≡ Some (k, raw)) (follows : k ≡ floor + 1) where
    pub popped_is : hold_of k after ≡ record { floor = floor + 1; limit = ring.capacity; held = map.remove (hold_of floor ring).held (floor + 1) }
    popped_is = ap (hold_of k) is ∙ ap (λ m. record { floor = k; limit = ring.capacity; held = m }) (tail_removed ring.items k raw K.rising at)
        ∙ ap (λ n. record { floor = n; limit = ring.capacity; held = map.remove (hold_of floor ring).held n }) follows

    pub kept_popped : IsHoldRing k after
    kept_popped = record {
      hold = subst IsHold (sym popped_is) (hold_popped (hold_of floor ring) K.hold);
      rising = subst (λ (b : Buffer (ℕ × List ℕ)). IsRising b.items) (sym is) (sorted_tail ring.items K.rising);
    }

  pub popped_held : (k : ℕ) (raw : List ℕ) → slice_get ring.items 0 ≡ Some (k, raw) → k ≡ floor + 1 → map.get (hold_of floor ring).held (floor + 1) ≡ Some raw
  popped_held k raw at follows = subst (λ n. map.get (hold_of floor ring).held n ≡ Some raw) follows (found_at ring.items 0 k raw K.rising at)

  -- nothing follows the floor where the first message does not
  pub popped_none : ((e : ℕ × List ℕ) → slice_get ring.items 0 ≡ Some e → e.0 - 1 ≢ floor) → map.get (hold_of floor ring).held (floor + 1) ≡ None
  popped_none apart = get_none (hold_of floor ring).held (floor + 1) (below_front (floor + 1) (λ e at. let high = front_above e at in let other = apart e at in omega arith))

  -- the first is the least
  pub least_first : (first : Option ℕ) → first ≡ option_map (λ e. e.0) (slice_get ring.items 0)
      → MatchOption first ((k : ℕ) → map.get (hold_of floor ring).held k ≡ None) (λ first. IsSome (map.get (hold_of floor ring).held first) × ((k : ℕ) → IsSome (map.get (hold_of floor ring).held k) → first ≤ k))
  least_first first is = by (slice_get ring.items 0) refl first is
    where
      by : (front : Option (ℕ × List ℕ)) → slice_get ring.items 0 ≡ front → (first : Option ℕ) → first ≡ option_map (λ e. e.0) front
          → MatchOption first ((k : ℕ) → map.get (hold_of floor ring).held k ≡ None) (λ first. IsSome (map.get (hold_of floor ring).held first) × ((k : ℕ) → IsSome (map.get (hold_of floor ring).held k) → first ≤ k))
      by None at None is = λ k. get_none (hold_of floor ring).held k (below_front k (λ e at'. absurd (cc)))
      by None at (Some n) is = absurd (cc)
      by (Some e) at None is = absurd (cc)
      by (Some e) at (Some n) is =
          let key : n ≡ e.0 = cc in
          subst (λ n. IsSome (map.get (hold_of floor ring).held n) × ((k : ℕ) → IsSome (map.get (hold_of floor ring).held k) → n ≤ k)) (sym key) (
            found_contains ring.items 0 e.0 K.rising (e.1, at),
            λ k some.
                let not_less : k < e.0 → ⊥ = λ less. both_ways _ (below_front k (λ f at'. let one : f ≡ e = cc in let same : f.0 ≡ e.0 = ap (λ (p : ℕ × List ℕ). p.0) one in omega arith)) some in
                omega arith,
          )
