-- Messages in places of their own, and the entries that name the places.
use Rattle.std.proofs.Common.{◌≡◌, ◌≢◌, ℕ, zero, suc, ◌+◌, ◌≤◌, false, List, [], ◌∷◌, ◌++◌, map, length, take, drop, eqb, refl, sym, ap, ◌∙◌, subst, inl, inr, arith, Option, Some, None, slice_get, unwrap_or, count_by, Result, Ok, Err, IfOk, IfErr}
use Rattle.std.specs.List.{insert, AllByRecursion, IsDistinct}
use Rattle.std.specs.Option.{option_map, is_some}
use Rattle.std.specs.List.Sorted.{IsStrictlySortedBy}
use Rattle.std.specs.Ordering.{nat_cmp}
use Rattle.std.specs.Map.{keys_of}
use Rattle.std.proofs.lemmas.Bool.{cases_eq, false≢true}
use Rattle.std.proofs.lemmas.Bool.Decides.{nat_tests}
use Rattle.std.proofs.lemmas.List.{map-append, take-map, drop-map, length-map}
use Rattle.std.proofs.lemmas.Option.{slice_get-map}
use Rattle.circular_buffer.specs.Buffer.{Buffer, buffer}
use Rattle.slab.specs.Slab.{Slab, get, ContainsKey, Updates, slab_len}
use Rattle.hold_buffer.specs.layers.Places.{IsRising, IsKeyAt, IsGap, message_at, ring_of, IsRingOf}

-- ---- lists
module _ {X Y : Type 0} (f : X → Y) where
  map-insert : (xs : List X) (i : ℕ) (y : X) → map f (insert xs i y) ≡ insert (map f xs) i (f y)
  map-insert xs i y = map-append f (take i xs) (y ∷ drop i xs) ∙ (λ j. sym (take-map f i xs) j ++ f y ∷ sym (drop-map f i xs) j)

module _ {X : Type 0} where
  all_in : (P : X → Type 0) (xs : List X) (i : ℕ) (x : X) → AllByRecursion P xs → P x → AllByRecursion P (insert xs i x)
  all_in P xs zero x all p = (p, all)
  all_in P [] (suc i) x all p = (p, tt)
  all_in P (y ∷ xs) (suc i) x all p = (all.0, all_in P xs i x all.1 p)

  length-insert : (xs : List X) (i : ℕ) (x : X) → length (insert xs i x) ≡ length xs + 1
  length-insert xs zero x = omega arith
  length-insert [] (suc i) x = refl
  length-insert (y ∷ xs) (suc i) x = let more = length-insert xs i x in omega arith

-- no place of the list is this one
abbrev Elsewhere : ℕ → List ℕ → Type 0
Elsewhere p places = AllByRecursion (λ y. eqb p y ≡ false) places

distinct_insert : (places : List ℕ) (i p : ℕ) → IsDistinct eqb places → Elsewhere p places → IsDistinct eqb (insert places i p)
unfolding IsDistinct
distinct_insert places zero p distinct away = (away, distinct)
distinct_insert [] (suc i) p distinct away = (tt, tt)
distinct_insert (x ∷ places) (suc i) p distinct away = (
  all_in (λ y. eqb x y ≡ false) places i p distinct.0 (let apart = away.0 in grind (arith, nat_tests)),
  distinct_insert places i p distinct.1 away.1,
)

distinct_head : (x : ℕ) (places : List ℕ) → IsDistinct eqb (x ∷ places) → Elsewhere x places
unfolding IsDistinct
distinct_head x places distinct = distinct.0

distinct_rest : (x : ℕ) (places : List ℕ) → IsDistinct eqb (x ∷ places) → IsDistinct eqb places
unfolding IsDistinct
distinct_rest x places distinct = distinct.1

none_distinct : IsDistinct eqb []
unfolding IsDistinct
none_distinct = tt

-- ---- the entries
abbrev Filled : Slab (List ℕ) → List (ℕ × ℕ) → Type 0
Filled raws entries = AllByRecursion (λ (e : ℕ × ℕ). ContainsKey raws e.1) entries

-- the first entry has a message
pub first_filled : (raws : Slab (List ℕ)) (entries : List (ℕ × ℕ)) (e : ℕ × ℕ) → Filled raws entries → slice_get entries 0 ≡ Some e → ContainsKey raws e.1
first_filled raws [] e filled at = absurd (cc)
first_filled raws (x ∷ entries) e filled at = let one : x ≡ e = cc in subst (λ (q : ℕ × ℕ). ContainsKey raws q.1) one filled.0

-- a place without a message is that of no entry
vacant_elsewhere : (raws : Slab (List ℕ)) (p : ℕ) → get raws p ≡ None → (entries : List (ℕ × ℕ)) → Filled raws entries → Elsewhere p (map (λ (e : ℕ × ℕ). e.1) entries)
vacant_elsewhere raws p vacant [] filled = tt
vacant_elsewhere raws p vacant (e ∷ entries) filled = (
  elim (cases_eq p e.1) [
    | inl same ↦ absurd (false≢true (sym (ap (λ q. is_some (get raws q)) (sym same) ∙ ap is_some vacant) ∙ filled.0))
    | inr apart ↦ grind (arith, nat_tests)
  ],
  vacant_elsewhere raws p vacant entries filled.1,
)

module _ (raws raws' : Slab (List ℕ)) (p : ℕ) (others : (q : ℕ) → q ≢ p → get raws' q ≡ get raws q) where
  -- messages in other places stay
  same_messages : (entries : List (ℕ × ℕ)) → Elsewhere p (map (λ (e : ℕ × ℕ). e.1) entries) → map (message_at raws') entries ≡ map (message_at raws) entries
  same_messages [] away = refl
  same_messages (e ∷ entries) away =
      let apart : e.1 ≢ p = (let test = away.0 in grind (arith, nat_tests)) in
      ap (λ (raw : Option (List ℕ)). (e.0, unwrap_or raw []) ∷ map (message_at raws') entries) (others e.1 apart)
      ∙ ap (λ (messages : List (ℕ × List ℕ)). message_at raws e ∷ messages) (same_messages entries away.1)

  still_filled : (entries : List (ℕ × ℕ)) → Filled raws entries → Elsewhere p (map (λ (e : ℕ × ℕ). e.1) entries) → Filled raws' entries
  still_filled [] filled away = tt
  still_filled (e ∷ entries) filled away =
      let apart : e.1 ≢ p = (let test = away.0 in grind (arith, nat_tests)) in
      (ap is_some (others e.1 apart) ∙ filled.0, still_filled entries filled.1 away.1)

-- ---- the ring that they stand for
-- no entries, and no messages
pub empty_ring : (order : Buffer (ℕ × ℕ)) (raws : Slab (List ℕ)) (n : ℕ) → order ≡ buffer [] n → raws.slots ≡ [] → n ≤ raws.capacity → raws.capacity ≤ 4294967295 → IsRingOf order raws
empty_ring order raws n is none room fits = subst (λ (b : Buffer (ℕ × ℕ)). IsRingOf b raws) (sym is) (record {
  filled = tt;
  apart = none_distinct;
  count = ap (λ (slots : List (Option (List ℕ))). count_by is_some slots) none;
  room = room;
  fits = fits;
})

module _ (order : Buffer (ℕ × ℕ)) (raws : Slab (List ℕ)) (R : IsRingOf order raws) where
  -- with one more message, in a place that had none
  module _ (order' : Buffer (ℕ × ℕ)) (raws' : Slab (List ℕ)) (at k p : ℕ) (raw : List ℕ) (vacant : get raws p ≡ None) (updates : Updates raws raws' p (Some raw)) (is : order' ≡ buffer (insert order.items at (k, p)) order.capacity) where
    away : Elsewhere p (map (λ (e : ℕ × ℕ). e.1) order.items)
    away = vacant_elsewhere raws p vacant order.items R.filled

    pub inserted_ring : ring_of order' raws' ≡ buffer (insert (map (message_at raws) order.items) at (k, raw)) order.capacity
    inserted_ring =
        ap (λ (b : Buffer (ℕ × ℕ)). ring_of b raws') is
        ∙ ap (λ (xs : List (ℕ × List ℕ)). buffer xs order.capacity) (
        map-insert (message_at raws') order.items at (k, p)
        ∙ ap (λ (xs : List (ℕ × List ℕ)). insert xs at (message_at raws' (k, p))) (same_messages raws raws' p updates.others order.items away)
        ∙ ap (λ (o : Option (List ℕ)). insert (map (message_at raws) order.items) at (k, unwrap_or o [])) updates.changed
        )

    pub inserted_kept : slab_len raws' ≡ slab_len raws + 1 → raws'.capacity ≡ raws.capacity → IsRingOf order' raws'
    inserted_kept more same = subst (λ (b : Buffer (ℕ × ℕ)). IsRingOf b raws') (sym is) (record {
      filled = all_in (λ (e : ℕ × ℕ). ContainsKey raws' e.1) order.items at (k, p) (still_filled raws raws' p updates.others order.items R.filled away) (ap is_some updates.changed);
      apart = subst (IsDistinct eqb) (sym (map-insert (λ (e : ℕ × ℕ). e.1) order.items at (k, p))) (distinct_insert (map (λ (e : ℕ × ℕ). e.1) order.items) at p R.apart away);
      count = let one = length-insert order.items at (k, p) in let had = R.count in omega arith;
      room = let had = R.room in omega arith;
      fits = let had = R.fits in omega arith;
    })

  -- without the first message
  module _ (order' : Buffer (ℕ × ℕ)) (raws' : Slab (List ℕ)) (k p : ℕ) (updates : Updates raws raws' p None) (at : slice_get order.items 0 ≡ Some (k, p)) (is : order' ≡ buffer (drop 1 order.items) order.capacity) where
    rest_away : (entries : List (ℕ × ℕ)) → IsDistinct eqb (map (λ (e : ℕ × ℕ). e.1) entries) → slice_get entries 0 ≡ Some (k, p) → Elsewhere p (map (λ (e : ℕ × ℕ). e.1) (drop 1 entries))
    rest_away [] distinct at = absurd (cc)
    rest_away (x ∷ entries) distinct at =
        let one : x ≡ (k, p) = cc in
        let here : x.1 ≡ p = ap (λ (e : ℕ × ℕ). e.1) one in
        subst (λ q. Elsewhere q (map (λ (e : ℕ × ℕ). e.1) entries)) here (distinct_head x.1 (map (λ (e : ℕ × ℕ). e.1) entries) distinct)

    rest_filled : (entries : List (ℕ × ℕ)) → Filled raws entries → Filled raws (drop 1 entries)
    rest_filled [] filled = tt
    rest_filled (x ∷ entries) filled = filled.1

    rest_distinct : (entries : List (ℕ × ℕ)) → IsDistinct eqb (map (λ (e : ℕ × ℕ). e.1) entries) → IsDistinct eqb (map (λ (e : ℕ × ℕ). e.1) (drop 1 entries))
    rest_distinct [] distinct = distinct
    rest_distinct (x ∷ entries) distinct = distinct_rest x.1 (map (λ (e : ℕ × ℕ). e.1) entries) distinct

    some_there : (entries : List (ℕ × ℕ)) → slice_get entries 0 ≡ Some (k, p) → length (drop 1 entries) + 1 ≡ length entries
    some_there [] at = absurd (cc)
    some_there (x ∷ entries) at = omega arith

    popped_away : Elsewhere p (map (λ (e : ℕ × ℕ). e.1) (drop 1 order.items))
    popped_away = rest_away order.items R.apart at

    pub popped_ring : ring_of order' raws' ≡ buffer (drop 1 (map (message_at raws) order.items)) order.capacity
    popped_ring =
        ap (λ (b : Buffer (ℕ × ℕ)). ring_of b raws') is
        ∙ ap (λ (xs : List (ℕ × List ℕ)). buffer xs order.capacity) (
        same_messages raws raws' p updates.others (drop 1 order.items) popped_away ∙ sym (drop-map (message_at raws) 1 order.items)
        )

    pub popped_ring_kept : slab_len raws' + 1 ≡ slab_len raws → raws'.capacity ≡ raws.capacity → IsRingOf order' raws'
    popped_ring_kept fewer same = subst (λ (b : Buffer (ℕ × ℕ)). IsRingOf b raws') (sym is) (record {
      filled = still_filled raws raws' p updates.others (drop 1 order.items) (rest_filled order.items R.filled) popped_away;
      apart = rest_distinct order.items R.apart;
      count = let one = some_there order.items at in let had = R.count in omega arith;
      room = let had = R.room in omega arith;
      fits = let had = R.fits in omega arith;
    })

-- ---- sequences are where their entries are
keys_same : (raws : Slab (List ℕ)) (entries : List (ℕ × ℕ)) → keys_of (map (message_at raws) entries) ≡ keys_of entries
keys_same raws [] = refl
keys_same raws (e ∷ entries) = ap (λ ks. e.0 ∷ ks) (keys_same raws entries)

pub entries_rise : (raws : Slab (List ℕ)) (entries : List (ℕ × ℕ)) → IsRising (map (message_at raws) entries) → IsRising entries
entries_rise raws entries rising = subst (IsStrictlySortedBy nat_cmp) (keys_same raws entries) rising

pub key_there : (raws : Slab (List ℕ)) (entries : List (ℕ × ℕ)) (at k : ℕ) → IsKeyAt entries at k → IsKeyAt (map (message_at raws) entries) at k
key_there raws entries at k found = (
  unwrap_or (get raws found.0) [],
  slice_get-map (message_at raws) entries at ∙ ap (option_map (message_at raws)) found.1,
)

-- the entry of a message
entry_of : (raws : Slab (List ℕ)) (o : Option (ℕ × ℕ)) (m : ℕ × List ℕ) → option_map (message_at raws) o ≡ Some m → (e : ℕ × ℕ) × (o ≡ Some e) × (e.0 ≡ m.0)
entry_of raws None m is = absurd (cc)
entry_of raws (Some e) m is = let one : message_at raws e ≡ m = cc in (e, refl, ap (λ (q : ℕ × List ℕ). q.0) one)

pub gap_there : (raws : Slab (List ℕ)) (entries : List (ℕ × ℕ)) (at k : ℕ) → IsGap entries at k → IsGap (map (message_at raws) entries) at k
gap_there raws entries at k gap = (
  (let l = length-map entries (message_at raws) in let g = gap.0 in omega arith),
  λ j m lt is. let e = entry_of raws (slice_get entries j) m (sym (slice_get-map (message_at raws) entries j) ∙ is) in let low = gap.1 j e.0 lt e.1 in let same = e.2 in omega arith,
  λ m is. let e = entry_of raws (slice_get entries at) m (sym (slice_get-map (message_at raws) entries at) ∙ is) in let high = gap.2 e.0 e.1 in let same = e.2 in omega arith,
)

module _ (raws : Slab (List ℕ)) (entries : List (ℕ × ℕ)) (k : ℕ) where
  pub found_there : (r : Result ℕ ℕ) → IfOk r (λ at. IsKeyAt entries at k) → IfOk r (λ at. IsKeyAt (map (message_at raws) entries) at k)
  found_there (Ok at) found = key_there raws entries at k found
  found_there (Err at) found = tt

  pub room_there : (r : Result ℕ ℕ) → IfErr r (λ at. IsGap entries at k) → IfErr r (λ at. IsGap (map (message_at raws) entries) at k)
  room_there (Ok at) gap = tt
  room_there (Err at) gap = gap_there raws entries at k gap

-- as many messages as entries
pub held_is : (order : Buffer (ℕ × ℕ)) (raws : Slab (List ℕ)) (ring : Buffer (ℕ × List ℕ)) → ring_of order raws ≡ ring → length order.items ≡ length ring.items
held_is order raws ring is = sym (length-map order.items (message_at raws)) ∙ ap (λ (b : Buffer (ℕ × List ℕ)). length b.items) is

-- the first entry is that of the first message
pub first_entry : (raws : Slab (List ℕ)) (entries : List (ℕ × ℕ)) (k p : ℕ) (raw : List ℕ) → slice_get entries 0 ≡ Some (k, p) → get raws p ≡ Some raw → slice_get (map (message_at raws) entries) 0 ≡ Some (k, raw)
first_entry raws entries k p raw at found =
    slice_get-map (message_at raws) entries 0 ∙ ap (option_map (message_at raws)) at ∙ ap (λ (o : Option (List ℕ)). Some (k, unwrap_or o [])) found
