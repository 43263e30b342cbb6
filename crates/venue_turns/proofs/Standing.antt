-- Turns that stand for a call more.
use Rattle.std.proofs.Common.{◌≡◌, ◌<◌, ◌≤◌, ℕ, ◌+◌, Bool, List, ◌∷◌, length, slice_get, slice_set, length-set, ◌⊎◌, inl, inr, sym, ap, ◌∙◌, subst, arith, Some}
use Rattle.venue_net.specs.VenueCalls.{VenueCall}
use Rattle.venue_turns.specs.Due.{Ways, Ends, due, is_more_left, is_read}
use Rattle.venue_turns.specs.Turning.{AreWays, IsPlace, KnowEach, Knows, TurnsStand, due_at}
use Rattle.venue_turns.specs.declared.link.Link.{Link}
use Rattle.venue_turns.specs.declared.place.Place.{Place}
use Rattle.venue_turns.specs.declared.turns.VenueTurns.{VenueTurns}
use Rattle.venue_turns.proofs.Linking.{knows_left, leaves_others, place_called, Leaves}
use Rattle.venue_turns.proofs.Placing.{kept_at}

module _ (w : Ways) (e e' : Ends) (t : VenueTurns) (run : List VenueCall) (call : VenueCall) (st : TurnsStand w e t run) where
  -- each connection is as it was
  pub goes_on : ((place : ℕ) → Leaves place run call) → (place : Place) (more over : Bool) → IsPlace w (call ∷ run) place → due w e' (call ∷ run) ≡ Some (due_at w e' (call ∷ run) place)
      → more ≡ is_more_left (call ∷ run) → over ≡ is_read (call ∷ run) → TurnsStand w e' (record t { place = place; more = more; over = over }) (call ∷ run)
  goes_on leaves place more over at is left read = record {
    ways = record { places_are = st.ways.places_are; few = st.ways.few };
    each = λ other l has. knows_left other run call l (leaves other) (st.each other l has);
    place_is = at;
    due_is = is;
    more_is = left;
    over_is = read;
  }

  -- that at one place is not
  module _ (t' : VenueTurns) (place : ℕ) (kept : Link) (is_kept : t'.links.items ≡ slice_set t.links.items place kept) (same : t' ≡ record t { links = t'.links }) (called : place_called call ≡ Some place) (knows : Knows place (call ∷ run) kept) where
    pub ways_kept : AreWays w t'
    ways_kept = record {
      places_are = ap length is_kept ∙ length-set t.links.items place kept ∙ st.ways.places_are;
      few = st.ways.few;
    }

    each_kept : KnowEach (call ∷ run) t'
    each_kept other l has = by (kept_at t.links.items place other kept l (subst (λ (xs : List Link). slice_get xs other ≡ Some l) is_kept has))
      where
        by : (other ≡ place) × (l ≡ kept) ⊎ ((other ≡ place → ⊥) × (slice_get t.links.items other ≡ Some l)) → Knows other (call ∷ run) l
        by (inl it) = subst (λ (n : ℕ). Knows n (call ∷ run) l) (sym it.0) (subst (Knows place (call ∷ run)) (sym it.1) knows)
        by (inr not) = knows_left other run call l (leaves_others place other run call called not.0) (st.each other l not.1)

    pub goes_on_kept : (there : Place) (more : Bool) → IsPlace w (call ∷ run) there → due w e' (call ∷ run) ≡ Some (due_at w e' (call ∷ run) there) → more ≡ is_more_left (call ∷ run) → is_read run ≡ is_read (call ∷ run)
        → TurnsStand w e' (record t' { place = there; more = more }) (call ∷ run)
    goes_on_kept there more at is left read = record {
      ways = record { places_are = ways_kept.places_are; few = ways_kept.few };
      each = λ other l has. each_kept other l has;
      place_is = at;
      due_is = is;
      more_is = left;
      over_is = ap (λ (x : VenueTurns). x.over) same ∙ st.over_is ∙ read;
    }

    pub more_kept : is_more_left run ≡ is_more_left (call ∷ run) → t'.more ≡ is_more_left (call ∷ run)
    more_kept left = ap (λ (x : VenueTurns). x.more) same ∙ st.more_is ∙ left

-- ---- A loop over what is kept
module _ (items : List Link) (index : ℕ) (new : Link) where
  pub done_more : (P : ℕ → Link → Type 0) → P index new → ((place : ℕ) (l : Link) → place < index → slice_get items place ≡ Some l → P place l) → (place : ℕ) (l : Link) → place < index + 1
      → slice_get (slice_set items index new) place ≡ Some l → P place l
  done_more P here done place l below has = by (kept_at items index place new l has)
    where
      by : (place ≡ index) × (l ≡ new) ⊎ ((place ≡ index → ⊥) × (slice_get items place ≡ Some l)) → P place l
      by (inl it) = subst (λ (n : ℕ). P n l) (sym it.0) (subst (P index) (sym it.1) here)
      by (inr not) = done place l (grind (arith, not.0)) not.1

  pub left_more : (old : List Link) → ((place : ℕ) (l : Link) → index ≤ place → slice_get items place ≡ Some l → slice_get old place ≡ Some l) → (place : ℕ) (l : Link) → index + 1 ≤ place
      → slice_get (slice_set items index new) place ≡ Some l → slice_get old place ≡ Some l
  left_more old left place l above has = by (kept_at items index place new l has)
    where
      by : (place ≡ index) × (l ≡ new) ⊎ ((place ≡ index → ⊥) × (slice_get items place ≡ Some l)) → slice_get old place ≡ Some l
      by (inl it) = let same = it.0 in absurd (omega arith)
      by (inr not) = left place l (omega arith) not.1
