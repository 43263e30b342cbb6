-- What the turns answer is due.
use Rattle.std.proofs.Common.{◌≡◌, ◌<◌, ℕ, ◌+◌, false, List, length, sym, ap, ◌∙◌, subst, Bool, cond, None, Some}
use Rattle.venue_net.specs.VenueCalls.{VenueCall}
use Rattle.venue_turns.specs.Due.{Ways, Ends, IsMade, from_place, first_of, pieces_from, puts_from}
use Rattle.venue_turns.specs.Turning.{Answers, IsAt, IsBehind, IsFrom, IsPlace, TurnsStand, due_at}
use Rattle.venue_turns.specs.declared.due.Due.{Due}
use Rattle.venue_turns.specs.declared.due.Due.TheVariants as to
use Rattle.venue_turns.specs.declared.place.Place.{Place}
use Rattle.venue_turns.specs.declared.place.Place.TheVariants as at
use Rattle.venue_turns.specs.declared.turns.VenueTurns.{VenueTurns}
use Rattle.venue_turns.proofs.Placing.{place_here, none_put, first_there}

module _ (w : Ways) (e : Ends) (t : VenueTurns) (run : List VenueCall) (st : TurnsStand w e t run) where
  -- this is due, and the turns stay
  answers : (what : Due) → due_at w e run t.place ≡ what → ((call : VenueCall) → IsMade e what call → IsAt t.place call) → Answers w e run t.place t (Some what)
  answers what is there = record {
    stands = st;
    next = record { due_is = st.due_is ∙ ap Some is; is_at = there };
    behind = tt;
  }

  -- nothing is due, and the turn is another
  moves : (that : Place) → IsPlace w run that → due_at w e run t.place ≡ due_at w e run that → IsBehind t.place that → Answers w e run t.place (record t { place = that }) None
  moves that there is behind = record {
    stands = record {
      ways = record { places_are = st.ways.places_are; few = st.ways.few };
      each = λ place l has. st.each place l has;
      place_is = there;
      due_is = st.due_is ∙ ap Some is;
      more_is = st.more_is;
      over_is = st.over_is;
    };
    next = tt;
    behind = behind;
  }

  -- ---- A turn begins
  module _ (place : ℕ) (here : t.place ≡ at.First place) where
    pub first_within : place < w.places
    first_within = (subst (IsPlace w run) here st.place_is).0

    pub answers_first : (what : Due) → what ≡ first_of e run place → Answers w e run t.place t (Some what)
    answers_first what is = answers what (ap (due_at w e run) here ∙ place_here w e run place first_within ∙ sym is) (λ call made. subst (λ (p : Place). IsAt p call) (sym here) (first_there e run place call (subst (λ (d : Due). IsMade e d call) is made)))

  -- ---- What waits for it is put
  module _ (place wrote : ℕ) (here : t.place ≡ at.Put place wrote) where
    pub put_here : (place < w.places) × (wrote < 16) × (wrote ≡ puts_from place run) × (pieces_from (place + 1) run ≡ 0)
    put_here = subst (IsPlace w run) here st.place_is

    next_by : (shut : Bool) → length (e.waits place) ≡ 0 → e.shut place ≡ shut → due_at w e run t.place ≡ cond shut (to.Close place) (from_place w e run (place + 1))
    next_by shut none is =
        ap (due_at w e run) here ∙ none_put (e.waits place) place (cond (e.shut place) (to.Close place) (from_place w e run (place + 1))) none
        ∙ ap (λ (b : Bool). cond b (to.Close place) (from_place w e run (place + 1))) is

    pub put_is_over : length (e.waits place) ≡ 0 → e.shut place ≡ false → (that : Place) → due_at w e run that ≡ from_place w e run (place + 1) → IsPlace w run that → IsFrom (place + 1) that → Answers w e run t.place (record t { place = that }) None
    put_is_over none open_now that is there from = moves that there (next_by false none open_now ∙ sym is) (subst (λ (p : Place). IsBehind p that) (sym here) (behind that from))
      where
        behind : (that : Place) → IsFrom (place + 1) that → IsBehind (at.Put place wrote) that
        behind at.Wait from = from
        behind (at.Input read) from = absurd from
        behind (at.First other) from = from
        behind (at.Taken other taken) from = absurd from
        behind (at.Put other taken) from = absurd from
