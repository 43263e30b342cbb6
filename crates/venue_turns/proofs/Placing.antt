-- What is due at a place.
use Rattle.std.proofs.Common.{◌≡◌, ◌<◌, ◌≤◌, ℕ, ◌+◌, ◌==◌, nat_lt, Bool, true, false, not, cond, ◌&&◌, ◌||◌, List, [], ◌∷◌, length, slice_get, slice_set, get_or, length-set, eqb, lit<, ◌⊎◌, inl, inr, refl, sym, ap, ◌∙◌, subst, arith, Option, Some}
use Rattle.std.proofs.lemmas.Bool.{eq-eqb, eqb-true, ne_eqb, lt-ltb, le-ltb}
use Rattle.std.proofs.lemmas.Bool.Decides.{eqb_tells}
use Rattle.std.proofs.lemmas.Grind.{get_or-set_at}
use Rattle.std.proofs.lemmas.List.{get_or-set_other}
use Rattle.std.proofs.lemmas.Option.{slice_get_within, get_or_from_slice_get, slice_get-get_or}
use Rattle.live_net.specs.declared.live.PeerTaken.{PeerTaken}
use Rattle.live_net.specs.declared.live.PeerTaken.TheVariants as taken
use Rattle.live_net.specs.declared.live.PeerPut.{PeerPut}
use Rattle.live_net.specs.declared.live.PeerPut.TheVariants as put
use Rattle.venue_net.specs.VenueCalls.{VenueCall, Wait, Read, Send, Accept, Take, Put, Close}
use Rattle.venue_net.specs.declared.net.InputRead.{InputRead}
use Rattle.venue_net.specs.declared.net.InputRead.TheVariants as input
use Rattle.venue_turns.specs.Due.{Ways, Ends, due, first_of, from_place, put_first, after_piece, put_or, is_more_left, is_read, reads_from, pieces_from, puts_from, IsMade, most_waiting}
use Rattle.venue_turns.specs.Standing.{ends_by, stands, is_stuck}
use Rattle.venue_turns.specs.Turning.{IsAt, IsPlace, pieces_at}
use Rattle.venue_turns.specs.declared.due.Due.{Due}
use Rattle.venue_turns.specs.declared.due.Due.TheVariants as to
use Rattle.venue_turns.specs.declared.place.Place.{Place}
use Rattle.venue_turns.specs.declared.place.Place.TheVariants as at
use Rattle.venue_turns.proofs.Linking.{place_called, same_place, no_place}

-- ---- Places
module _ (w : Ways) (e : Ends) (run : List VenueCall) (place : ℕ) where
  pub place_here : place < w.places → from_place w e run place ≡ first_of e run place
  place_here within = ap (λ (b : Bool). cond b (first_of e run place) (to.Wait (is_more_left run))) (lt-ltb place w.places within)

-- ---- What comes first in a turn
choose : (stood too_much stuck : Bool) (place : ℕ) → Due
choose stood too_much stuck place =
    cond (not stood) (to.Accept place) (cond (too_much || stuck) (to.Close place) (to.Take place))

-- who makes it is at its turn
pub first_there : (e : Ends) (run : List VenueCall) (place : ℕ) (call : VenueCall) → IsMade e (first_of e run place) call → IsAt (at.First place) call
unfolding choose
first_there e run place = by (stands place run) (nat_lt most_waiting (length (e.waits place))) (is_stuck place run)
  where
    by : (stood too_much stuck : Bool) (call : VenueCall) → IsMade e (choose stood too_much stuck place) call → IsAt (at.First place) call
    by false too_much stuck (Accept p came) is = is
    by false too_much stuck call is = absurd is
    by true true stuck (Close p) is = is
    by true true stuck call is = absurd is
    by true false true (Close p) is = is
    by true false true call is = absurd is
    by true false false (Take p room bytes answer) is = is.0
    by true false false call is = absurd is

-- ---- What comes behind the bytes of a client
pub none_put : (bytes : List ℕ) (place : ℕ) (next : Due) → length bytes ≡ 0 → put_or bytes place next ≡ next
none_put [] place next none = refl
none_put (byte ∷ bytes) place next none = absurd (omega (arith, none))

pub turn_is_full : (w : Ways) (e : Ends) (run : List VenueCall) (place : ℕ) → 16 ≤ pieces_from place run → after_piece w e run place ≡ put_first w e run place
turn_is_full w e run place full = ap (λ (b : Bool). cond (b && not (e.shut place)) (to.Take place) (put_first w e run place)) (le-ltb (pieces_from place run) 16 full)

-- ---- The place of a call at its turn
-- it is one of those that there are
pub within : (w : Ways) (run : List VenueCall) (that : Place) (call : VenueCall) (place : ℕ) → place_called call ≡ Some place → IsPlace w run that → IsAt that call → place < w.places
within w run that (Wait more answer) place is pl at = absurd (no_place place is)
within w run that (Read room bytes answer) place is pl at = absurd (no_place place is)
within w run that (Send line datagram) place is pl at = absurd (no_place place is)
within w run at.Wait (Accept p came) place is pl at = absurd at
within w run (at.Input read) (Accept p came) place is pl at = absurd at
within w run (at.First q) (Accept p came) place is pl at = subst (λ (n : ℕ). n < w.places) (sym at ∙ same_place p place is) pl.0
within w run (at.Taken q taken) (Accept p came) place is pl at = absurd at
within w run (at.Put q wrote) (Accept p came) place is pl at = absurd at
within w run at.Wait (Take p room bytes answer) place is pl at = absurd at
within w run (at.Input read) (Take p room bytes answer) place is pl at = absurd at
within w run (at.First q) (Take p room bytes answer) place is pl at = subst (λ (n : ℕ). n < w.places) (sym at ∙ same_place p place is) pl.0
within w run (at.Taken q taken) (Take p room bytes answer) place is pl at = subst (λ (n : ℕ). n < w.places) (sym at ∙ same_place p place is) pl.0
within w run (at.Put q wrote) (Take p room bytes answer) place is pl at = absurd at
within w run at.Wait (Put p piece answer) place is pl at = absurd at
within w run (at.Input read) (Put p piece answer) place is pl at = absurd at
within w run (at.First q) (Put p piece answer) place is pl at = absurd at
within w run (at.Taken q taken) (Put p piece answer) place is pl at = absurd at
within w run (at.Put q wrote) (Put p piece answer) place is pl at = subst (λ (n : ℕ). n < w.places) (sym at ∙ same_place p place is) pl.0
within w run at.Wait (Close p) place is pl at = absurd at
within w run (at.Input read) (Close p) place is pl at = absurd at
within w run (at.First q) (Close p) place is pl at = subst (λ (n : ℕ). n < w.places) (sym at ∙ same_place p place is) pl.0
within w run (at.Taken q taken) (Close p) place is pl at = absurd at
within w run (at.Put q wrote) (Close p) place is pl at = subst (λ (n : ℕ). n < w.places) (sym at ∙ same_place p place is) pl.0

-- how many pieces came or went up to now, by the count of the turn
pub record Counted (that : Place) (count : ℕ) : Type 0 where
  pub few : pieces_at that < 16
  pub pieces_are : pieces_at that ≡ count

pub reads_counted : (w : Ways) (run : List VenueCall) (that : Place) (room : ℕ) (bytes : List ℕ) (answer : InputRead) → IsPlace w run that → IsAt that (Read room bytes answer) → Counted that (reads_from run)
reads_counted w run at.Wait room bytes answer pl at = absurd at
reads_counted w run (at.Input read) room bytes answer pl at = record { few = pl.0; pieces_are = pl.1 }
reads_counted w run (at.First q) room bytes answer pl at = absurd at
reads_counted w run (at.Taken q taken) room bytes answer pl at = absurd at
reads_counted w run (at.Put q wrote) room bytes answer pl at = absurd at

pub takes_counted : (w : Ways) (run : List VenueCall) (that : Place) (place room : ℕ) (bytes : List ℕ) (answer : PeerTaken) → IsPlace w run that → IsAt that (Take place room bytes answer) → Counted that (pieces_from place run)
takes_counted w run at.Wait place room bytes answer pl at = absurd at
takes_counted w run (at.Input read) place room bytes answer pl at = absurd at
takes_counted w run (at.First q) place room bytes answer pl at = record { few = lit< tt; pieces_are = sym (ap (λ (p : ℕ). pieces_from p run) at ∙ pl.1) }
takes_counted w run (at.Taken q taken) place room bytes answer pl at = record { few = pl.2; pieces_are = pl.3 ∙ ap (λ (p : ℕ). pieces_from p run) (sym at) }
takes_counted w run (at.Put q wrote) place room bytes answer pl at = absurd at

pub puts_counted : (w : Ways) (run : List VenueCall) (that : Place) (place : ℕ) (piece : List ℕ) (answer : PeerPut) → IsPlace w run that → IsAt that (Put place piece answer) → Counted that (puts_from place run)
puts_counted w run at.Wait place piece answer pl at = absurd at
puts_counted w run (at.Input read) place piece answer pl at = absurd at
puts_counted w run (at.First q) place piece answer pl at = absurd at
puts_counted w run (at.Taken q taken) place piece answer pl at = absurd at
puts_counted w run (at.Put q wrote) place piece answer pl at = record { few = pl.1; pieces_are = pl.2 ∙ ap (λ (p : ℕ). puts_from p run) (sym at) }

-- ---- A piece more of the input
module _ (room n : ℕ) (bytes : List ℕ) (run : List VenueCall) where
  pub input_is_full : reads_from run ≡ 15 → true ≡ is_more_left (Read room bytes (input.Got n) ∷ run)
  input_is_full full = sym (ap (λ (k : ℕ). (k + 1 == 16) || is_more_left run) full)

  pub input_has_more : reads_from run < 15 → is_more_left run ≡ is_more_left (Read room bytes (input.Got n) ∷ run)
  input_has_more few = sym (ap (λ (b : Bool). b || is_more_left run) (ne_eqb (reads_from run + 1) 16 (λ is. omega (arith, is, few))))

  module _ (w : Ways) (e : Ends) where
    pub due_places : reads_from run ≡ 15 → due w e (Read room bytes (input.Got n) ∷ run) ≡ Some (from_place w e (Read room bytes (input.Got n) ∷ run) 0)
    due_places full = ap (λ (k : ℕ). Some (cond (nat_lt (k + 1) 16) to.Read (from_place w e (Read room bytes (input.Got n) ∷ run) 0))) full

    pub due_input : reads_from run < 15 → due w e (Read room bytes (input.Got n) ∷ run) ≡ Some to.Read
    due_input few = ap (λ (b : Bool). Some (cond b to.Read (from_place w e (Read room bytes (input.Got n) ∷ run) 0))) (lt-ltb (reads_from run + 1) 16 (omega (arith, few)))

-- ---- A piece more of a client
module _ (place room n : ℕ) (bytes : List ℕ) (run : List VenueCall) where
  pub piece_more : pieces_from place (Take place room bytes (taken.Got n) ∷ run) ≡ pieces_from place run + 1
  piece_more = ap (λ (b : Bool). cond b (pieces_from place run + 1) 0) (eq-eqb place place refl)

  pub next_gave_none : pieces_from (place + 1) (Take place room bytes (taken.Got n) ∷ run) ≡ 0
  next_gave_none = ap (λ (b : Bool). cond b (pieces_from (place + 1) run + 1) 0) (ne_eqb place (place + 1) (λ is. omega (arith, is)))

  pub client_is_full : pieces_from place run ≡ 15 → true ≡ is_more_left (Take place room bytes (taken.Got n) ∷ run)
  client_is_full full = sym (ap (λ (k : ℕ). (k == 16) || is_more_left run) (piece_more ∙ ap (λ (k : ℕ). k + 1) full))

  pub client_has_more : pieces_from place run < 15 → is_more_left run ≡ is_more_left (Take place room bytes (taken.Got n) ∷ run)
  client_has_more few =
      sym (ap (λ (k : ℕ). (k == 16) || is_more_left run) piece_more
      ∙ ap (λ (b : Bool). b || is_more_left run) (ne_eqb (pieces_from place run + 1) 16 (λ is. omega (arith, is, few))))

  pub due_put : (w : Ways) (e : Ends) → pieces_from place run ≡ 15 → due w e (Take place room bytes (taken.Got n) ∷ run) ≡ Some (put_first w e (Take place room bytes (taken.Got n) ∷ run) place)
  due_put w e full =
      let more = piece_more in
      ap Some (turn_is_full w e (Take place room bytes (taken.Got n) ∷ run) place (omega (arith, more, full)))

-- ---- A piece more that a client took
module _ (place n : ℕ) (piece : List ℕ) (run : List VenueCall) where
  pub put_more : puts_from place (Put place piece (put.Wrote n) ∷ run) ≡ puts_from place run + 1
  put_more = ap (λ (b : Bool). cond b (puts_from place run + 1) 0) (eq-eqb place place refl)

  pub puts_are_over : puts_from place run ≡ 15 → true ≡ is_more_left (Put place piece (put.Wrote n) ∷ run)
  puts_are_over full = sym (ap (λ (k : ℕ). (k == 16) || is_more_left run) (put_more ∙ ap (λ (k : ℕ). k + 1) full))

  pub puts_go_on : puts_from place run < 15 → is_more_left run ≡ is_more_left (Put place piece (put.Wrote n) ∷ run)
  puts_go_on few =
      sym (ap (λ (k : ℕ). (k == 16) || is_more_left run) put_more
      ∙ ap (λ (b : Bool). b || is_more_left run) (ne_eqb (puts_from place run + 1) 16 (λ is. omega (arith, is, few))))

  module _ (w : Ways) (e : Ends) where
    abbrev after : ℕ → Option Due
    after k = Some (cond (nat_lt k 16) (put_first w e (Put place piece (put.Wrote n) ∷ run) place) (from_place w e (Put place piece (put.Wrote n) ∷ run) (place + 1)))

    pub due_next : puts_from place run ≡ 15 → due w e (Put place piece (put.Wrote n) ∷ run) ≡ Some (from_place w e (Put place piece (put.Wrote n) ∷ run) (place + 1))
    due_next full = ap after (put_more ∙ ap (λ (k : ℕ). k + 1) full)

    pub due_put_more : puts_from place run < 15 → due w e (Put place piece (put.Wrote n) ∷ run) ≡ Some (put_first w e (Put place piece (put.Wrote n) ∷ run) place)
    due_put_more few =
        ap after put_more
        ∙ ap (λ (b : Bool). Some (cond b (put_first w e (Put place piece (put.Wrote n) ∷ run) place) (from_place w e (Put place piece (put.Wrote n) ∷ run) (place + 1)))) (lt-ltb (puts_from place run + 1) 16 (omega (arith, few)))

-- ---- A connection that ended
-- its place's turn is over, no piece came, and nothing more is left
pub record Over (w : Ways) (e : Ends) (run : List VenueCall) (place : ℕ) (call : VenueCall) : Type 0 where
  pub called : place_called call ≡ Some place
  pub due_is : due w e (call ∷ run) ≡ Some (from_place w e (call ∷ run) (place + 1))
  pub none : pieces_from (place + 1) (call ∷ run) ≡ 0
  pub more_is : is_more_left run ≡ is_more_left (call ∷ run)
  pub read_is : is_read run ≡ is_read (call ∷ run)

pub is_over : (w : Ways) (e : Ends) (run : List VenueCall) (place : ℕ) (call : VenueCall) → ends_by place call ≡ true → Over w e run place call
is_over w e run place (Wait more answer) is = cc
is_over w e run place (Read room bytes answer) is = cc
is_over w e run place (Send line datagram) is = cc
is_over w e run place (Accept p came) is = cc
is_over w e run place (Take p room bytes (taken.Got n)) is = cc
is_over w e run place (Take p room bytes taken.Quiet) is = cc
is_over w e run place (Take p room bytes taken.Ended) is = record {
  called = ap Some (eqb-true p place is);
  due_is = ap (λ (q : ℕ). Some (from_place w e (Take p room bytes taken.Ended ∷ run) (q + 1))) (eqb-true p place is);
  none = refl;
  more_is = refl;
  read_is = refl;
}
is_over w e run place (Put p piece (put.Wrote n)) is = cc
is_over w e run place (Put p piece put.Full) is = cc
is_over w e run place (Put p piece put.Ended) is = record {
  called = ap Some (eqb-true p place is);
  due_is = ap (λ (q : ℕ). Some (from_place w e (Put p piece put.Ended ∷ run) (q + 1))) (eqb-true p place is);
  none = refl;
  more_is = refl;
  read_is = refl;
}
is_over w e run place (Close p) is = record {
  called = ap Some (eqb-true p place is);
  due_is = ap (λ (q : ℕ). Some (from_place w e (Close p ∷ run) (q + 1))) (eqb-true p place is);
  none = refl;
  more_is = refl;
  read_is = refl;
}

-- ---- What is kept of each place
pub kept_at : {A : Type 0} (xs : List A) (i k : ℕ) (y r : A) → slice_get (slice_set xs i y) k ≡ Some r → (k ≡ i) × (r ≡ y) ⊎ ((k ≡ i → ⊥) × (slice_get xs k ≡ Some r))
kept_at xs i k y r is = by (eqb_tells k i)
  where
    long : length (slice_set xs i y) ≡ length xs
    long = length-set xs i y

    within : k < length xs
    within = let at = slice_get_within (slice_set xs i y) k r is in omega (arith, at, long)

    has : get_or (slice_set xs i y) k r ≡ r
    has = get_or_from_slice_get (slice_set xs i y) k r r is

    by : ((eqb k i ≡ true) × (k ≡ i)) ⊎ ((eqb k i ≡ false) × (k ≡ i → ⊥)) → (k ≡ i) × (r ≡ y) ⊎ ((k ≡ i → ⊥) × (slice_get xs k ≡ Some r))
    by (inl same) = inl (same.1, sym has ∙ get_or-set_at xs i k y r same.1 (omega (arith, within, same.1)))
    by (inr other) = inr (other.1, slice_get-get_or xs k r within ∙ ap Some (sym (get_or-set_other xs i k y r other.1) ∙ has))
