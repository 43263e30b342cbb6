-- The input is read until it is at its end, and never afterwards.
use Rattle.std.proofs.Common.{◌≡◌, ℕ, ◌+◌, Bool, true, false, cond, not, ◌&&◌, nat_lt, List, [], ◌∷◌, refl, sym, ap, ◌∙◌, Some}
use Rattle.std.proofs.lemmas.Option.{none-some, same_Some}
use Rattle.live_net.specs.declared.live.WaitEnd.TheVariants as wait_end
use Rattle.live_net.specs.declared.live.PeerTaken.TheVariants as taken
use Rattle.live_net.specs.declared.live.PeerPut.TheVariants as put
use Rattle.live_turns.specs.Due.{most_pieces}
use Rattle.venue_end.specs.declared.setup.VenueSetup.{VenueSetup}
use Rattle.venue_net.specs.VenueCalls.{VenueCall, Wait, Read, Send, Accept, Take, Put, Close}
use Rattle.venue_net.specs.declared.net.InputRead.{InputRead}
use Rattle.venue_net.specs.declared.net.InputRead.TheVariants as input
use Rattle.venue_turns.specs.Due.{Ends, IsMade, Ways, after_piece, after_put, due, first_of, from_input, from_place, is_kept_no_longer, is_more_left, is_read, pieces_from, put_first, put_or, puts_from}
use Rattle.venue_turns.specs.Standing.{stands}
use Rattle.venue_turns.specs.declared.due.Due.{Due}
use Rattle.venue_turns.specs.declared.due.Due.TheVariants as to
use Rattle.live_venue.specs.Running.{Now, Runs, ends_now, turns_of, ways}

-- ---- The turn of a place has no read
module _ (w : Ways) (e : Ends) (run : List VenueCall) where
  first_no_read : (place : ℕ) → first_of e run place ≡ to.Read → ⊥
  first_no_read place = by (not (stands place run))
    where
      by : (b : Bool) → cond b (to.Accept place) (cond (is_kept_no_longer e run place) (to.Close place) (to.Take place)) ≡ to.Read → ⊥
      by true is = cc
      by false is = kept (is_kept_no_longer e run place) is
        where
          kept : (b : Bool) → cond b (to.Close place) (to.Take place) ≡ to.Read → ⊥
          kept true is = cc
          kept false is = cc

  place_no_read : (place : ℕ) → from_place w e run place ≡ to.Read → ⊥
  place_no_read place = by (nat_lt place w.places)
    where
      by : (b : Bool) → cond b (first_of e run place) (to.Wait (is_more_left run)) ≡ to.Read → ⊥
      by true is = first_no_read place is
      by false is = cc

  put_no_read : (place : ℕ) → put_first w e run place ≡ to.Read → ⊥
  put_no_read place = by (e.waits place)
    where
      shut : (b : Bool) → cond b (to.Close place) (from_place w e run (place + 1)) ≡ to.Read → ⊥
      shut true is = cc
      shut false is = place_no_read (place + 1) is

      by : (waits : List ℕ) → put_or waits place (cond (e.shut place) (to.Close place) (from_place w e run (place + 1))) ≡ to.Read → ⊥
      by [] is = shut (e.shut place) is
      by (byte ∷ bytes) is = cc

  piece_no_read : (place : ℕ) → after_piece w e run place ≡ to.Read → ⊥
  piece_no_read place = by (nat_lt (pieces_from place run) most_pieces && not (e.shut place))
    where
      by : (b : Bool) → cond b (to.Take place) (put_first w e run place) ≡ to.Read → ⊥
      by true is = cc
      by false is = put_no_read place is

  after_put_no_read : (place : ℕ) → after_put w e run place ≡ to.Read → ⊥
  after_put_no_read place = by (nat_lt (puts_from place run) most_pieces)
    where
      by : (b : Bool) → cond b (put_first w e run place) (from_place w e run (place + 1)) ≡ to.Read → ⊥
      by true is = put_no_read place is
      by false is = place_no_read (place + 1) is

  input_no_read : from_input w e run ≡ to.Read → is_read run ≡ false
  input_no_read = by (is_read run)
    where
      by : (b : Bool) → cond b (from_place w e run 0) to.Read ≡ to.Read → b ≡ false
      by true is = absurd (place_no_read 0 is)
      by false is = refl

  none_due : (what : Due) → (what ≡ to.Read → ⊥) → Some what ≡ Some to.Read → ⊥
  none_due what differs is = differs (same_Some what to.Read is)

-- ---- So one is due only before the end
-- the last call, where it read, did so before the end
abbrev pub ReadBefore : List VenueCall → Type 0
ReadBefore (Read room bytes answer ∷ before) = is_read before ≡ false
ReadBefore calls = Unit {0}

read_due : (w : Ways) (e : Ends) (run : List VenueCall) → ReadBefore run → due w e run ≡ Some to.Read → is_read run ≡ false
read_due w e [] fine is = refl
read_due w e (Wait more wait_end.Ready ∷ before) fine is = input_no_read w e (Wait more wait_end.Ready ∷ before) (same_Some (from_input w e (Wait more wait_end.Ready ∷ before)) to.Read is)
read_due w e (Wait more wait_end.Second ∷ before) fine is = input_no_read w e (Wait more wait_end.Second ∷ before) (same_Some (from_input w e (Wait more wait_end.Second ∷ before)) to.Read is)
read_due w e (Wait more wait_end.Over ∷ before) fine is = absurd (none-some to.Read is)
read_due w e (Wait more wait_end.Failed ∷ before) fine is = absurd (none-some to.Read is)
read_due w e (Read room bytes (input.Got n) ∷ before) fine is = fine
read_due w e (Read room bytes input.Quiet ∷ before) fine is = fine
read_due w e (Read room bytes input.Ended ∷ before) fine is = absurd (none_due w e (Read room bytes input.Ended ∷ before) (from_place w e (Read room bytes input.Ended ∷ before) 0) (place_no_read w e (Read room bytes input.Ended ∷ before) 0) is)
read_due w e (Read room bytes input.Failed ∷ before) fine is = fine
read_due w e (Send line datagram ∷ before) fine is = absurd (none-some to.Read is)
read_due w e (Accept place true ∷ before) fine is = absurd (none_due w e (Accept place true ∷ before) (from_place w e (Accept place true ∷ before) place) (place_no_read w e (Accept place true ∷ before) place) is)
read_due w e (Accept place false ∷ before) fine is = absurd (none_due w e (Accept place false ∷ before) (from_place w e (Accept place false ∷ before) (place + 1)) (place_no_read w e (Accept place false ∷ before) (place + 1)) is)
read_due w e (Take place room bytes (taken.Got n) ∷ before) fine is = absurd (none_due w e (Take place room bytes (taken.Got n) ∷ before) (after_piece w e (Take place room bytes (taken.Got n) ∷ before) place) (piece_no_read w e (Take place room bytes (taken.Got n) ∷ before) place) is)
read_due w e (Take place room bytes taken.Quiet ∷ before) fine is = absurd (none_due w e (Take place room bytes taken.Quiet ∷ before) (put_first w e (Take place room bytes taken.Quiet ∷ before) place) (put_no_read w e (Take place room bytes taken.Quiet ∷ before) place) is)
read_due w e (Take place room bytes taken.Ended ∷ before) fine is = absurd (none_due w e (Take place room bytes taken.Ended ∷ before) (from_place w e (Take place room bytes taken.Ended ∷ before) (place + 1)) (place_no_read w e (Take place room bytes taken.Ended ∷ before) (place + 1)) is)
read_due w e (Put place piece (put.Wrote n) ∷ before) fine is = absurd (none_due w e (Put place piece (put.Wrote n) ∷ before) (after_put w e (Put place piece (put.Wrote n) ∷ before) place) (after_put_no_read w e (Put place piece (put.Wrote n) ∷ before) place) is)
read_due w e (Put place piece put.Full ∷ before) fine is = absurd (none_due w e (Put place piece put.Full ∷ before) (from_place w e (Put place piece put.Full ∷ before) (place + 1)) (place_no_read w e (Put place piece put.Full ∷ before) (place + 1)) is)
read_due w e (Put place piece put.Ended ∷ before) fine is = absurd (none_due w e (Put place piece put.Ended ∷ before) (from_place w e (Put place piece put.Ended ∷ before) (place + 1)) (place_no_read w e (Put place piece put.Ended ∷ before) (place + 1)) is)
read_due w e (Close place ∷ before) fine is = absurd (none_due w e (Close place ∷ before) (from_place w e (Close place ∷ before) (place + 1)) (place_no_read w e (Close place ∷ before) (place + 1)) is)

-- a read is made only where one is due
read_made : (e : Ends) (what : Due) (room : ℕ) (bytes : List ℕ) (answer : InputRead) → IsMade e what (Read room bytes answer) → what ≡ to.Read
read_made e to.Read room bytes answer made = refl
read_made e (to.Wait more) room bytes answer made = absurd made
read_made e (to.Accept place) room bytes answer made = absurd made
read_made e (to.Take place) room bytes answer made = absurd made
read_made e (to.Put place) room bytes answer made = absurd made
read_made e (to.Close place) room bytes answer made = absurd made

-- ---- In a run
pub turns_read : (run : List VenueCall) → is_read (turns_of run) ≡ is_read run
turns_read [] = refl
turns_read (Send line datagram ∷ run) = turns_read run
turns_read (Wait more answer ∷ run) = turns_read run
turns_read (Read room bytes (input.Got n) ∷ run) = turns_read run
turns_read (Read room bytes input.Quiet ∷ run) = turns_read run
turns_read (Read room bytes input.Ended ∷ run) = refl
turns_read (Read room bytes input.Failed ∷ run) = turns_read run
turns_read (Accept place came ∷ run) = turns_read run
turns_read (Take place room bytes answer ∷ run) = turns_read run
turns_read (Put place piece answer ∷ run) = turns_read run
turns_read (Close place ∷ run) = turns_read run

read_before : (s : List VenueSetup) (run : List VenueCall) (now : Now) → Runs s run now → ReadBefore (turns_of run)
read_before s [] now runs = tt
read_before s (Send line datagram ∷ run) now (before, (runs, on)) = read_before s run before runs
read_before s (Read room bytes answer ∷ run) now (before, (runs, on)) =
    read_due (ways s) (ends_now s before.came) (turns_of run) (read_before s run before runs)
    (on.is_due.due_is ∙ ap (λ (d : Due). Some d) (read_made (ends_now s before.came) on.is_due.what room bytes answer on.is_due.made))
read_before s (Wait more answer ∷ run) now (before, (runs, on)) = tt
read_before s (Accept place came ∷ run) now (before, (runs, on)) = tt
read_before s (Take place room bytes answer ∷ run) now (before, (runs, on)) = tt
read_before s (Put place piece answer ∷ run) now (before, (runs, on)) = tt
read_before s (Close place ∷ run) now (before, (runs, on)) = tt

-- where a call reads, the input is not at its end yet
pub reads_before_the_end : (s : List VenueSetup) (run : List VenueCall) (room : ℕ) (bytes : List ℕ) (answer : InputRead) (now : Now) → Runs s (Read room bytes answer ∷ run) now → is_read run ≡ false
reads_before_the_end s run room bytes answer now runs = sym (turns_read run) ∙ read_before s (Read room bytes answer ∷ run) now runs
